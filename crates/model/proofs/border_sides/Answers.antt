-- `model::border_sides` meets its contract, case by case. Assumes nothing.
use borrow.Author.Tests.{ne_eqb}
use Rattle.model.specs.Operations.{border_sides}
use Rattle.model.proofs.border_sides.Goals as goal

pub returns-then-border_value-eq0 : goal.returns-then-border_value-eq0
unfolding border_sides
returns-then-border_value-eq0 c = rw c.if-border_value-eq0.true

pub returns : goal.returns
unfolding border_sides
returns c = rw (ne_eqb _ _ c.if-border_value-eq0.false)
