-- `count_used` meets its contract: the test says which case holds. Assumes nothing.
use borrow.Author.Tests.{eq-eqb, ne_eqb}
use Rattle.operations.proofs.inner.count_used.Goals as goal

pub returns-then-first-eq0 : goal.returns-then-first-eq0
returns-then-first-eq0 c = simp (eq-eqb _ _ c.if-first-eq0.true)

pub returns : goal.returns
returns c = simp (ne_eqb _ _ c.if-first-eq0.false)
