-- `bad_side` meets its contract, test by test. Assumes nothing.
use borrow.Author.Tests.{lt-ltb, le-ltb}
use Rattle.model.specs.Refusals.{bad_side}
use Rattle.judging.proofs.bad_side.Goals as goal

pub returns-then-side-lt1 : goal.returns-then-side-lt1
unfolding bad_side
returns-then-side-lt1 c = simp (lt-ltb _ _ c.if-side-lt1.true)

pub returns-else-side-lt1 : goal.returns-else-side-lt1
unfolding bad_side
returns-else-side-lt1 c = simp (le-ltb _ _ c.if-side-lt1.false)
