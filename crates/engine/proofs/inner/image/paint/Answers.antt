-- `paint` meets its contract: the stretch is what the range of the queue holds. Assumes nothing.
use native.Mathlib.Omega.{arith}
use lib.Seq.{take_all}
use Rattle.std.proofs.lemmas.Grind.{common_steps}
use Rattle.engine.proofs.PaintLaws.{painted-none, painted-next}
use Rattle.engine.proofs.StretchLaws.{slice-range}
use Rattle.engine.proofs.inner.image.paint.Goals as goal

pub loop-at-init : goal.loop-at-init
loop-at-init c = painted-none _ _

pub loop-at-preserved : goal.loop-at-preserved
loop-at-preserved c =
    rw c.from.ensures (painted-next _ _ c.loop-at.invariant c.loop-at-test.true (grind (arith, common_steps)))

pub returns : goal.returns
returns c =
    rw (slice-range _ _ _ c.requires.ordered) (rw (take_all _ _ c.loop-at-test.false) at c.loop-at.invariant)
