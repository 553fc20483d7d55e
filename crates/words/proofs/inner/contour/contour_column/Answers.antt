-- `contour::contour_column` meets its contract: one word more is written. Assumes nothing.
use native.Mathlib.Omega.{arith}
use Rattle.words.proofs.WrittenLaws.{written-more}
use Rattle.words.proofs.inner.contour.contour_column.Goals as goal

pub loop-y-preserved : goal.loop-y-preserved
loop-y-preserved c =
    written-more _ _ (omega arith) c.loop-y.invariant (omega arith) (omega arith) c.contour_word.ensures
