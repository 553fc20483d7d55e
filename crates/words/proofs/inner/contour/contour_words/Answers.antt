-- `contour::contour_words` meets its contract: one column more is written, and all columns are the contour. Assumes
-- nothing.
use mathlib.Core.Path.{refl}
use native.Mathlib.Omega.{arith}
use Rattle.words.proofs.ContourLaws.{contour-more, contour-whole}
use Rattle.words.proofs.inner.contour.contour_words.Goals as goal

pub loop-k-preserved : goal.loop-k-preserved
loop-k-preserved c =
    contour-more c.args.frame _ c.args.frame.rows c.loop-k.k _ _ refl c.keep_at-keep.ensures c.loop-k.invariant
    c.contour_column.ensures

pub returns : goal.returns
returns c width height image of binary framed =
    contour-whole c.args.frame.rows c.loop-k.k refl (omega arith) c.loop-k.invariant of binary framed
