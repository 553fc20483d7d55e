-- `beside_background` meets its contract: the four neighbours of a position that is not on the border are inside, and
-- the least of them is 0 where one is. Assumes nothing.
use native.Mathlib.Omega.{arith}
use Rattle.neighbours.proofs.GridLaws.{not_border-behind, not_border-ahead}
use Rattle.neighbours.proofs.ContourLaws.{least-beside}
use Rattle.neighbours.proofs.inner.beside_background.Goals as goal

pub bounds-image-at : goal.bounds-image-at
bounds-image-at c =
    let at = c.requires.off_border in
    omega (arith, not_border-ahead _ _ _ at.inside at.off, c.requires.image_len)

pub overflow_sub-at : goal.overflow_sub-at
overflow_sub-at c = let at = c.requires.off_border in omega (arith, not_border-behind _ _ _ at.inside at.off)

pub overflow_sub-at-2 : goal.overflow_sub-at-2
overflow_sub-at-2 c = let at = c.requires.off_border in omega (arith, not_border-behind _ _ _ at.inside at.off)

pub bounds-image-at-4 : goal.bounds-image-at-4
bounds-image-at-4 c =
    let at = c.requires.off_border in
    omega (arith, not_border-ahead _ _ _ at.inside at.off, c.requires.image_len)

pub returns : goal.returns
returns c =
    rw (c.min.ensures, c.min-above_below.ensures, c.min-beside.ensures)
    (least-beside _ _ _ _ c.requires.off_border.inside c.requires.off_border.off)
