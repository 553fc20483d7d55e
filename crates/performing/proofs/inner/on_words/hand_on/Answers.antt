-- `on_words::hand_on` meets its contract: the image unpacked, its contour listed and zeros behind. Assumes nothing.
use native.Mathlib.Omega.{arith}
use Rattle.neighbours.proofs.PositionLaws.{size-le}
use Rattle.operations.proofs.HandOnLaws.{scan-le}
use Rattle.performing.proofs.OnWordsLaws.{whole-listed, listed-hands-on}
use Rattle.performing.proofs.inner.on_words.hand_on.Goals as goal

pub overflow_cast-result : goal.overflow_cast-result
overflow_cast-result c =
    omega (
      arith,
      scan-le _ _ _ c.requires.height_in_bounds (whole-listed _ c.list_contour-listed.ensures.listed),
      size-le c.requires.sized.valid,
    )

pub returns : goal.returns
returns c =
    let listed = whole-listed _ c.list_contour-listed.ensures.listed in
    listed-hands-on _ c.requires.height_in_bounds c.unpack.ensures listed c.clear_behind.ensures
