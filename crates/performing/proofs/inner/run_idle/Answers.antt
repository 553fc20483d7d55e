-- `run_idle` meets its contract: the contour is taken in hand and stays. Assumes nothing.
use mathlib.Core.Path.{refl}
use native.Mathlib.Omega.{arith}
use Rattle.neighbours.proofs.PositionLaws.{size-le}
use Rattle.neighbours.proofs.CropLaws.{ready-same}
use Rattle.operations.proofs.OpenLaws.{hand-le, hand-within}
use Rattle.performing.proofs.IdleLaws.{hand-unchanged}
use Rattle.performing.proofs.inner.run_idle.Goals as goal

pub unchanged-requires : goal.unchanged-requires
unchanged-requires c =
    let taken = c.take_contour-len.ensures in
    let ready = ready-same c.requires.workable.ready refl taken.size in
    record {
      len_in_bounds = hand-within ready taken.hand;
      len_le_max_pixels = omega (arith, hand-le ready taken.hand, size-le ready.valid);
    }

pub returns : goal.returns
returns c =
    let taken = c.take_contour-len.ensures in
    let same = c.unchanged.ensures in
    hand-unchanged c.requires.workable.ready taken.size taken.hand same.report same.zeros
