-- `keep_contour` meets its contract: the next entry is on the contour and moved, or left out. Assumes nothing.
use mathlib.Core.Path.{sym, ◌∙◌}
use Prim.Native.Nat.{◌<◌}
use lib.ListN.{length}
use native.Mathlib.Omega.{arith}
use Rattle.neighbours.proofs.PositionLaws.{position-column-row, pixel_of, size-le}
use Rattle.engine.proofs.StretchLaws.{stretch-lt, stretch-none, stretch-yes, stretch-no}
use Rattle.engine.proofs.inner.queue.keep_contour.Goals as goal
use Rattle.engine.proofs.inner.queue.keep_contour.Goals.{then-on_contour, else-on_contour}

pub loop-slot-init : goal.loop-slot-init
loop-slot-init c = record { behind = omega arith; kept = stretch-none _ _ c.args.from }

pub on_contour-requires : goal.on_contour-requires
on_contour-requires c = let inv = c.loop-slot.invariant in
    pixel_of _ c.requires.sized (rw c.queued-at.ensures
    (stretch-lt _ c.requires.positions inv.kept inv.behind c.loop-slot.auto.slot c.loop-slot-test.true))

pub put_queued-requires-clause-at_lt_max_pixels : goal.put_queued-requires-clause-at_lt_max_pixels
put_queued-requires-clause-at_lt_max_pixels c = let inv = c.loop-slot.invariant in
    let lt = stretch-lt _ c.requires.positions inv.kept inv.behind c.loop-slot.auto.slot c.loop-slot-test.true in
    omega (arith, c.queued-at.ensures, size-le c.requires.sized.valid)

pub loop-slot-preserved : goal.loop-slot-preserved
loop-slot-preserved c = let inv = c.loop-slot.invariant in
    let begun = c.loop-slot.auto.slot in
    let lt : c.loop-slot.slot < length c.args.queue.now = omega (arith, c.requires.positions.within) in
    let entry = c.queued-at.ensures in
    let test = rw position-column-row at c.on_contour.ensures in
    elim c.if-on_contour.branch [
      | then-on_contour w ↦ record {
        behind = omega arith;
        kept = rw (w.queue-is ∙ w.put_queued.ensures, w.len-is)
            (stretch-yes begun inv.behind lt _ entry inv.kept (sym test ∙ w.if-on_contour.true));
      }
      | else-on_contour w ↦ record {
        behind = omega arith;
        kept = rw (w.queue-is, w.len-is)
            (stretch-no begun inv.behind lt _ entry inv.kept (sym test ∙ w.if-on_contour.false));
      }
    ]
