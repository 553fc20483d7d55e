-- The loop of `keep_contour`: those of the stretch from `from` up to `slot` that are on the contour stand at the
-- queue's front. Assumes nothing.
use Prim.Native.Nat.{◌≤◌}
use lib.Seq.{slice}
use Rattle.lists.specs.Lists.{select}
use Rattle.neighbours.specs.Crop.{Appended}
use Rattle.neighbours.specs.Contour.{on_contour}
use Rattle.engine.proofs.inner.queue.keep_contour.Given as goal

abbrev pub invariant-loop-slot : goal.invariant-loop-slot
invariant-loop-slot l =
    record {
      behind : l.len ≤ l.slot;
      kept : Appended l.initial.queue 0 (select (on_contour l.width l.height l.image)
          (slice l.from l.slot l.initial.queue)) l.queue l.len;
    }
