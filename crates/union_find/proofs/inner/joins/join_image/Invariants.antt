-- `join_image` meets its contract. The loop's invariant: the rows above row `y` are regions. Assumes nothing.
use Prim.Native.Nat.{◌*◌}
use mathlib.Core.Path.{◌≡◌}
use lib.ListN.{length}
use Rattle.union_find.specs.Regions.{Regions}
use Rattle.union_find.proofs.inner.joins.join_image.Given as goal

abbrev pub invariant-loop-y : goal.invariant-loop-y
invariant-loop-y l =
    Regions l.width l.height l.connectivity l.image (l.y * l.width) l.queue
    × (length l.found ≡ length l.initial.found) × (length l.queue ≡ length l.initial.queue)
