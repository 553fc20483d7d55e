-- `unpack_groups` meets its contract. The loop's invariant: the pixels of the row's first `k` bytes are written to
-- their place. Assumes nothing.
use Prim.Native.Nat.{◌+◌, ◌*◌}
use Rattle.lists.specs.Lists.{tabulate}
use Rattle.neighbours.specs.Crop.{Appended}
use Rattle.model.specs.Codec.{packed_pixel}
use Rattle.packing.proofs.inner.unpack_groups.Given as goal

abbrev pub invariant-loop-k : goal.invariant-loop-k
invariant-loop-k l =
    Appended l.initial.image (l.y * l.width) (tabulate (8 * l.k) (λ x. packed_pixel l.width l.packed x l.y))
    l.image (l.y * l.width + 8 * l.k)
