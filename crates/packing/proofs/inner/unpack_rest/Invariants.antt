-- `unpack_rest` meets its contract. The loop's invariant: the row's pixels from column `from` to `x` are written to
-- their place. Assumes nothing.
use Prim.Native.Nat.{◌+◌, ◌-◌, ◌*◌}
use Rattle.lists.specs.Lists.{tabulate}
use Rattle.neighbours.specs.Crop.{Appended}
use Rattle.model.specs.Codec.{packed_pixel}
use Rattle.packing.proofs.inner.unpack_rest.Given as goal

abbrev pub invariant-loop-x : goal.invariant-loop-x
invariant-loop-x l =
    Appended l.initial.image (l.y * l.width + l.from)
    (tabulate (l.x - l.from) (λ k. packed_pixel l.width l.packed (l.from + k) l.y)) l.image (l.y * l.width + l.x)
