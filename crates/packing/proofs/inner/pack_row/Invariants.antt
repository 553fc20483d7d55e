-- `pack_row` meets its contract. The loop's invariant: the row's first `k` bytes are written behind the front.
-- Assumes nothing.
use Prim.Native.Nat.{◌+◌, ◌*◌}
use Rattle.lists.specs.Lists.{tabulate}
use Rattle.neighbours.specs.Crop.{Appended}
use Rattle.model.specs.Codec.{packed_byte}
use Rattle.packing.proofs.inner.pack_row.Given as goal

abbrev pub invariant-loop-k : goal.invariant-loop-k
invariant-loop-k l =
    Appended l.initial.buffer l.at (tabulate l.k (λ k. packed_byte l.width l.image (8 * k) l.y)) l.buffer (l.at + l.k)
