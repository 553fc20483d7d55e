-- `unpack_row` meets its contract. The loop's invariant: the pixels of the row's first `k` words are written to their
-- place. Assumes nothing.
use Rattle.std.proofs.Common.{◌+◌, ◌*◌, min}
use Rattle.lists.specs.Lists.{tabulate}
use Rattle.neighbours.specs.Crop.{Appended}
use Rattle.neighbours.specs.Packed.{packed_pixel}
use Rattle.packing.proofs.inner.words.unpack_row.Given as goal

abbrev pub invariant-loop-k : goal.invariant-loop-k
invariant-loop-k l =
    Appended l.initial.image (l.y * l.width)
    (tabulate (min (64 * l.k) l.width) (λ x. packed_pixel 64 l.width l.words x l.y))
    l.image (l.y * l.width + min (64 * l.k) l.width)
