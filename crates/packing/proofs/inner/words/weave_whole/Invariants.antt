-- `weave_whole` meets its contract. The loop's invariant: the row's first `k` words are woven at their place. Assumes
-- nothing.
use Rattle.std.proofs.Common.{◌+◌, ◌*◌, map}
use Rattle.lists.specs.Lists.{tabulate}
use Rattle.neighbours.specs.Crop.{Appended}
use Rattle.neighbours.specs.Packed.{row_units, packed_unit}
use Rattle.packing.specs.Groups.{flipped}
use Rattle.packing.proofs.inner.words.weave_whole.Given as goal

abbrev pub invariant-loop-k : goal.invariant-loop-k
invariant-loop-k l =
    Appended (map flipped l.initial.words) (l.y * row_units 64 l.width)
    (tabulate l.k (λ j. packed_unit 64 l.width l.image (64 * j) l.y))
    (map flipped l.words) (l.y * row_units 64 l.width + l.k)
