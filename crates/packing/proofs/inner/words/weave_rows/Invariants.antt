-- `weave_rows` meets its contract. The loop's invariant: the rows above row `y` are woven into the first words.
-- Assumes nothing.
use Rattle.std.proofs.Common.{◌*◌, map}
use mathlib.Core.List.{flat_map}
use Rattle.lists.specs.Lists.{range}
use Rattle.neighbours.specs.Crop.{Appended}
use Rattle.neighbours.specs.Packed.{row_units}
use Rattle.packing.specs.Groups.{flipped}
use Rattle.packing.specs.Rows.{packed_row}
use Rattle.packing.proofs.inner.words.weave_rows.Given as goal

abbrev pub invariant-loop-y : goal.invariant-loop-y
invariant-loop-y l =
    Appended (map flipped l.initial.words) 0 (flat_map (packed_row 64 l.width l.image) (range l.y))
    (map flipped l.words) (l.y * row_units 64 l.width)
