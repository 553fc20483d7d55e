-- `pack` meets its contract. The loop's invariant: the rows above row `y` are packed behind the front. Assumes nothing.
use mathlib.Core.List.{flat_map}
use Rattle.lists.specs.Lists.{range}
use Rattle.neighbours.specs.Crop.{Appended}
use Rattle.model.specs.Codec.{byte_bits}
use Rattle.packing.specs.Rows.{packed_row}
use Rattle.packing.proofs.inner.pack.Given as goal

abbrev pub invariant-loop-y : goal.invariant-loop-y
invariant-loop-y l =
    Appended l.initial.buffer l.at (flat_map (packed_row byte_bits l.width l.image) (range l.y)) l.buffer l.end
