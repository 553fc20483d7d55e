-- `unpack_words` meets its contract. The loop's invariant: the rows above row `y` are written to the image's front.
-- Assumes nothing.
use Rattle.std.proofs.Common.{◌*◌}
use mathlib.Core.List.{flat_map}
use Rattle.lists.specs.Lists.{range}
use Rattle.neighbours.specs.Crop.{Appended}
use Rattle.packing.specs.Rows.{row_unpacked}
use Rattle.packing.proofs.inner.words.unpack_words.Given as goal

abbrev pub invariant-loop-y : goal.invariant-loop-y
invariant-loop-y l =
    Appended l.initial.image 0 (flat_map (row_unpacked 64 l.width l.words) (range l.y)) l.image (l.y * l.width)
