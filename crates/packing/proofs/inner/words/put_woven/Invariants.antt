-- `put_woven` meets its contract. The loop's invariant: the first `g` groups are written to their place. Assumes
-- nothing.
use Rattle.std.proofs.Common.{◌+◌, ◌*◌}
use Rattle.neighbours.specs.Crop.{Appended}
use Rattle.packing.specs.Groups.{flipped, word_pixels}
use Rattle.packing.proofs.inner.words.put_woven.Given as goal

abbrev pub invariant-loop-g : goal.invariant-loop-g
invariant-loop-g l =
    Appended l.initial.image l.at (word_pixels (flipped l.word) 0 (8 * l.g)) l.image (l.at + 8 * l.g)
