-- `put_bits` meets its contract. The loop's invariant: the first `k` bits are written to their place. Assumes nothing.
use Rattle.std.proofs.Common.{◌+◌}
use Rattle.neighbours.specs.Crop.{Appended}
use Rattle.packing.specs.Groups.{word_pixels}
use Rattle.packing.proofs.inner.words.put_bits.Given as goal

abbrev pub invariant-loop-k : goal.invariant-loop-k
invariant-loop-k l = Appended l.initial.image l.at (word_pixels l.word l.from l.k) l.image (l.at + l.k)
