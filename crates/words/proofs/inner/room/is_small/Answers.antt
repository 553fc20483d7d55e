-- The numbers of `room::is_small` fit, since the crop's frame has few entries. Assumes nothing.
use Rattle.std.proofs.Common.{arith}
use Rattle.neighbours.specs.Words.{word_bits}
use Rattle.neighbours.proofs.PackedLaws.{row_units-lt}
use Rattle.words.proofs.RoomLaws.{frame-most}
use Rattle.words.proofs.inner.room.is_small.Goals as goal

pub overflow_add-result : goal.overflow_add-result
overflow_add-result c = omega (arith, c.row_words.ensures, row_units-lt word_bits c.args.width (omega arith))

pub overflow_mul-result : goal.overflow_mul-result
overflow_mul-result c = rw c.row_words.ensures (omega (arith, frame-most c.requires))
