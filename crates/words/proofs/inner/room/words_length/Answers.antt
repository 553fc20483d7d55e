-- `room::words_length` meets its contract by definition, and its product fits. Assumes nothing.
use Rattle.std.proofs.Common.{sym, arith}
use Rattle.neighbours.specs.Words.{word_bits}
use Rattle.neighbours.proofs.PackedLaws.{packed_length-is}
use Rattle.packing.proofs.WordsLaws.{words-most}
use Rattle.words.proofs.inner.room.words_length.Goals as goal

pub overflow_mul-result : goal.overflow_mul-result
overflow_mul-result c = rw (c.row_words.ensures, ← (packed_length-is word_bits c.args.width c.args.height))
    (omega (arith, words-most c.requires))

pub returns : goal.returns
returns c = rw c.row_words.ensures (sym (packed_length-is word_bits _ _))
