-- `list_bytes` meets its contract. The loop's invariant: the ones of the word's first `k` bytes are listed. Assumes
-- nothing.
use Rattle.word_ones.proofs.TableLaws.{BytesListed}
use Rattle.word_ones.proofs.inner.bytes.list_bytes.Given as goal

abbrev pub invariant-loop-k : goal.invariant-loop-k
invariant-loop-k l = BytesListed l.word l.at l.initial.queue l.len l.queue l.end l.k
