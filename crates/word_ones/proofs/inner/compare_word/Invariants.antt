-- `compare_word` meets its contract. The loop's invariant: the ones that `rest` lacks stand in the queue behind the
-- entries that are left, which begin at `len`. Assumes nothing.
use Rattle.std.proofs.Common.{◌≡◌, ◌+◌, length, take, drop}
use Rattle.word_ones.proofs.OnesLaws.{Taken}
use Rattle.word_ones.proofs.inner.compare_word.Given as goal

abbrev pub invariant-loop-entry : goal.invariant-loop-entry
invariant-loop-entry l =
    let left = l.entry-iterator.iter.rest.now in
    Taken l.at l.word l.len l.end l.queue l.rest l.queue (l.len + length left)
    × (left ≡ take (length left) (drop l.len l.queue))
