-- `list_ones` meets its contract. The loop's invariant: the ones that `rest` lacks stand in the queue. Assumes nothing.
use Rattle.word_ones.proofs.OnesLaws.{Taken}
use Rattle.word_ones.proofs.inner.list_ones.Given as goal

abbrev pub invariant-loop-rest : goal.invariant-loop-rest
invariant-loop-rest l = Taken l.at l.word l.len l.end l.initial.queue l.rest l.queue l.slot

abbrev pub decreases-loop-rest : goal.decreases-loop-rest
decreases-loop-rest l = l.rest
