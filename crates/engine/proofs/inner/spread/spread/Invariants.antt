-- The loop of `spread`: the neighbours of the positions from `from` up to `slot` are visited; so the queue's entries
-- below `to` are as they were. Assumes nothing.
use Rattle.engine.specs.Spread.{Visited}
use Rattle.engine.proofs.SpreadLaws.{around}
use Rattle.engine.proofs.inner.spread.spread.Given as goal

abbrev pub invariant-loop-slot : goal.invariant-loop-slot
invariant-loop-slot l =
    Visited l.rule l.mask l.initial.image l.initial.queue l.to (around l.rule l.from l.slot l.initial.queue)
    l.image l.queue l.tail
