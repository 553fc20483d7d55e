-- The loop of `layers`: `used` layers are grown, none of them empty, and another may follow. Assumes nothing.
use Rattle.engine.proofs.SpreadLaws.{Reached}
use Rattle.engine.proofs.inner.spread.layers.Given as goal

abbrev pub invariant-loop-used : goal.invariant-loop-used
invariant-loop-used l =
    Reached l.rule l.mask l.initial.image l.initial.queue l.from l.to l.image l.queue
    (record { from = l.head; to = l.tail; used = l.used })
