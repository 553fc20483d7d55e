-- The loop of `visit_around`: the neighbours in the first `k` directions are visited. Assumes nothing.
use Rattle.neighbours.proofs.AroundLaws.{first_neighbours}
use Rattle.engine.specs.Spread.{Visited}
use Rattle.engine.proofs.inner.spread.visit_around.Given as goal

abbrev pub invariant-loop-k : goal.invariant-loop-k
invariant-loop-k l =
    Visited l.rule l.mask l.initial.image l.initial.queue l.end
    (first_neighbours l.rule.width l.rule.height l.rule.connectivity l.at l.k) l.image l.queue l.tail
