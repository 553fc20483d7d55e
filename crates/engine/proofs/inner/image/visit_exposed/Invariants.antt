-- The loop of `visit_exposed`: the first `k` exposed strips are visited. Assumes nothing.
use mathlib.Core.List.{[]}
use Rattle.neighbours.specs.Border.{first_strips, exposed_strip}
use Rattle.engine.specs.Spread.{Visited}
use Rattle.engine.proofs.inner.image.visit_exposed.Given as goal

abbrev pub invariant-loop-k : goal.invariant-loop-k
invariant-loop-k l =
    Visited l.rule [] l.initial.image l.initial.queue l.end
    (first_strips (exposed_strip l.rule.width l.rule.height l.sides) l.k) l.image l.queue l.tail
