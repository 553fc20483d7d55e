-- `root` meets its contract. The loop's invariant: `top` is on the way from the position to its root, and
-- `above` is its entry. The measure is `top`. Assumes nothing.
use Rattle.union_find.proofs.ForestLaws.{Climbing}
use Rattle.union_find.proofs.inner.forest.root.Given as goal

abbrev pub invariant-loop-above : goal.invariant-loop-above
invariant-loop-above l = Climbing l.initial.queue l.at l.queue l.top l.above

abbrev pub decreases-loop-above : goal.decreases-loop-above
decreases-loop-above l = l.top
