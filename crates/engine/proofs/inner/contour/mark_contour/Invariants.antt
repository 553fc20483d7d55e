-- The loop of `mark_contour`: the first `count` entries are right, and are marked. Assumes nothing.
use Rattle.engine.proofs.MarkLaws.{Marking}
use Rattle.engine.proofs.inner.contour.mark_contour.Given as goal

abbrev pub invariant-loop-count : goal.invariant-loop-count
invariant-loop-count l = Marking l.width l.height l.initial.image l.queue l.image l.count
