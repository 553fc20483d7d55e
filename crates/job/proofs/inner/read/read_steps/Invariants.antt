-- What the loop of `read_steps` keeps: the first records are read, and the others stand from `end` on.
use Rattle.job.proofs.ReadingLaws.{ReadTo}
use Rattle.job.proofs.inner.read.read_steps.Given as goal

abbrev pub invariant-loop-slot : goal.invariant-loop-slot
invariant-loop-slot l = ReadTo l.width l.height l.total l.bytes l.slot-items l.end l.slot-index
