-- `label_all` meets its contract: the labels before `from` are those that are asked for, or one too many is counted.
-- Assumes nothing.
use Rattle.labelling.proofs.LabelAllLaws.{Counting}
use Rattle.labelling.proofs.inner.regions.label_all.Given as goal

abbrev pub invariant-loop-count : goal.invariant-loop-count
invariant-loop-count l = Counting l.width l.height l.value l.image l.queue l.initial.labels l.from l.labels l.count
