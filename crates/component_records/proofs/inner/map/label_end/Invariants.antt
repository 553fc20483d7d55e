-- `label_end` meets its contract: the positions before `to` have one label. Assumes nothing.
use Rattle.component_records.specs.Records.{SameLabel}
use Rattle.component_records.proofs.inner.map.label_end.Given as goal

abbrev pub invariant-loop-to : goal.invariant-loop-to
invariant-loop-to l = SameLabel l.labels l.at l.to
