-- `label_end` meets its contract: the positions before `to` have one label. Assumes nothing.
use Rattle.component_records.proofs.SameLabelLaws.{same_label-one, same_label-more}
use Rattle.component_records.proofs.inner.map.label_end.Goals as goal

pub loop-to-init : goal.loop-to-init
loop-to-init c = same_label-one _ _

pub loop-to-preserved : goal.loop-to-preserved
loop-to-preserved c = same_label-more c.loop-to.invariant c.if-labels-to.false
