-- `reads_mask` meets its contract: it asks the kind. Assumes nothing.
use Rattle.model.specs.Refusals.{reads_mask}
use Rattle.judging.proofs.reads_mask.Goals as goal

pub returns : goal.returns
unfolding reads_mask
returns c = rw c.kind_of.ensures
