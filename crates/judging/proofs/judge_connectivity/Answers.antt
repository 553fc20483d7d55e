-- `judge_connectivity` meets its contract: one check. Assumes nothing.
use Rattle.model.specs.Refusals.{connectivity_check}
use Rattle.judging.proofs.judge_connectivity.Goals as goal

pub returns : goal.returns
unfolding connectivity_check
returns c = rw (← c.bad_connectivity.ensures) c.refuse_if.ensures
