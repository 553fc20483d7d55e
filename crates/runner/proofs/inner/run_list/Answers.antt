-- `run_list` meets its contract: every crop's frame fits in the larger room. Assumes nothing.
use Rattle.theorems.proofs.RunLaws.{steps_refusal-passes}
use Rattle.words.proofs.RoomLaws.{frame-most}
use Rattle.runner.proofs.inner.run_list.Goals as goal

pub is_small-requires : goal.is_small-requires
is_small-requires c = (steps_refusal-passes _ _ _ _ _ _ c.requires).0.valid

pub run_with-requires-else-is_small-clause-room : goal.run_with-requires-else-is_small-clause-room
run_with-requires-else-is_small-clause-room c = frame-most (steps_refusal-passes _ _ _ _ _ _ c.requires).0.valid
