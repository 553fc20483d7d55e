-- `operate` meets its contract: every crop's frame fits in the larger room. Assumes nothing.
use Rattle.words.proofs.RoomLaws.{frame-most}
use Rattle.words.proofs.inner.operate.Goals as goal

pub operate_with-requires-2-clause-room : goal.operate_with-requires-2-clause-room
operate_with-requires-2-clause-room c = frame-most c.requires.valid
