-- `move_front` meets its contract: a stretch that is copied to the front stands there. Assumes nothing.
use Rattle.engine.proofs.StretchLaws.{stretch-front}
use Rattle.engine.proofs.inner.queue.move_front.Goals as goal

pub returns : goal.returns
returns c = rw c.copy_within.ensures.after (stretch-front _ _ _ c.requires.from_le_to c.requires.to_in_bounds)
