-- `down` meets its contract: two bits of the number tell it. Assumes nothing.
use Rattle.neighbours.proofs.DirectionLaws.{down-bits}
use Rattle.neighbours.proofs.inner.down.Goals as goal

pub returns : goal.returns
returns c = down-bits _ c.requires
