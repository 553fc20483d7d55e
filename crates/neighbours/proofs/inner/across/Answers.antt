-- `across` meets its contract: two bits of the number tell it. Assumes nothing.
use Rattle.neighbours.proofs.DirectionLaws.{across-bits}
use Rattle.neighbours.proofs.inner.across.Goals as goal

pub returns : goal.returns
returns c = across-bits _ c.requires
