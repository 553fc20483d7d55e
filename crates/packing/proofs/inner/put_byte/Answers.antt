-- `put_byte` meets its contract: one entry is stored. Assumes nothing.
use Rattle.neighbours.proofs.AppendedLaws.{appended_one}
use Rattle.packing.proofs.inner.put_byte.Goals as goal

pub returns : goal.returns
returns c = appended_one _ _ _ c.requires
