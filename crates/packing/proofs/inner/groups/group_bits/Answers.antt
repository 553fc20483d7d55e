-- `group_bits` meets its contract by a rule that is computed for each byte. Assumes nothing.
use Rattle.packing.proofs.GroupLaws.{grouped-gathered}
use Rattle.packing.proofs.inner.groups.group_bits.Goals as goal

pub returns : goal.returns
returns c = grouped-gathered c.args.x c.requires
