-- `spread_bits` meets its contract by a rule that is computed for each byte. Assumes nothing.
use Rattle.packing.proofs.GroupLaws.{scattered-spread}
use Rattle.packing.proofs.inner.groups.spread_bits.Goals as goal

pub returns : goal.returns
returns c = scattered-spread c.args.byte c.requires
