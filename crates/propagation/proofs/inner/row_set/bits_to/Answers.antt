-- `row_set::bits_to` meets its contract. Assumes nothing.
use Rattle.propagation.proofs.RowSetLaws.{bits-to-is}
use Rattle.propagation.proofs.inner.row_set.bits_to.Goals as goal

pub returns : goal.returns
returns c j l = bits-to-is c.args.i j c.requires l
