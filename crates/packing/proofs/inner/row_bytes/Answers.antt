-- `row_bytes` meets its contract by definition. Assumes nothing.
use Rattle.std.proofs.Common.{arith}
use Rattle.neighbours.proofs.PackedLaws.{row_units-is}
use Rattle.packing.proofs.inner.row_bytes.Goals as goal

pub returns : goal.returns
returns c = omega (arith, row_units-is 8 c.args.width)
