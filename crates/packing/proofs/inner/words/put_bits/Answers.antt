-- `put_bits` meets its contract: one bit more is written. Assumes nothing.
use Rattle.std.proofs.Common.{arith}
use lib.Bits.{and_mask}
use Rattle.packing.proofs.WordsLaws.{appended-no_bits, appended-bit}
use Rattle.packing.proofs.inner.words.put_bits.Goals as goal

pub loop-k-init : goal.loop-k-init
loop-k-init c = appended-no_bits c.args.word c.args.from

pub loop-k-preserved : goal.loop-k-preserved
loop-k-preserved c =
    rw (and_mask _ 1) (appended-bit c.args.word c.args.from c.loop-k.k c.loop-k.invariant (omega arith))
