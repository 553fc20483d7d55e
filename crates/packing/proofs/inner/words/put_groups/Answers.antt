-- `put_groups` meets its contract: one group more is written. Assumes nothing.
use Rattle.std.proofs.Common.{arith}
use Rattle.packing.proofs.GroupLaws.{appended-group}
use Rattle.packing.proofs.WordsLaws.{appended-no_bits}
use Rattle.packing.proofs.inner.words.put_groups.Goals as goal

pub loop-k-init : goal.loop-k-init
loop-k-init c = appended-no_bits c.args.word 0

pub loop-k-preserved : goal.loop-k-preserved
loop-k-preserved c =
    appended-group c.args.word c.loop-k.k c.loop-k.invariant (omega arith) c.put_group.ensures
