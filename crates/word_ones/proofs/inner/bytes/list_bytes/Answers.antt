-- `list_bytes` meets its contract: the ones of one byte more are listed. Assumes nothing.
use Rattle.std.proofs.Common.{arith}
use Rattle.word_ones.proofs.TableLaws.{bytes-none, bytes-more, bytes-all}
use Rattle.word_ones.proofs.inner.bytes.list_bytes.Goals as goal

pub loop-k-init : goal.loop-k-init
loop-k-init c = bytes-none _ _ _ _

pub loop-k-preserved : goal.loop-k-preserved
loop-k-preserved c = bytes-more c.loop-k.invariant c.loop-k-test.true c.list_byte-end.ensures

pub returns : goal.returns
returns c = bytes-all c.loop-k.invariant (omega arith)
