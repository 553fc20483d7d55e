-- `put_woven` meets its contract: one group more is written. Assumes nothing.
use Rattle.std.proofs.Common.{arith}
use Rattle.packing.specs.Groups.{flipped}
use Rattle.packing.proofs.GroupLaws.{appended-group}
use Rattle.packing.proofs.WeaveLaws.{bytes-woven}
use Rattle.packing.proofs.WordsLaws.{appended-no_bits}
use Rattle.packing.proofs.inner.words.put_woven.Goals as goal

pub loop-g-init : goal.loop-g-init
loop-g-init c = appended-no_bits (flipped c.args.word) 0

pub loop-g-preserved : goal.loop-g-preserved
loop-g-preserved c =
    let word = c.args.word in
    let g = c.loop-g.g in
    appended-group (flipped word) g c.loop-g.invariant (omega arith)
    (rw (bytes-woven word g (omega arith)) at c.put_bytes.ensures)
