-- `list_ones` meets its contract: one more of the ones stands in the queue. Assumes nothing.
use Rattle.std.proofs.Common.{arith}
use Rattle.word_ones.proofs.OnesLaws.{length-ones_from, taken_none, taken_next, taken_more, taken-all}
use Rattle.word_ones.proofs.inner.list_ones.Goals as goal

pub loop-rest-init : goal.loop-rest-init
loop-rest-init c =
    let word = c.ranges.word.fits in
    taken_none word c.requires.small (omega (arith, length-ones_from c.args.at c.args.word word))

pub overflow_sub-slot : goal.overflow_sub-slot
overflow_sub-slot c = omega (arith, taken_next c.loop-rest.invariant (omega arith))

pub loop-rest-preserved : goal.loop-rest-preserved
loop-rest-preserved c =
    rw c.put_queued.ensures
    (taken_more c.loop-rest.invariant (omega arith) (omega (arith, c.requires.room)) (omega arith))

pub returns : goal.returns
returns c = taken-all c.loop-rest.invariant (omega arith)
