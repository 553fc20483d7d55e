-- `compare_word` meets its contract: one more of the ones stands in the queue, or is missing. Assumes nothing.
use Rattle.std.proofs.Common.{◌≡◌, ◌+◌, length, ◌∙◌, arith}
use Rattle.word_ones.specs.Ones.{ones_from}
use Rattle.word_ones.proofs.OnesLaws.{length-ones_from, taken_none, taken-over, taken-all, taken_left}
use Rattle.word_ones.proofs.OnesLaws.{taken-same, taken-other, left_all, left_next, compared-all, compared-long}
use Rattle.word_ones.proofs.inner.compare_word.Goals as goal

pub returns-then-n-end : goal.returns-then-n-end
returns-then-n-end c =
    compared-long _ _ _ (omega (arith, length-ones_from c.args.at c.args.word c.ranges.word.fits)) c.if-n-end.true

pub loop-entry-init : goal.loop-entry-init
loop-entry-init c =
    let word = c.ranges.word.fits in
    let end = c.args.len + c.ones_of.result in
    let size : end ≡ c.args.len + length (ones_from c.args.at c.args.word) =
    omega (arith, length-ones_from c.args.at c.args.word word) in
    let iterator = c.into_iter-entry-iterator.ensures.into_iter_gives in
    let all = left_all _ _ end (omega arith) (omega (arith, c.requires.within)) c.iter.ensures.rest in
    rw (iterator, c.rev-entry-items.ensures.source) (rw all.0 (taken_none word c.requires.small size), all.1)

pub last_one-requires : goal.last_one-requires
last_one-requires c = (taken_left _ _ c.loop-entry.invariant.0 c.in-Some.ensures.steps).0

pub overflow_add-at : goal.overflow_add-at
overflow_add-at c =
    omega (arith, (taken_left _ _ c.loop-entry.invariant.0 c.in-Some.ensures.steps).1, c.last_one.ensures)

pub overflow_sub-rest : goal.overflow_sub-rest
overflow_sub-rest c = (taken_left _ _ c.loop-entry.invariant.0 c.in-Some.ensures.steps).0

pub returns-then-from-at : goal.returns-then-from-at
returns-then-from-at c =
    let t = c.loop-entry.invariant.0 in
    let steps = c.in-Some.ensures.steps in
    let next = left_next _ _ steps t.before (omega (arith, c.requires.within)) c.loop-entry.invariant.1 in
    taken-other t (taken_left _ _ t steps).0 (omega (arith, c.requires.within)) c.requires.within
    (λ q. c.if-from-at.true (c.from.ensures ∙ next.2 ∙ q ∙ omega arith))

pub loop-entry-preserved : goal.loop-entry-preserved
loop-entry-preserved c =
    let t = c.loop-entry.invariant.0 in
    let steps = c.in-Some.ensures.steps in
    let next = left_next _ _ steps t.before (omega (arith, c.requires.within)) c.loop-entry.invariant.1 in
    let more = taken-same t (taken_left _ _ t steps).0 (omega (arith, c.requires.within)) in
    (rw next.1 (more (omega arith)), next.0)

pub returns : goal.returns
returns c =
    let t = c.loop-entry.invariant.0 in
    compared-all (taken-all t (taken-over t (omega (arith, c.in-None.ensures.steps)))) (omega arith)
