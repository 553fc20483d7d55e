-- `judge_repacking` meets its contract: three checks. Assumes nothing.
use native.Mathlib.Omega.{arith}
use borrow.Author.Rules.{rules}
use mathlib.Core.Bool.{or-false}
use Rattle.lists.specs.Lists.{any}
use Rattle.neighbours.proofs.PositionLaws.{size-le}
use Rattle.model.specs.Refusals.{wrong_length}
use Rattle.model.specs.Words.{repack_checks}
use Rattle.judging.proofs.JudgeLaws.{check-last, check-refused, check-accepted}
use Rattle.words.proofs.EntryLaws.{words_length-counted, size_passed, words-few}
use Rattle.words.proofs.judge_repacking.Goals as goal

pub returns-in_err-refuse_if : goal.returns-in_err-refuse_if
unfolding repack_checks
returns-in_err-refuse_if c =
    check-refused _ _ (rw (← c.bad_size.ensures) c.refuse_if.ensures) c.in_err-refuse_if.was (search rules)

pub overflow_mul-width : goal.overflow_mul-width
overflow_mul-width c =
    omega (arith, size-le (size_passed c.bad_size.ensures c.refuse_if.ensures c.in_ok-refuse_if.was))

pub returns-in_err-refuse_if-2 : goal.returns-in_err-refuse_if-2
unfolding repack_checks any wrong_length
returns-in_err-refuse_if-2 c =
    check-accepted _ _ (rw (← c.bad_size.ensures) c.refuse_if.ensures) c.in_ok-refuse_if.was
    (check-refused _ _ (rw or-false c.refuse_if-2.ensures) c.in_err-refuse_if-2.was (search rules))

pub row_words-requires : goal.row_words-requires
row_words-requires c =
    (size_passed c.bad_size.ensures c.refuse_if.ensures c.in_ok-refuse_if.was).narrow

pub overflow_mul-row_words : goal.overflow_mul-row_words
overflow_mul-row_words c =
    let size = size_passed c.bad_size.ensures c.refuse_if.ensures c.in_ok-refuse_if.was in
    omega (arith, words-few size c.row_words.ensures)

pub returns : goal.returns
unfolding repack_checks any wrong_length
returns c =
    check-accepted _ _ (rw (← c.bad_size.ensures) c.refuse_if.ensures) c.in_ok-refuse_if.was
    (check-accepted _ _ (rw or-false c.refuse_if-2.ensures) c.in_ok-refuse_if-2.was
    (check-last _ _
    (rw (← (words_length-counted c.args.width c.args.height c.row_words.ensures)) c.refuse_if-3.ensures)))
