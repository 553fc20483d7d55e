-- `judge_rows` meets its contract: three checks. Assumes nothing.
use native.Mathlib.Omega.{arith}
use borrow.Author.Rules.{rules}
use Rattle.model.specs.Refusals.{wrong_length}
use Rattle.model.specs.Words.{words_checks}
use Rattle.theorems.proofs.RefusalLaws.{wrong_length-iff}
use Rattle.judging.proofs.JudgeLaws.{check-last, check-refused, check-accepted, check_passed}
use Rattle.words.proofs.EntryLaws.{words_length-counted, size_passed, words-few}
use Rattle.words.proofs.judge_rows.Goals as goal

pub returns-in_err-refuse_if : goal.returns-in_err-refuse_if
unfolding words_checks
returns-in_err-refuse_if c =
    check-refused _ _ (rw (← c.bad_size.ensures) c.refuse_if.ensures) c.in_err-refuse_if.was (search rules)

pub row_words-requires : goal.row_words-requires
row_words-requires c =
    (size_passed c.bad_size.ensures c.refuse_if.ensures c.in_ok-refuse_if.was).narrow

pub overflow_mul-row_words : goal.overflow_mul-row_words
overflow_mul-row_words c =
    let size = size_passed c.bad_size.ensures c.refuse_if.ensures c.in_ok-refuse_if.was in
    omega (arith, words-few size c.row_words.ensures)

pub returns-in_err-refuse_if-2 : goal.returns-in_err-refuse_if-2
unfolding words_checks wrong_length
returns-in_err-refuse_if-2 c =
    check-accepted _ _ (rw (← c.bad_size.ensures) c.refuse_if.ensures) c.in_ok-refuse_if.was
    (check-refused _ _
    (rw (← (words_length-counted c.args.width c.args.height c.row_words.ensures)) c.refuse_if-2.ensures)
    c.in_err-refuse_if-2.was (search rules))

pub unused_set-requires-clause-valid_size : goal.unused_set-requires-clause-valid_size
unused_set-requires-clause-valid_size c =
    size_passed c.bad_size.ensures c.refuse_if.ensures c.in_ok-refuse_if.was

pub unused_set-requires-clause-words_len : goal.unused_set-requires-clause-words_len
unfolding wrong_length
unused_set-requires-clause-words_len c =
    (wrong_length-iff _ c.args.rows.now).0
    (rw (← (words_length-counted c.args.width c.args.height c.row_words.ensures))
    (check_passed _ _ c.refuse_if-2.ensures c.in_ok-refuse_if-2.was))

pub returns : goal.returns
unfolding words_checks wrong_length
returns c =
    check-accepted _ _ (rw (← c.bad_size.ensures) c.refuse_if.ensures) c.in_ok-refuse_if.was
    (check-accepted _ _
    (rw (← (words_length-counted c.args.width c.args.height c.row_words.ensures)) c.refuse_if-2.ensures)
    c.in_ok-refuse_if-2.was (check-last _ _ (rw (← c.unused_set.ensures) c.refuse_if-3.ensures)))
