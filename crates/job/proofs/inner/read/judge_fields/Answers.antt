-- `judge_fields` meets its contract: three checks. Assumes nothing.
use mathlib.Core.Path.{sym, ◌∙◌}
use native.Mathlib.Omega.{arith}
use borrow.Author.Rules.{rules}
use Rattle.judging.proofs.JudgeLaws.{check-last, check-refused, check-accepted, check_passed, size-good}
use Rattle.job.specs.Reading.{field_checks}
use Rattle.job.proofs.inner.read.judge_fields.Goals as goal

pub returns-in_err-refuse_if : goal.returns-in_err-refuse_if
unfolding field_checks
returns-in_err-refuse_if c =
    check-refused _ _ (rw (← c.bad_size.ensures) c.refuse_if.ensures) c.in_err-refuse_if.was (search rules)

pub overflow_mul-width : goal.overflow_mul-width
overflow_mul-width c =
    omega (
      arith,
      size-good _ _ (sym c.bad_size.ensures ∙ check_passed _ _ c.refuse_if.ensures c.in_ok-refuse_if.was),
    )

pub returns-in_err-refuse_if-2 : goal.returns-in_err-refuse_if-2
unfolding field_checks
returns-in_err-refuse_if-2 c =
    check-accepted _ _ (rw (← c.bad_size.ensures) c.refuse_if.ensures) c.in_ok-refuse_if.was
    (check-refused _ _ c.refuse_if-2.ensures c.in_err-refuse_if-2.was (search rules))

pub returns : goal.returns
unfolding field_checks
returns c =
    check-accepted _ _ (rw (← c.bad_size.ensures) c.refuse_if.ensures) c.in_ok-refuse_if.was
    (check-accepted _ _ c.refuse_if-2.ensures c.in_ok-refuse_if-2.was (check-last _ _ c.refuse_if-3.ensures))
