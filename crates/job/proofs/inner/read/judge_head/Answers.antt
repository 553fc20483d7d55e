-- `judge_head` meets its contract: the version and the length are judged, and behind them the fields. Assumes nothing.
use mathlib.Core.Path.{◌∙◌}
use native.Mathlib.Omega.{arith}
use borrow.Author.Rules.{rules}
use Rattle.model.specs.Codec.{head_refusal}
use Rattle.judging.proofs.JudgeLaws.{check-refused, check-accepted, check_passed}
use Rattle.job.specs.Reading.{field_checks}
use Rattle.job.proofs.ReadingLaws.{check-same}
use Rattle.job.proofs.inner.read.judge_head.Goals as goal

pub returns-in_err-refuse_if : goal.returns-in_err-refuse_if
unfolding head_refusal
returns-in_err-refuse_if c =
    check-refused _ _ (check-same _ c.refuse_if.ensures (grind arith)) c.in_err-refuse_if.was (search rules)

pub returns-in_err-refuse_if-2 : goal.returns-in_err-refuse_if-2
unfolding head_refusal
returns-in_err-refuse_if-2 c =
    check-accepted _ _ (check-same _ c.refuse_if.ensures (grind arith)) c.in_ok-refuse_if.was
    (check-refused _ _ (check-same _ c.refuse_if-2.ensures (grind arith)) c.in_err-refuse_if-2.was (search rules))

pub u16_at-requires-2 : goal.u16_at-requires-2
u16_at-requires-2 c = grind (arith, check_passed _ _ c.refuse_if-2.ensures c.in_ok-refuse_if-2.was)

pub u16_at-requires-3 : goal.u16_at-requires-3
u16_at-requires-3 c = grind (arith, check_passed _ _ c.refuse_if-2.ensures c.in_ok-refuse_if-2.was)

pub bounds-bytes-7 : goal.bounds-bytes-7
bounds-bytes-7 c = grind (arith, check_passed _ _ c.refuse_if-2.ensures c.in_ok-refuse_if-2.was)

pub returns : goal.returns
unfolding head_refusal field_checks
returns c =
    check-accepted _ _ (check-same _ c.refuse_if.ensures (grind arith)) c.in_ok-refuse_if.was
    (check-accepted _ _ (check-same _ c.refuse_if-2.ensures (grind arith)) c.in_ok-refuse_if-2.was
    (c.judge_fields.ensures ∙ rw (c.u16_at-2.ensures, c.u16_at-3.ensures, c.from.ensures)))
