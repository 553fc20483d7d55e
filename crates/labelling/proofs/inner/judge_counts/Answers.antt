-- `judge_counts` meets its contract: it goes through the row's checks from left to right. Assumes nothing.
use mathlib.Core.Path.{ap, ◌∙◌}
use borrow.Author.Rules.{rules}
use native.Mathlib.Omega.{arith}
use Rattle.model.specs.Refusals.{refuse_if, label_checks}
use Rattle.model.specs.declared.Refusal.TheVariants.{TooFewRecords}
use Rattle.judging.proofs.JudgeLaws.{check-last, check-refused, check-accepted}
use Rattle.labelling.proofs.inner.judge_counts.Goals as goal

pub returns-in_err-refuse_if : goal.returns-in_err-refuse_if
unfolding label_checks
returns-in_err-refuse_if c = check-refused _ _ c.refuse_if.ensures c.in_err-refuse_if.was (search rules)

pub returns-in_err-refuse_if-2 : goal.returns-in_err-refuse_if-2
unfolding label_checks
returns-in_err-refuse_if-2 c =
    check-accepted _ _ c.refuse_if.ensures c.in_ok-refuse_if.was
    (check-refused _ _ c.refuse_if-2.ensures c.in_err-refuse_if-2.was (search rules))

pub returns : goal.returns
unfolding label_checks
returns c =
    check-accepted _ _ c.refuse_if.ensures c.in_ok-refuse_if.was
    (check-accepted _ _ c.refuse_if-2.ensures c.in_ok-refuse_if-2.was
    (check-last _ _ (c.refuse_if-3.ensures ∙ ap (λ (t : _). refuse_if t TooFewRecords) (grind arith))))
