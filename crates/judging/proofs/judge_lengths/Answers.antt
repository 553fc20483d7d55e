-- `judge_lengths` meets its contract: it judges the sizes and then the queue's length. Assumes nothing.
use mathlib.Core.Path.{◌≡◌, sym, ◌∙◌}
use native.Mathlib.Omega.{arith}
use borrow.Author.Rules.{rules}
use Rattle.theorems.proofs.CheckLaws.{first_refusal-none-cons}
use mathlib.Core.Option.{none}
use Rattle.model.specs.Refusals.{refusal, first_refusal}
use Rattle.judging.specs.Lengths.{size_checks, length_checks}
use Rattle.judging.proofs.JudgeLaws.{check-last, row-refused, row-accepted, size-good}
use Rattle.judging.proofs.judge_lengths.Goals as goal

pub returns-in_err-judge_sizes : goal.returns-in_err-judge_sizes
unfolding length_checks
returns-in_err-judge_sizes c = row-refused _ _ c.judge_sizes.ensures c.in_err-judge_sizes.was (search rules)

pub overflow_mul-width : goal.overflow_mul-width
unfolding refusal size_checks
overflow_mul-width c =
    let a = c.args in
    let passes : first_refusal (size_checks a.width a.height a.first a.second a.third) ≡ none =
    sym c.judge_sizes.ensures ∙ rw c.in_ok-judge_sizes.was in
    omega (arith, size-good _ _ (first_refusal-none-cons _ _ _ passes).0)

pub returns : goal.returns
unfolding length_checks
returns c =
    row-accepted _ _ c.judge_sizes.ensures c.in_ok-judge_sizes.was (check-last _ _ c.refuse_if.ensures)
