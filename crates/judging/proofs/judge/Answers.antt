-- `judge` meets its contract: it judges the lengths and then the pixels. Assumes nothing.
use borrow.Author.Rules.{rules}
use Rattle.judging.proofs.JudgeLaws.{check-last, row-refused, row-accepted, same_lengths-one, buffer_checks-lengths}
use Rattle.lists.specs.Lists.{any}
use mathlib.Core.Bool.{or-false}
use Rattle.judging.proofs.judge.Goals as goal

pub returns-in_err-judge_lengths : goal.returns-in_err-judge_lengths
returns-in_err-judge_lengths c =
    buffer_checks-lengths _ _ _ _ _ _ _ _ (same_lengths-one _ _)
    (row-refused _ _ c.judge_lengths.ensures c.in_err-judge_lengths.was (search rules))

pub returns : goal.returns
unfolding any
returns c =
    buffer_checks-lengths _ _ _ _ _ _ _ _ (same_lengths-one _ _)
    (row-accepted _ _ c.judge_lengths.ensures c.in_ok-judge_lengths.was
    (check-last _ _ (rw (or-false, ← c.has_bad_pixel.ensures) c.refuse_if.ensures)))
