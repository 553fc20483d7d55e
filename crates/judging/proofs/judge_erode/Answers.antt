-- `judge_erode` meets its contract: two checks. Assumes nothing.
use borrow.Author.Rules.{rules}
use Rattle.model.specs.Refusals.{connectivity_check}
use Rattle.judging.proofs.JudgeLaws.{check-last, check-refused, check-accepted}
use Rattle.judging.proofs.judge_erode.Goals as goal

pub returns-in_err-refuse_if : goal.returns-in_err-refuse_if
unfolding connectivity_check
returns-in_err-refuse_if c =
    check-refused _ _ (rw (← c.bad_connectivity.ensures) c.refuse_if.ensures) c.in_err-refuse_if.was (search rules)

pub returns : goal.returns
unfolding connectivity_check
returns c =
    check-accepted _ _ (rw (← c.bad_connectivity.ensures) c.refuse_if.ensures) c.in_ok-refuse_if.was
    (check-last _ _ c.refuse_if-2.ensures)
