-- `judge_list` meets its contract: it goes through the checks from left to right. Assumes nothing.
use borrow.Author.Rules.{rules}
use Rattle.judging.proofs.JudgeLaws.{check-refused, check-accepted}
use Rattle.judging.proofs.judge_list.Goals as goal

pub returns-in_err-refuse_if : goal.returns-in_err-refuse_if
returns-in_err-refuse_if c =
    check-refused _ _ (rw (← c.bad_size.ensures) c.refuse_if.ensures) c.in_err-refuse_if.was (search rules)

pub returns-in_err-refuse_if-2 : goal.returns-in_err-refuse_if-2
returns-in_err-refuse_if-2 c =
    check-accepted _ _ (rw (← c.bad_size.ensures) c.refuse_if.ensures) c.in_ok-refuse_if.was
    (check-refused _ _ c.refuse_if-2.ensures c.in_err-refuse_if-2.was (search rules))

pub returns : goal.returns
returns c =
    check-accepted _ _ (rw (← c.bad_size.ensures) c.refuse_if.ensures) c.in_ok-refuse_if.was
    (check-accepted _ _ c.refuse_if-2.ensures c.in_ok-refuse_if-2.was c.judge_steps.ensures)
