-- `run_steps` meets its contract: the table's rows refuse the run, or it is run as a list. Assumes nothing.
use borrow.Author.Rules.{rules}
use Rattle.judging.proofs.JudgeLaws.{verdict-refused, verdict-accepted}
use Rattle.runner.proofs.RunListLaws.{refused-meets, accepted-meets}
use Rattle.runner.proofs.run_steps.Goals as goal

pub returns-in_err-judge_run : goal.returns-in_err-judge_run
returns-in_err-judge_run c =
    refused-meets _ _ _ _ _ _ (verdict-refused c.judge_run.ensures c.in_err-judge_run.was) (search rules)

pub returns : goal.returns
returns c =
    accepted-meets _ _ _ _ _ _ (verdict-accepted c.judge_run.ensures c.in_ok-judge_run.was) c.run_list.ensures

pub run_list-requires : goal.run_list-requires
run_list-requires c = verdict-accepted c.judge_run.ensures c.in_ok-judge_run.was
