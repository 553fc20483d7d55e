-- `judge_written` meets its contract: the size and the steps are judged first, and the buffers behind them.
-- Assumes nothing.
use borrow.Author.Rules.{rules}
use Rattle.theorems.proofs.StepListLaws.{list_checks-none}
use Rattle.job.proofs.ReadingLaws.{answer-accepted}
use Rattle.job.proofs.WritingLaws.{write_refusal-refused, write_refusal-accepted}
use Rattle.job.proofs.inner.write.judge_written.Goals as goal

pub returns-in_err-judge_list : goal.returns-in_err-judge_list
returns-in_err-judge_list c =
    write_refusal-refused _ _ _ _ _ _ c.judge_list.ensures c.in_err-judge_list.was (search rules)

pub job_length-needed-requires-clause-valid_size : goal.job_length-needed-requires-clause-valid_size
job_length-needed-requires-clause-valid_size c =
    (list_checks-none _ _ _ (answer-accepted c.judge_list.ensures c.in_ok-judge_list.was)).0

pub job_length-needed-requires-clause-few_steps : goal.job_length-needed-requires-clause-few_steps
job_length-needed-requires-clause-few_steps c =
    (list_checks-none _ _ _ (answer-accepted c.judge_list.ensures c.in_ok-judge_list.was)).1

pub judge_buffers-requires : goal.judge_buffers-requires
judge_buffers-requires c =
    (list_checks-none _ _ _ (answer-accepted c.judge_list.ensures c.in_ok-judge_list.was)).0

pub returns : goal.returns
returns c =
    write_refusal-accepted _ _ _ _ _ _ c.judge_list.ensures c.in_ok-judge_list.was
    c.job_length-needed.ensures c.judge_buffers.ensures
