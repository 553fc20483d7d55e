-- `read_step` meets its contract: it judges the record, then the step that stands there. Assumes nothing.
use borrow.Author.Rules.{rules}
use Rattle.job.proofs.ReadingLaws.{answer-accepted, step_read-record, step_read-step, step_read-checked}
use Rattle.job.proofs.inner.read.read_step.Goals as goal

pub step_at-step-requires : goal.step_at-step-requires
step_at-step-requires c = answer-accepted c.judge_record.ensures c.in_ok-judge_record.was

pub returns-in_err-judge_record : goal.returns-in_err-judge_record
returns-in_err-judge_record c =
    step_read-record _ _ _ c.judge_record.ensures c.in_err-judge_record.was (search rules)

pub returns-in_err-judge_step : goal.returns-in_err-judge_step
returns-in_err-judge_step c =
    step_read-step _ _ _ (answer-accepted c.judge_record.ensures c.in_ok-judge_record.was) c.step_at-step.ensures
    c.judge_step.ensures c.in_err-judge_step.was (search rules)

pub returns : goal.returns
returns c =
    step_read-checked _ _ _ (answer-accepted c.judge_record.ensures c.in_ok-judge_record.was) c.step_at-step.ensures
    c.judge_step.ensures c.in_ok-judge_step.was
