-- `judge_operation` meets its contract: the buffers are judged, and then the step. Assumes nothing.
use borrow.Author.Rules.{rules}
use Rattle.judging.proofs.JudgeLaws.{row-refused, row-accepted}
use Rattle.judging.proofs.judge_operation.Goals as goal

pub returns-in_err-judge_buffers : goal.returns-in_err-judge_buffers
returns-in_err-judge_buffers c = row-refused _ _ c.judge_buffers.ensures c.in_err-judge_buffers.was (search rules)

pub returns : goal.returns
returns c = row-accepted _ _ c.judge_buffers.ensures c.in_ok-judge_buffers.was c.judge_step.ensures
