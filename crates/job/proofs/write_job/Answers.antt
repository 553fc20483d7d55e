-- `write_job` meets its contract: a job that is judged writable is written, and any other leaves the buffer as it was.
-- Assumes nothing.
use borrow.Author.Rules.{rules}
use Rattle.job.proofs.ReadingLaws.{answer-accepted}
use Rattle.job.proofs.WritingLaws.{write_job-refused, write_job-accepted}
use Rattle.job.proofs.write_job.Goals as goal

pub returns-in_err-judge_written : goal.returns-in_err-judge_written
returns-in_err-judge_written c =
    write_job-refused _ _ c.judge_written.ensures c.in_err-judge_written.was (search rules)

pub write-requires : goal.write-requires
write-requires c = answer-accepted c.judge_written.ensures c.in_ok-judge_written.was

pub returns : goal.returns
returns c = write_job-accepted _ _ c.judge_written.ensures c.in_ok-judge_written.was c.write.ensures
