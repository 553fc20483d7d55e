-- `write_records` meets its contract: the step records are refused, or the job of their steps is written.
-- Assumes nothing.
use borrow.Author.Rules.{rules}
use Rattle.exports.proofs.RecordsLaws.{write_records-refused, write_records-accepted}
use Rattle.exports.proofs.inner.write_records.Goals as goal

pub returns-in_err-given : goal.returns-in_err-given
returns-in_err-given c =
    write_records-refused _ _ c.read_records.ensures _ _ _ _ _ c.in_err-given.was (search rules)

pub returns : goal.returns
returns c =
    write_records-accepted _ _ c.read_records.ensures _ _ _ _ c.in_ok-given.was _
    (rw c.as_slice.ensures at c.write_job.ensures)
