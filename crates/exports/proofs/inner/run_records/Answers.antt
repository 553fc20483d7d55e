-- `run_records` meets its contract: the step records are refused, or their steps are run. Assumes nothing.
use borrow.Author.Rules.{rules}
use Rattle.exports.proofs.RecordsLaws.{run_records-refused, run_records-accepted}
use Rattle.exports.proofs.inner.run_records.Goals as goal

pub returns-in_err-read : goal.returns-in_err-read
returns-in_err-read c =
    run_records-refused _ _ c.read_records.ensures _ _ _ _ _ c.in_err-read.was (search rules)

pub returns : goal.returns
returns c =
    run_records-accepted _ _ c.read_records.ensures _ _ _ _ _ c.in_ok-read.was
    (rw c.as_slice.ensures at c.run_steps.ensures)
