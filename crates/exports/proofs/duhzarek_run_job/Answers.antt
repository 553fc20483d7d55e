-- `duhzarek_run_job` meets its contract: it is `job::run_job`, with the answer in numbers. Assumes nothing.
use Rattle.exports.proofs.NumbersLaws.{run-count, meets-numbers}
use Rattle.exports.proofs.duhzarek_run_job.Goals as goal

pub put_run-requires : goal.put_run-requires
put_run-requires c = run-count c.run_job-reply.ensures

pub returns : goal.returns
returns c =
    let told = c.put_run.ensures in
    meets-numbers c.run_job-reply.ensures told.room told.number told.counts told.reports
