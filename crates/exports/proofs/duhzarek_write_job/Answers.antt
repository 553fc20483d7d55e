-- `duhzarek_write_job` meets its contract: it is `write_records`, with the verdict as a number. Assumes nothing.
use Rattle.model.specs.Answers.{written_to}
use Rattle.exports.proofs.duhzarek_write_job.Goals as goal

pub returns : goal.returns
unfolding written_to
returns c = rw c.verdict_number.ensures c.write_records-written.ensures
