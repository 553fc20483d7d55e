-- `duhzarek_unpack_job` meets its contract: it is `job::unpack_job`, with the verdict as a number. Assumes nothing.
use Rattle.model.specs.Answers.{unpacked_to}
use Rattle.exports.proofs.duhzarek_unpack_job.Goals as goal

pub returns : goal.returns
unfolding unpacked_to
returns c = rw c.verdict_number.ensures c.unpack_job-verdict.ensures
