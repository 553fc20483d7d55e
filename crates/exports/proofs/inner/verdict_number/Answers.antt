-- `verdict_number` meets its contract, case by case. Assumes nothing.
use Rattle.model.specs.Refusals.{verdict_number}
use Rattle.exports.proofs.inner.verdict_number.Goals as goal

pub returns-in-Ok : goal.returns-in-Ok
unfolding verdict_number
returns-in-Ok c = rw c.in-Ok.is

pub returns-in-Err : goal.returns-in-Err
unfolding verdict_number
returns-in-Err c = rw c.in-Err.is c.from.ensures
