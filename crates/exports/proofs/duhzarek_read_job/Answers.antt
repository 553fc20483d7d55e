-- `duhzarek_read_job` meets its contract: it is `job::read_job`, with what is told as numbers that fit.
-- Assumes nothing.
use mathlib.Core.Path.{◌∙◌}
use native.Mathlib.Omega.{arith}
use Rattle.exports.proofs.RecordsLaws.{head_numbers-refused, head_numbers-accepted, head_numbers-fit}
use Rattle.exports.proofs.duhzarek_read_job.Goals as goal

pub head_numbers-requires : goal.head_numbers-requires
head_numbers-requires c =
    head_numbers-fit _ _ c.read_job.ensures c.in-Ok.is
    (λ k. omega (arith, c.type_inv.job k))

pub returns-in-Ok-clause-number : goal.returns-in-Ok-clause-number
returns-in-Ok-clause-number c = (head_numbers-accepted _ _ c.read_job.ensures c.in-Ok.is).0

pub returns-in-Ok-clause-head : goal.returns-in-Ok-clause-head
returns-in-Ok-clause-head c =
    c.head_numbers.ensures ∙ (head_numbers-accepted _ _ c.read_job.ensures c.in-Ok.is).1

pub returns-in-Err-clause-number : goal.returns-in-Err-clause-number
returns-in-Err-clause-number c = c.from.ensures ∙ (head_numbers-refused _ _ c.read_job.ensures c.in-Err.is).0

pub returns-in-Err-clause-head : goal.returns-in-Err-clause-head
returns-in-Err-clause-head c = (head_numbers-refused _ _ c.read_job.ensures c.in-Err.is).1
