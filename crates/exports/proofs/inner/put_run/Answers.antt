-- `put_run` meets its contract, case by case. Assumes nothing.
use mathlib.Core.Path.{sym, ap, ◌∙◌}
use native.Mathlib.Omega.{arith}
use lib.ListN.{length, replicate}
use Rattle.model.specs.Limits.{max_steps}
use Rattle.model.specs.Refusals.{verdict_number}
use Rattle.model.specs.Answers.{run_told}
use Rattle.exports.proofs.NumbersLaws.{length-numbers_of, numbers_of-none}
use Rattle.exports.proofs.inner.put_run.Goals as goal

pub overflow_cast-counts : goal.overflow_cast-counts
unfolding run_told
overflow_cast-counts c =
    let few = rw c.in-Ok.is at c.requires in
    let room = sym (ap length c.put_reports.ensures) ∙ c.put_reports.auto.reports ∙ c.told-reports in
    omega (arith, length-numbers_of c.in-Ok.report.reports, room)

pub returns-in-Ok-clause-number : goal.returns-in-Ok-clause-number
unfolding verdict_number
returns-in-Ok-clause-number c = rw c.in-Ok.is

pub returns-in-Ok-clause-counts : goal.returns-in-Ok-clause-counts
unfolding run_told
returns-in-Ok-clause-counts c = rw c.in-Ok.is

pub returns-in-Ok-clause-reports : goal.returns-in-Ok-clause-reports
unfolding run_told
returns-in-Ok-clause-reports c = rw c.in-Ok.is c.put_reports.ensures

pub returns-in-Err-clause-number : goal.returns-in-Err-clause-number
unfolding verdict_number
returns-in-Err-clause-number c = rw c.in-Err.is c.from.ensures

pub returns-in-Err-clause-counts : goal.returns-in-Err-clause-counts
unfolding run_told
returns-in-Err-clause-counts c = rw c.in-Err.is

pub returns-in-Err-clause-reports : goal.returns-in-Err-clause-reports
unfolding run_told
returns-in-Err-clause-reports c =
    rw (c.in-Err.is, numbers_of-none max_steps)
    (c.fill.ensures.after (λ y e. e) ∙ ap (λ n. replicate n 0) c.told-reports)

pub returns-in-Ok-clause-room : goal.returns-in-Ok-clause-room
returns-in-Ok-clause-room c = c.put_reports.auto.reports ∙ c.told-reports

pub returns-in-Err-clause-room : goal.returns-in-Err-clause-room
returns-in-Err-clause-room c = c.fill.ensures.len ∙ c.told-reports
