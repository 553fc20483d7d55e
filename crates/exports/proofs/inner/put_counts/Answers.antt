-- `put_counts` meets its contract, case by case. Assumes nothing.
use mathlib.Core.Path.{ap, ◌∙◌}
use lib.ListN.{replicate}
use Rattle.model.specs.Refusals.{verdict_number}
use Rattle.exports.specs.Numbers.{counts_told}
use Rattle.exports.proofs.inner.put_counts.Goals as goal

pub returns-in-Ok-clause-number : goal.returns-in-Ok-clause-number
unfolding verdict_number
returns-in-Ok-clause-number g c = rw c.in-Ok.is

pub returns-in-Ok-clause-counts : goal.returns-in-Ok-clause-counts
unfolding counts_told
returns-in-Ok-clause-counts g c = rw c.in-Ok.is c.numbers.ensures

pub returns-in-Err-clause-number : goal.returns-in-Err-clause-number
unfolding verdict_number
returns-in-Err-clause-number g c = rw c.in-Err.is c.from.ensures

pub returns-in-Err-clause-counts : goal.returns-in-Err-clause-counts
unfolding counts_told
returns-in-Err-clause-counts g c =
    rw c.in-Err.is (c.fill.ensures.after (λ y e. e) ∙ ap (λ n. replicate n 0) c.told-counts)
