-- `read_records` meets its contract: the size and the number of records are judged, and then the records are read.
-- Assumes nothing.
use mathlib.Core.Path.{ap, ◌∙◌}
use lib.Dec.{ltb}
use borrow.Author.Rules.{rules}
use borrow.Author.Tests.{ltb-false}
use Rattle.model.specs.Limits.{max_steps}
use Rattle.model.specs.Refusals.{refuse_if}
use Rattle.model.specs.declared.Refusal.TheVariants.{BadSize, TooManySteps}
use Rattle.judging.proofs.JudgeLaws.{check_passed}
use Rattle.exports.proofs.RecordsLaws.{size-answered, many-answered, records_read-read}
use Rattle.exports.proofs.inner.read_records.Goals as goal

pub returns-in_err-refuse_if : goal.returns-in_err-refuse_if
returns-in_err-refuse_if c =
    size-answered _ _ _ _ (c.refuse_if.ensures ∙ ap (λ t. refuse_if t BadSize) c.bad_size.ensures)
    c.in_err-refuse_if.was (search rules)

pub returns-in_err-refuse_if-2 : goal.returns-in_err-refuse_if-2
returns-in_err-refuse_if-2 c =
    many-answered _ _ _ _ (c.refuse_if.ensures ∙ ap (λ t. refuse_if t BadSize) c.bad_size.ensures)
    c.in_ok-refuse_if.was c.refuse_if-2.ensures c.in_err-refuse_if-2.was (search rules)

pub read_steps-requires : goal.read_steps-requires
read_steps-requires c =
    let total = c.args.step_count in
    ltb-false _ _ (check_passed TooManySteps (ltb max_steps total) c.refuse_if-2.ensures c.in_ok-refuse_if-2.was)

pub returns : goal.returns
returns c =
    rw (records_read-read _ _ _ _ (c.refuse_if.ensures ∙ ap (λ t. refuse_if t BadSize) c.bad_size.ensures)
    c.in_ok-refuse_if.was c.refuse_if-2.ensures c.in_ok-refuse_if-2.was) c.read_steps.ensures
