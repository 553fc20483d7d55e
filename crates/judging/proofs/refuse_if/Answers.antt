-- `refuse_if` meets its contract, case by case. Assumes nothing.
use Rattle.model.specs.Refusals.{refusal, refuse_if}
use Rattle.judging.proofs.refuse_if.Goals as goal

pub returns-then-condition : goal.returns-then-condition
unfolding refusal refuse_if
returns-then-condition c = rw c.if-condition.true

pub returns-else-condition : goal.returns-else-condition
unfolding refusal refuse_if
returns-else-condition c = rw c.if-condition.false
