-- `judge_steps` meets its contract: the first step that is refused answers. Assumes nothing.
use mathlib.Core.Path.{refl, sym}
use mathlib.Core.List.{flat_map}
use native.Mathlib.Numerals.{add-one}
use lib.Seq.{take_all}
use borrow.Author.Rules.{rules}
use Rattle.model.specs.Refusals.{refusal, first_refusal}
use Rattle.judging.proofs.JudgeLaws.{entry-refused, entry-accepted}
use Rattle.judging.proofs.judge_steps.Goals as goal

pub loop-step-init : goal.loop-step-init
unfolding flat_map first_refusal
loop-step-init c = refl

pub returns-in_err-judge_step : goal.returns-in_err-judge_step
returns-in_err-judge_step c =
    entry-refused _ _ _ _ c.loop-step-test.true c.loop-step.invariant c.judge_step.ensures c.in_err-judge_step.was
    (search rules)

pub loop-step-preserved : goal.loop-step-preserved
loop-step-preserved c =
    rw add-one
    (entry-accepted _ _ _ _ c.loop-step-test.true c.loop-step.invariant c.judge_step.ensures c.in_ok-judge_step.was)

pub returns : goal.returns
unfolding refusal
returns c = sym (rw (take_all _ _ c.loop-step-test.false) at c.loop-step.invariant)
