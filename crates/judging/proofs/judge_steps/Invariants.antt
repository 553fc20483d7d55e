-- What the loop of `judge_steps` keeps: the steps so far pass.
use mathlib.Core.Path.{◌≡◌}
use mathlib.Core.List.{flat_map}
use mathlib.Core.Option.{none}
use lib.ListN.{take}
use Rattle.model.specs.Refusals.{first_refusal, step_checks}
use Rattle.judging.proofs.judge_steps.Given as goal

abbrev pub invariant-loop-step : goal.invariant-loop-step
invariant-loop-step l = first_refusal (flat_map (step_checks l.width l.height) (take l.step-index l.steps)) ≡ none
