-- Steps in hand, as entry points answer them by value. Definitions only; their laws are in the crate `theorems`,
-- `proofs/StepListLaws.antt`.
--   steps_in     the steps of a list
--   slotted      what the slots of a list that was read hold: its steps, and unused ones behind them
use Rattle.std.specs.Prelude.{ℕ, ◌-◌, List, ◌++◌, length, take, replicate}
use Rattle.model.specs.Limits.{max_steps}
use Rattle.model.specs.declared.Step.{Step}
use Rattle.model.specs.declared.Step.TheVariants.{Dilate}
use Rattle.model.specs.declared.list.Steps.{Steps}

-- as many steps as the list says, from the first slot on
abbrev pub steps_in : Steps → List Step
steps_in steps = take steps.count steps.slots

-- an unused slot holds a dilation without iterations, which changes nothing
abbrev pub unused_step : Step
unused_step = Dilate 4 0

-- the steps that were read, and an unused one in each slot behind them
unfoldable pub slotted : List Step → List Step
slotted steps = steps ++ replicate (max_steps - length steps) unused_step
