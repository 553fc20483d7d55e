-- Laws of steps in hand (`StepList`, of the crate `model`), for loops over a list of steps and over its slots.
--   length-slots               there are 32 slots
--   length-steps_in             as many steps as the list says
--   drop-set-replicate         what stands behind a count, where the entry at the count is written
--   slots-slotted              all slots, where the ones behind the steps are unused
--   list_checks-none            the size and the number of steps of a list that is not refused
-- Assumes nothing.
use Prim.Native.Nat.{ℕ, suc, ◌-◌, ◌≤◌, ◌<◌}
use mathlib.Core.Path.{◌≡◌, sym, ◌∙◌}
use mathlib.Core.List.{List}
use mathlib.Core.Option.{none}
use native.Mathlib.Numerals.{add-one}
use native.Mathlib.Omega.{arith}
use lib.ListN.{length, drop, set, replicate, take-append-drop}
use lib.Seq.{drop-drop, drop-set-lt}
use Rattle.std.proofs.lemmas.List.{length-take-le}
use borrow.Author.Tests.{ltb-false}
use mir.Val.{Val}
use denote.Laws.{Is}
use Rattle.neighbours.specs.Limits.{max_side}
use Rattle.neighbours.specs.Crop.{ValidSize}
use Rattle.model.specs.Limits.{max_steps}
use Rattle.model.specs.Refusals.{first_refusal}
use Rattle.model.specs.Codec.{list_checks}
use Rattle.model.specs.declared.Step.{Step}
use Rattle.theorems.proofs.CheckLaws.{first_refusal-none-cons}
use Rattle.theorems.proofs.RefusalLaws.{sides-iff}
use Rattle.model.specs.declared.list.Steps.{Steps}
use Rattle.model.specs.StepList.{steps_in, unused_step, slotted}
use Rattle.model.specs.contracts.list.Steps.{the_row}

-- steps in hand have 32 slots: owning them tells, and a function's `good` hands it over for its parameter
pub length-slots : (steps : Steps) (vs : List Val) → Is the_row steps vs → length steps.slots ≡ max_steps
length-slots steps vs is = is.1.1.0.1.0.1

-- as many steps as the list says
pub length-steps_in : (steps : Steps) → steps.count ≤ length steps.slots → length (steps_in steps) ≡ steps.count
length-steps_in steps inside = length-take-le steps.count steps.slots inside

-- ---- behind a count

-- copies stand behind the count, also once the entry at the count is written
pub drop-set-replicate {ℓ} : {A : Type ℓ} (xs : List A) (k most : ℕ) (x a : A) → k < most →
    drop k xs ≡ replicate (most - k) a → drop (suc k) (set xs k x) ≡ replicate (most - suc k) a
drop-set-replicate xs k most x a below behind =
    let left : most - k ≡ suc (most - suc k) = omega arith in
    drop-set-lt (suc k) xs k x (omega arith)
    ∙ rw (← (add-one k), ← (drop-drop 1 k xs), behind, left, add-one)

-- all slots, where the ones behind the steps are unused
pub slots-slotted : (steps : Steps) → steps.count ≤ length steps.slots →
    drop steps.count steps.slots ≡ replicate (max_steps - steps.count) unused_step →
    steps.slots ≡ slotted (steps_in steps)
unfolding slotted
slots-slotted steps inside unused =
    sym (take-append-drop steps.count steps.slots) ∙ rw (unused, length-steps_in steps inside)

-- ---- the checks of a list

-- where nothing refuses it, the size and the number of steps are within the limits
pub list_checks-none : (width height : ℕ) (steps : List Step) →
    first_refusal (list_checks max_side width height steps) ≡ none →
    ValidSize width height × (length steps ≤ max_steps)
list_checks-none width height steps e =
    let side = first_refusal-none-cons _ _ _ e in
    ((sides-iff width height).0 side.0, ltb-false _ _ (first_refusal-none-cons _ _ _ side.1).0)
