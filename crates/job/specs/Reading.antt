-- What the functions that read a job answer, by the model's refusals. Only inner contracts cite these; the
-- entry points' contracts are in `Answers`. Definitions only.
--   field_checks                      the last conditions of the row "job head"
--   record_checks, step_read          one step record
--   records_in, records, no_records   what reading step records answers, and what the model reads
--   Unpackable                        what unpacking asks
use Rattle.std.specs.Prelude.{ℕ, ◌+◌, ◌-◌, ◌*◌, ◌≡◌, ◌||◌, not, List, [], ◌∷◌, eqb, leb, ltb, length, get_or}
use Rattle.std.specs.Prelude.{Result, Ok, Err}
use Rattle.std.proofs.Math.Option.{Option, none, some}
use Rattle.neighbours.specs.Crop.{Sized}
use Rattle.model.specs.Limits.{max_job_side}
use Rattle.model.specs.Refusals.{number, refuse_if, size_check, steps_check}
use Rattle.model.specs.Codec.{packed_length, kind_length, step_at, step_refusal}
use Rattle.model.specs.Codec.{StepsRead as ModelStepsRead, refused_steps, accepted_steps}
use Rattle.model.specs.declared.Refusal.{Refusal}
use Rattle.model.specs.declared.Refusal.TheVariants.{BadJobLength, BadStep, TooManyPixels}
use Rattle.model.specs.declared.Step.{Step}
use Rattle.model.specs.StepList.{steps_in, slotted}
use Rattle.job.specs.declared.inner.read.StepsRead.{StepsRead}

-- ---- the head

-- the last three conditions of the row "job head", which judge its fields
unfoldable pub field_checks : ℕ → ℕ → ℕ → ℕ → List (Option Refusal)
field_checks limit width height total =
    size_check max_job_side width height
    ∷ refuse_if (ltb limit (width * height)) TooManyPixels
    ∷ steps_check total
    ∷ []

-- ---- step records

-- the first two conditions of the row "each step": 13 and 14
unfoldable pub record_checks : List ℕ → List (Option Refusal)
record_checks bytes =
    let following = get_or bytes 0 0 in
    refuse_if (leb (length bytes) following) BadJobLength
    ∷ refuse_if (eqb following 0 || not (eqb following (kind_length (get_or bytes 1 0)))) BadStep
    ∷ []

-- the step of the record that the bytes begin with, or its refusal
unfoldable pub step_read : ℕ → ℕ → List ℕ → Result Step Refusal
step_read width height bytes =
    elim (step_refusal width height bytes) [ none ↦ Ok (step_at bytes) | some refusal ↦ Err refusal ]

-- What is told of step records: 01's number or 0, the steps, what all slots hold, and where the bytes behind
-- the records begin
pub record Records : Type 0 where
  pub number : ℕ
  pub steps : List Step
  pub slots : List Step
  pub end : ℕ

-- nothing is told where a record is refused
unfoldable pub no_records : Refusal → Records
no_records refusal = record { number = number refusal; steps = []; slots = slotted []; end = 0 }

-- of an answer
unfoldable pub records_in : Result StepsRead Refusal → Records
records_in (Ok read) =
    record { number = 0; steps = steps_in read.steps; slots = read.steps.slots; end = read.end }
records_in (Err refusal) = no_records refusal

-- of what the model reads from these bytes
unfoldable pub records : List ℕ → ModelStepsRead → Records
records bytes (refused_steps refusal) = no_records refusal
records bytes (accepted_steps steps behind) =
    record { number = 0; steps = steps; slots = slotted steps; end = length bytes - length behind }

-- ---- packed images

-- two packed images are the bytes from `at` on, and the buffers have the crop's size
pub record Unpackable (width height : ℕ) (bytes : List ℕ) (at : ℕ) (image mask : List ℕ) : Type 0 where
  pub images : at + 2 * packed_length width height ≡ length bytes
  pub sized : Sized width height image
  pub masked : Sized width height mask
