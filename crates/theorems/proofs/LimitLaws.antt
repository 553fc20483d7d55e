-- The limits of document 01 against the widths of numbers. Assumes nothing.
--   size-le, position-fits       a crop has at most `max_pixels` pixels, so a position is below
--   max_pixels-refuses-nothing   the largest limit on pixels refuses no crop
--   length-step_bytes            the length byte of a step record tells the bytes behind it
--   job_length-le                a job that is not refused is shorter than `u16_limit`
--   job_bytes-bytes              and each of them is below 256
--   count_fits                   a labelling that is not refused has counts that a map can hold, and records enough
use Prim.Native.Nat.{ℕ, ◌+◌, ◌*◌, ◌/◌, ◌%◌, ◌≤◌, ◌<◌, zero, suc}
use mathlib.Core.Path.{◌≡◌, refl}
use mathlib.Core.Bool.{false}
use mathlib.Core.Logic.{⊎_elim}
use mathlib.Core.List.{List, [], ◌∷◌, ◌++◌, flat_map}
use mathlib.Core.Option.{Option, none}
use native.Mathlib.Omega.{arith}
use native.Mathlib.Nat.{mul-le-mul}
use lib.Dec.{eqb, ltb}
use lib.ListN.{length, length-append}
use borrow.Author.Tests.{ltb-false, le-ltb, eqb-true, not-false}
use Rattle.lists.specs.Lists.{Each}
use Rattle.lists.proofs.BoolLaws.{or-true-cases}
use Rattle.neighbours.specs.Limits.{max_side, max_pixels}
use Rattle.neighbours.specs.Grid.{all_sides}
use Rattle.neighbours.proofs.PackedLaws.{Units, row_units-lt, packed_length-is, packed_lt}
use Rattle.model.specs.Limits.{max_labels, record_length, u16_limit}
use Rattle.model.specs.Refusals.{first_refusal, connectivity_check, step_checks, label_checks}
use Rattle.model.specs.Operations.{kind}
use Rattle.model.specs.Codec.{Job, u16_bytes, byte_bits, row_bytes, packed_length, packed, kind_length, field_bytes}
use Rattle.model.specs.Codec.{step_bytes, job_bytes, job_length}
use Rattle.model.specs.Codec.{write_refusal, StepFits}
use Rattle.model.specs.declared.Refusal.{Refusal}
use Rattle.model.specs.declared.Step.{Step}
use Rattle.model.specs.declared.Step.TheVariants.{Erode, Dilate, Propagate, FloodFill, ClearBorder, ErodeBySides}
use Rattle.theorems.proofs.CheckLaws.{first_refusal-none-cons}
use Rattle.theorems.proofs.CodecLaws.{write_refusal-none}

-- ---- pixels

module _ {width height : ℕ} (narrow : width ≤ max_side) (low : height ≤ max_side) where
  -- a crop has at most `max_pixels` pixels
  pub size-le : width * height ≤ max_pixels
  size-le = mul-le-mul narrow low

  -- a position is below that
  pub position-fits : {i : ℕ} → i < width * height → i < max_pixels
  position-fits {i} l = omega (arith, size-le)

  -- the largest limit on pixels refuses no crop
  pub max_pixels-refuses-nothing : ltb max_pixels (width * height) ≡ false
  max_pixels-refuses-nothing = le-ltb max_pixels (width * height) size-le

  -- a packed image has at most 32 bytes in each of 256 rows
  pub packed_length-le : packed_length width height ≤ 8192
  packed_length-le =
      let row : row_bytes width ≤ 32 = omega (arith, row_units-lt byte_bits width (omega arith)) in
      rw (packed_length-is byte_bits width height) (mul-le-mul row low)

-- ---- bytes

-- the length byte of a step record tells the bytes behind it
pub length-step_bytes : (step : Step) → length (step_bytes step) ≡ 1 + kind_length (kind step)
unfolding step_bytes field_bytes kind_length u16_bytes
length-step_bytes (Erode connectivity border_value n) = refl
length-step_bytes (Dilate connectivity n) = refl
length-step_bytes (Propagate connectivity n) = refl
length-step_bytes (FloodFill connectivity x y) = refl
length-step_bytes (ClearBorder connectivity) = refl
length-step_bytes (ErodeBySides connectivity sides n) = refl

-- a step record has at most seven bytes
pub length-step_bytes-le : (step : Step) → length (step_bytes step) ≤ 7
unfolding step_bytes field_bytes kind_length u16_bytes
length-step_bytes-le (Erode connectivity border_value n) = omega arith
length-step_bytes-le (Dilate connectivity n) = omega arith
length-step_bytes-le (Propagate connectivity n) = omega arith
length-step_bytes-le (FloodFill connectivity x y) = omega arith
length-step_bytes-le (ClearBorder connectivity) = omega arith
length-step_bytes-le (ErodeBySides connectivity sides n) = omega arith

-- and each of a list of them
pub length-records-le : (steps : List Step) → length (flat_map step_bytes steps) ≤ 7 * length steps
unfolding flat_map
length-records-le [] = omega arith
length-records-le (step ∷ steps) =
    omega (
      arith,
      length-append (step_bytes step) (flat_map step_bytes steps),
      length-step_bytes-le step,
      length-records-le steps,
    )

-- a job that writing does not refuse has a length of 16 bits
pub job_length-le : (job : Job) (buffer : List ℕ) → write_refusal job buffer ≡ none → job_length job < u16_limit
unfolding job_length
job_length-le job buffer e =
    let w = write_refusal-none job buffer e in
    omega (arith, length-records-le job.steps, w.few, packed_length-le w.valid.narrow w.valid.low)

-- ---- each entry is a byte

-- a list of bytes by its entries, by its two parts
each-bytes : (xs : List ℕ) → Each (λ x. x < 256) xs → Units byte_bits xs
each-bytes [] h k = omega arith
each-bytes (x ∷ xs) h zero = h.0
each-bytes (x ∷ xs) h (suc k) = each-bytes xs h.1 k

append-bytes : (xs ys : List ℕ) → Units byte_bits xs → Units byte_bits ys → Units byte_bits (xs ++ ys)
append-bytes [] ys hx hy k = hy k
append-bytes (x ∷ xs) ys hx hy zero = hx 0
append-bytes (x ∷ xs) ys hx hy (suc k) = append-bytes xs ys (λ j. hx (suc j)) hy k

-- a connectivity that is not refused fits a byte
connectivity-fits : (connectivity : ℕ) (checks : List (Option Refusal)) →
    first_refusal (connectivity_check connectivity ∷ checks) ≡ none → connectivity < 256
unfolding connectivity_check
connectivity-fits connectivity checks e =
    ⊎_elim (λ four. omega (arith, eqb-true connectivity 4 four)) (λ eight. omega (arith, eqb-true connectivity 8 eight))
    (or-true-cases (eqb connectivity 4) (eqb connectivity 8) (not-false _ (first_refusal-none-cons _ _ _ e).0))

module _ (width height : ℕ) where
  -- the record of a step that fits and is not refused is bytes
  step_bytes-each : (step : Step) → StepFits step → first_refusal (step_checks width height step) ≡ none →
      Each (λ x. x < 256) (step_bytes step)
  unfolding StepFits connectivity_check step_checks step_bytes field_bytes kind_length u16_bytes
  step_bytes-each (Erode connectivity border_value n) fits pass =
      let border = (first_refusal-none-cons _ _ _ (first_refusal-none-cons _ _ _ pass).1).0 in
      omega (arith, connectivity-fits connectivity _ pass, ltb-false 1 border_value border)
  step_bytes-each (Dilate connectivity n) fits pass = omega (arith, connectivity-fits connectivity _ pass)
  step_bytes-each (Propagate connectivity n) fits pass = omega (arith, connectivity-fits connectivity _ pass)
  step_bytes-each (FloodFill connectivity x y) fits pass = omega (arith, connectivity-fits connectivity _ pass)
  step_bytes-each (ClearBorder connectivity) fits pass = omega (arith, connectivity-fits connectivity _ pass)
  step_bytes-each (ErodeBySides connectivity sides n) fits pass =
      let named = (first_refusal-none-cons _ _ _ (first_refusal-none-cons _ _ _ pass).1).0 in
      omega (arith, connectivity-fits connectivity _ pass, ltb-false all_sides sides named)

  -- and so are those of a list
  records-bytes : (steps : List Step) → Each StepFits steps →
      Each (λ step. first_refusal (step_checks width height step) ≡ none) steps →
      Units byte_bits (flat_map step_bytes steps)
  unfolding flat_map
  records-bytes [] fits pass = each-bytes [] tt
  records-bytes (step ∷ steps) fits pass =
      append-bytes (step_bytes step) (flat_map step_bytes steps)
      (each-bytes (step_bytes step) (step_bytes-each step fits.0 pass.0))
      (records-bytes steps fits.1 pass.1)

-- a job that writing does not refuse, with fields that fit, is written as bytes
pub job_bytes-bytes : (job : Job) (buffer : List ℕ) → Each StepFits job.steps → write_refusal job buffer ≡ none →
    Units byte_bits (job_bytes job)
unfolding job_bytes u16_bytes
job_bytes-bytes job buffer fits e =
    let w = write_refusal-none job buffer e in
    let size = job_length job in
    let width = job.width in
    let height = job.height in
    let head : List ℕ =
    1 ∷ size / 256 ∷ size % 256 ∷ width / 256 ∷ width % 256 ∷ height / 256 ∷ height % 256 ∷ length job.steps ∷ [] in
    let records = flat_map step_bytes job.steps in
    let image = packed width height job.image in
    let mask = packed width height job.mask in
    append-bytes head (records ++ image ++ mask)
    (each-bytes head (omega (arith, job_length-le job buffer e, w.valid.narrow, w.valid.low, w.few)))
    (append-bytes (records ++ image) mask
    (append-bytes records image (records-bytes width height job.steps fits w.pass)
    (packed_lt byte_bits width height job.image w.image.bits))
    (packed_lt byte_bits width height job.mask w.mask.bits))

-- ---- counts

-- what a labelling that is not refused counts fits a map, and its records fit what is lent
pub count_fits : (components holes : ℕ) (records : List ℕ) →
    first_refusal (label_checks components holes records) ≡ none →
    (components ≤ max_labels) × (holes ≤ max_labels) × (record_length * components ≤ length records)
unfolding label_checks
count_fits components holes records e =
    let first = first_refusal-none-cons _ _ _ e in
    let second = first_refusal-none-cons _ _ _ first.1 in
    let third = first_refusal-none-cons _ _ _ second.1 in
    (ltb-false _ _ first.0, ltb-false _ _ second.0, ltb-false _ _ third.0)
