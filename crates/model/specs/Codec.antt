-- A job as bytes, written and read: document 01, "Job and lane program", and the rows job head, each
-- step and job pictures of "Refused, by place". Definitions only; their laws are in `theorems/proofs/CodecLaws.antt`.
--   Job                       a job in hand
--   length_field and others   the fields of its head
--   step_bytes                a step as a step record
--   packed, unpacked          an image as packed rows, and back
--   job_bytes, write_job      a job's bytes; the buffer after writing
--   read_job, unpack_job      a job read or its refusal; the buffers after reading
use Rattle.std.specs.Prelude.{ℕ, zero, suc, ◌+◌, ◌*◌, ◌/◌, ◌%◌, ◌<◌, Bool, ◌||◌, not, eqb, leb, ltb, length, get_or}
use Rattle.std.specs.Prelude.{take, drop}
use mathlib.Core.List.{List, [], ◌∷◌, ◌++◌, flat_map}
use Rattle.std.proofs.Math.Option.{Option, none, some}
use Rattle.lists.specs.Lists.{any}
use Rattle.neighbours.specs.Packed as units
use Rattle.model.specs.Limits.{max_job_side, u16_limit}
use Rattle.model.specs.Operations.{kind}
use Rattle.model.specs.Refusals.{number, refuse_if, first_refusal, wrong_length, size_check, length_check}
use Rattle.model.specs.Refusals.{pixel_check, steps_check, step_checks}
use Rattle.model.specs.declared.Refusal.{Refusal}
use Rattle.model.specs.declared.Refusal.TheVariants.{BadLength, BadVersion, BadJobLength}
use Rattle.model.specs.declared.Refusal.TheVariants.{BadStep}
use Rattle.model.specs.declared.Refusal.TheVariants.{BadPadding, TooManyPixels}
use Rattle.model.specs.declared.Step.{Step}
use Rattle.model.specs.declared.Step.TheVariants.{Erode, Dilate, Propagate, FloodFill, ClearBorder}
use Rattle.model.specs.declared.Step.TheVariants.{ErodeBySides}

-- a job in hand
pub record Job : Type 0 where
  pub width : ℕ
  pub height : ℕ
  pub steps : List Step
  pub image : List ℕ
  pub mask : List ℕ

-- ---- numbers

-- a number of 16 bits, big-endian, and the one that stands at byte i
unfoldable pub u16_bytes : ℕ → List ℕ
u16_bytes n = n / 256 ∷ n % 256 ∷ []

unfoldable pub u16_at : List ℕ → ℕ → ℕ
u16_at bytes i = get_or bytes i 0 * 256 + get_or bytes (i + 1) 0

-- ---- the head

-- The head: the version, the whole length, the width and the height, 16 bits each, and the step total. The
-- step records begin behind it
abbrev pub head_length : ℕ
head_length = 8

abbrev pub length_field : List ℕ → ℕ
length_field bytes = u16_at bytes 1

abbrev pub width_field : List ℕ → ℕ
width_field bytes = u16_at bytes 3

abbrev pub height_field : List ℕ → ℕ
height_field bytes = u16_at bytes 5

abbrev pub total_field : List ℕ → ℕ
total_field bytes = get_or bytes 7 0

-- ---- packed images

-- a row of packed pixels is made of bytes
abbrev pub byte_bits : ℕ
byte_bits = 8

-- the bytes of a packed row, and of a packed image
abbrev pub row_bytes : ℕ → ℕ
row_bytes = units.row_units byte_bits

abbrev pub packed_length : ℕ → ℕ → ℕ
packed_length = units.packed_length byte_bits

-- the eight pixels of row y from column x on: the first is the top bit
abbrev pub packed_byte : ℕ → List ℕ → ℕ → ℕ → ℕ
packed_byte = units.packed_unit byte_bits

-- the bit in column x of row y of a packed image
abbrev pub packed_pixel : ℕ → List ℕ → ℕ → ℕ → ℕ
packed_pixel = units.packed_pixel byte_bits

-- an image as packed rows, each padded with zeros to a byte, and back
abbrev pub packed : ℕ → ℕ → List ℕ → List ℕ
packed = units.packed byte_bits

abbrev pub unpacked : ℕ → ℕ → List ℕ → List ℕ
unpacked = units.unpacked byte_bits

-- a padding bit is set: one behind the end of a row
abbrev pub padding_set : ℕ → ℕ → List ℕ → Bool
padding_set = units.padding_set byte_bits

-- ---- writing

-- the length byte of a step record by its kind; 0 for an unknown kind, which no record has
abbrev pub kind_lengths : List ℕ
kind_lengths = 0 ∷ 5 ∷ 4 ∷ 4 ∷ 6 ∷ 2 ∷ 0 ∷ 5 ∷ []

unfoldable pub kind_length : ℕ → ℕ
kind_length k = get_or kind_lengths k 0

-- the fields of a step
unfoldable pub field_bytes : Step → List ℕ
field_bytes (Erode connectivity border_value n) = connectivity ∷ border_value ∷ u16_bytes n
field_bytes (Dilate connectivity n) = connectivity ∷ u16_bytes n
field_bytes (Propagate connectivity n) = connectivity ∷ u16_bytes n
field_bytes (FloodFill connectivity x y) = connectivity ∷ u16_bytes x ++ u16_bytes y
field_bytes (ClearBorder connectivity) = connectivity ∷ []
field_bytes (ErodeBySides connectivity sides n) = connectivity ∷ sides ∷ u16_bytes n

-- a step record: how many bytes follow, the kind, the fields
unfoldable pub step_bytes : Step → List ℕ
step_bytes step = kind_length (kind step) ∷ kind step ∷ field_bytes step

-- the whole length in bytes
unfoldable pub job_length : Job → ℕ
job_length job = head_length + length (flat_map step_bytes job.steps) + 2 * packed_length job.width job.height

-- version, length, width, height, step total, step records, image, mask
unfoldable pub job_bytes : Job → List ℕ
job_bytes job =
    (1 ∷ u16_bytes (job_length job)) ++ u16_bytes job.width ++ u16_bytes job.height
    ++ (length job.steps ∷ flat_map step_bytes job.steps)
    ++ packed job.width job.height job.image
    ++ packed job.width job.height job.mask

-- A crop's size and a list of steps that are not read: the sides against a limit, the number of steps, and
-- each step's row "operation"
abbrev pub list_checks : ℕ → ℕ → ℕ → List Step → List (Option Refusal)
list_checks limit width height steps =
    size_check limit width height ∷ steps_check (length steps) ∷ flat_map (step_checks width height) steps

-- Writing a job to a buffer: the table's rows in order, as far as they speak of a job that is not read.
-- The buffer has exactly the job's length
unfoldable pub write_refusal : Job → List ℕ → Option Refusal
write_refusal job buffer =
    first_refusal
    (list_checks max_job_side job.width job.height job.steps
    ++ (refuse_if
    (any (wrong_length (job.width * job.height)) (job.image ∷ job.mask ∷ []) || wrong_length (job_length job) buffer)
    BadLength
    ∷ pixel_check (job.image ∷ job.mask ∷ [])
    ∷ []))

-- what writing answers: 01's number or 0, and the buffer as it is left
pub record Written : Type 0 where
  pub number : ℕ
  pub buffer : List ℕ

unfoldable pub write_unless : Option Refusal → Job → List ℕ → Written
write_unless (some refusal) job buffer = record { number = number refusal; buffer = buffer }
write_unless none job buffer = record { number = 0; buffer = job_bytes job }

unfoldable pub write_job : Job → List ℕ → Written
write_job job buffer = write_unless (write_refusal job buffer) job buffer

-- ---- reading

-- the step of the record that the bytes begin with, of a known kind
unfoldable pub step_at : List ℕ → Step
step_at bytes =
    let connectivity = get_or bytes 2 0 in
    elim (get_or bytes 1 0) [
      | zero ↦ ClearBorder connectivity
      | suc zero ↦ Erode connectivity (get_or bytes 3 0) (u16_at bytes 4)
      | suc (suc zero) ↦ Dilate connectivity (u16_at bytes 3)
      | suc (suc (suc zero)) ↦ Propagate connectivity (u16_at bytes 3)
      | suc (suc (suc (suc zero))) ↦ FloodFill connectivity (u16_at bytes 3) (u16_at bytes 5)
      | suc (suc (suc (suc (suc zero)))) ↦ ClearBorder connectivity
      | suc (suc (suc (suc (suc (suc zero))))) ↦ ClearBorder connectivity
      | suc (suc (suc (suc (suc (suc (suc zero)))))) ↦ ErodeBySides connectivity (get_or bytes 3 0) (u16_at bytes 4)
      | suc (suc (suc (suc (suc (suc (suc (suc kind))))))) ↦ ClearBorder connectivity
    ]

-- the row "each step", for the record that the bytes begin with; they run to the job's end
unfoldable pub step_refusal : ℕ → ℕ → List ℕ → Option Refusal
step_refusal width height bytes =
    let following = get_or bytes 0 0 in
    first_refusal
    (refuse_if (leb (length bytes) following) BadJobLength
    ∷ refuse_if (eqb following 0 || not (eqb following (kind_length (get_or bytes 1 0)))) BadStep
    ∷ step_checks width height (step_at bytes))

-- step records read: the refusal of the first that cannot be read, which ends the reading there, or the
-- steps with the bytes behind them
pub data StepsRead : Type 0 where
  refused_steps : Refusal → StepsRead
  accepted_steps : List Step → List ℕ → StepsRead

unfoldable pub cons_step : Step → StepsRead → StepsRead
cons_step step (refused_steps refusal) = refused_steps refusal
cons_step step (accepted_steps steps behind) = accepted_steps (step ∷ steps) behind

-- as many step records as the head says
unfoldable pub read_steps : ℕ → ℕ → ℕ → List ℕ → StepsRead
read_steps width height zero bytes = accepted_steps [] bytes
read_steps width height (suc n) bytes =
    elim (step_refusal width height bytes) [
      | none ↦ cons_step (step_at bytes) (read_steps width height n (drop (1 + get_or bytes 0 0) bytes))
      | some refusal ↦ refused_steps refusal
    ]

-- a job read, or its refusal
pub data JobRead : Type 0 where
  refused_job : Refusal → JobRead
  accepted_job : Job → JobRead

-- the row "job head". The limit on pixels is the program's; the largest crop's refuses nothing
unfoldable pub head_refusal : ℕ → List ℕ → Option Refusal
head_refusal limit bytes =
    let width = width_field bytes in
    let height = height_field bytes in
    first_refusal
    (refuse_if (eqb (length bytes) 0 || not (eqb (get_or bytes 0 0) 1)) BadVersion
    ∷ refuse_if (ltb (length bytes) head_length || not (eqb (length_field bytes) (length bytes))) BadJobLength
    ∷ size_check max_job_side width height
    ∷ refuse_if (ltb limit (width * height)) TooManyPixels
    ∷ steps_check (total_field bytes)
    ∷ [])

-- the row "job pictures", for what stands behind the step records
unfoldable pub images_refusal : ℕ → ℕ → List ℕ → Option Refusal
images_refusal width height bytes =
    let n = packed_length width height in
    first_refusal
    (refuse_if (not (eqb (length bytes) (2 * n))) BadJobLength
    ∷ refuse_if (padding_set width height (take n bytes) || padding_set width height (drop n bytes)) BadPadding
    ∷ [])

unfoldable pub read_images : ℕ → ℕ → StepsRead → JobRead
read_images width height (refused_steps refusal) = refused_job refusal
read_images width height (accepted_steps steps bytes) =
    elim (images_refusal width height bytes) [
      | none ↦
          accepted_job
          (record {
            width = width;
            height = height;
            steps = steps;
            image = unpacked width height (take (packed_length width height) bytes);
            mask = unpacked width height (drop (packed_length width height) bytes);
          })
      | some refusal ↦ refused_job refusal
    ]

-- the whole job is read before anything runs
unfoldable pub read_job : ℕ → List ℕ → JobRead
read_job limit bytes =
    elim (head_refusal limit bytes) [
      | none ↦
          let width = width_field bytes in
          let height = height_field bytes in
          read_images width height (read_steps width height (total_field bytes) (drop head_length bytes))
      | some refusal ↦ refused_job refusal
    ]

-- what reading into a lent image and mask answers: 01's number or 0, and both as they are left
pub record Unpacked : Type 0 where
  pub number : ℕ
  pub image : List ℕ
  pub mask : List ℕ

-- buffers of another length are refused, whatever they hold; nothing is unpacked before
unfoldable pub unpack_unless : Option Refusal → Job → List ℕ → List ℕ → Unpacked
unpack_unless (some refusal) job image mask = record { number = number refusal; image = image; mask = mask }
unpack_unless none job image mask = record { number = 0; image = job.image; mask = job.mask }

unfoldable pub unpack_read : JobRead → List ℕ → List ℕ → Unpacked
unpack_read (refused_job refusal) image mask = record { number = number refusal; image = image; mask = mask }
unpack_read (accepted_job job) image mask =
    unpack_unless (length_check (job.width * job.height) (image ∷ mask ∷ [])) job image mask

unfoldable pub unpack_job : ℕ → List ℕ → List ℕ → List ℕ → Unpacked
unpack_job limit bytes image mask = unpack_read (read_job limit bytes) image mask

-- ---- what fits the widths of the fields

-- an iteration count or a coordinate is a number of 16 bits
unfoldable pub StepFits : Step → Type 0
StepFits (Erode connectivity border_value n) = n < u16_limit
StepFits (Dilate connectivity n) = n < u16_limit
StepFits (Propagate connectivity n) = n < u16_limit
StepFits (FloodFill connectivity x y) = (x < u16_limit) × (y < u16_limit)
StepFits (ClearBorder connectivity) = Unit {0}
StepFits (ErodeBySides connectivity sides n) = n < u16_limit
