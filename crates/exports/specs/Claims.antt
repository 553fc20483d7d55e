-- What the contracts of the C functions that write, read and run a job come to, one with another: demand 2's
-- round trip and demand 3's last paragraph, in numbers; and 02's Point 1 of the C function that labels. Statements
-- only; `proofs/Claims.antt` proves them.
--   RecordsStand       where the step records of a job stand
--   WrittenReadsBack   a job that is written reads back as itself
--   ReadWritesBack     an accepted job, written again, has the same bytes
--   RunIsList          a run gives what its steps give as a list of calls
--   JobRun, StepsRun   so does what `duhzarek_run_job`, and what `duhzarek_run_steps`, accepts
--   LabelsFit          `duhzarek_label_image` returns neither 9 nor 10
use Rattle.std.specs.Prelude.{ℕ, ◌-◌, ◌*◌, ◌≤◌, ◌<◌, ◌≡◌, length, get_or, take, drop}
use mathlib.Core.List.{List, [], ◌∷◌, flat_map}
use Rattle.neighbours.specs.Limits.{max_pixels}
use Rattle.lists.specs.Lists.{Each}
use Rattle.model.specs.Limits.{u16_limit}
use Rattle.model.specs.Queue.{HoldsContour}
use Rattle.model.specs.Calls.{Call, label, Reply, Meets}
use Rattle.model.specs.Codec.{Job, accepted_job, packed_length, read_job, unpack_job, step_bytes, head_length}
use Rattle.model.specs.Codec.{accepted_steps}
use Rattle.model.specs.Run.{run_job}
use Rattle.model.specs.Claims.{MeetAll, StepCalls, IsAccepted}
use Rattle.model.specs.declared.Step.{Step}
use Rattle.exports.specs.Numbers.{job_number, head_numbers, records_read, write_records, run_records, report_numbers}
use Rattle.exports.specs.Numbers.{label_counts_reply, MeetsNumbers}

-- bytes, as a slice of them holds
abbrev pub AreBytes : List ℕ → Type 0
AreBytes bytes = (k : ℕ) → get_or bytes k 0 < 256

-- The step records of an accepted job stand from its head up to where its packed images begin, which
-- `duhzarek_read_job` tells
abbrev pub RecordsStand : Type 0
RecordsStand =
    (bytes : List ℕ) (job : Job) → AreBytes bytes → read_job max_pixels bytes ≡ accepted_job job →
    take (length bytes - 2 * packed_length job.width job.height - head_length) (drop head_length bytes)
    ≡ flat_map step_bytes job.steps

-- A job that `duhzarek_write_job` has written: `duhzarek_read_job` tells its size, its number of steps and where
-- its images begin, and `duhzarek_unpack_job` unpacks its image and its mask
abbrev pub WrittenReadsBack : Type 0
WrittenReadsBack =
    (width height total : ℕ) (records image mask buffer bytes : List ℕ) → AreBytes records →
    record { number = 0; buffer = bytes }
    ≡ write_records (records_read width height total records) width height image mask buffer →
    (job_number (read_job max_pixels bytes) ≡ 0)
    × (head_numbers (length bytes) (read_job max_pixels bytes)
    ≡ width ∷ height ∷ total ∷ (length bytes - 2 * packed_length width height) ∷ [])
    × ((number : ℕ) (image₀ mask₀ image' mask' : List ℕ) →
    length image₀ ≡ width * height → length mask₀ ≡ width * height →
    record { number = number; image = image'; mask = mask' } ≡ unpack_job max_pixels bytes image₀ mask₀ →
    (number ≡ 0) × (image' ≡ image) × (mask' ≡ mask))

-- A job that `duhzarek_read_job` and `duhzarek_unpack_job` accept, written again by `duhzarek_write_job` from the
-- numbers that were told, the records where they stand and the buffers that were left, is accepted and has the
-- same bytes
abbrev pub ReadWritesBack : Type 0
ReadWritesBack =
    (width height total at number : ℕ) (bytes image₀ mask₀ image mask buffer buffer' : List ℕ) → AreBytes bytes →
    job_number (read_job max_pixels bytes) ≡ 0 →
    head_numbers (length bytes) (read_job max_pixels bytes) ≡ width ∷ height ∷ total ∷ at ∷ [] →
    record { number = 0; image = image; mask = mask } ≡ unpack_job max_pixels bytes image₀ mask₀ →
    length buffer ≡ length bytes →
    record { number = number; buffer = buffer' }
    ≡ write_records (records_read width height total (take (at - head_length) (drop head_length bytes)))
    width height image mask buffer →
    (number ≡ 0) × (buffer' ≡ bytes)

-- A run, from the steps, the image, the mask and the queue to its numbers and the buffers as it leaves them. It is
-- not refused; the queue holds the contour of the last image, as long as the second count says; any accepted calls
-- that do the steps in turn on the image with the mask, by a scan or from a contour, report the same numbers and
-- leave the same image; and a labelling of what the run has left answers as one of what those calls leave
pub record RunIsList (width height : ℕ) (steps : List Step) (image mask queue : List ℕ) (number : ℕ)
    (counts reports image' mask' queue' : List ℕ) : Type 0 where
  pub accepted : number ≡ 0
  pub masked : mask' ≡ mask
  pub contour : HoldsContour width height image' queue' (get_or counts 1 0)
  pub list : (cs : List Call) (rs : List Reply) (image'' queue'' : List ℕ) → StepCalls mask steps cs →
      Each IsAccepted rs → MeetAll width height image queue cs rs image'' queue'' →
      (reports ≡ report_numbers rs) × (image'' ≡ image')
  pub next : (cs : List Call) (rs : List Reply) (image'' queue'' image''' queue''' image'''' queue'''' : List ℕ) →
      StepCalls mask steps cs → Each IsAccepted rs → MeetAll width height image queue cs rs image'' queue'' →
      (connectivity : ℕ) (component_labels hole_labels records : List ℕ) (reply reply' : Reply) →
      Meets width height image'' queue''
      (label connectivity component_labels hole_labels records) reply image''' queue''' →
      Meets width height image' queue'
      (label connectivity component_labels hole_labels records) reply' image'''' queue'''' →
      reply ≡ reply'

-- what `duhzarek_run_job` leaves of an accepted job in buffers that fit
abbrev pub JobRun : Type 0
JobRun =
    (bytes image mask queue image' mask' queue' counts reports : List ℕ) (job : Job) (number : ℕ) →
    read_job max_pixels bytes ≡ accepted_job job → length image ≡ job.width * job.height →
    length mask ≡ job.width * job.height → job.width * job.height ≤ length queue →
    MeetsNumbers (run_job max_pixels bytes image mask queue) number counts reports image' mask' queue' →
    RunIsList job.width job.height job.steps job.image job.mask queue number counts reports
    image' mask' queue'

-- what `duhzarek_run_steps` leaves where it accepts: the records are those of some steps, and it has run these
abbrev pub StepsRun : Type 0
StepsRun =
    (width height total : ℕ) (given image mask queue image' mask' queue' counts reports : List ℕ) →
    MeetsNumbers (run_records (records_read width height total given) width height image mask queue) 0 counts reports
    image' mask' queue' →
    (steps : List Step) × (behind : List ℕ) × (records_read width height total given ≡ accepted_steps steps behind)
    × RunIsList width height steps image mask queue 0 counts reports image' mask' queue'

-- what `duhzarek_label_image` returns for a crop of at most 65,536 pixels, and so for any: a larger one is refused
-- with 1
abbrev pub LabelsFit : Type 0
LabelsFit =
    (width height connectivity result : ℕ) (image queue queue' counts : List ℕ)
    (component_labels hole_labels records component_labels' hole_labels' records' : List ℕ) →
    width * height ≤ u16_limit →
    Meets width height image queue (label connectivity component_labels hole_labels records)
    (label_counts_reply result counts component_labels' hole_labels' records') image queue' →
    (result ≡ 9 → ⊥) × (result ≡ 10 → ⊥)
