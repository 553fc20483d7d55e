-- What the contracts of writing, reading and running a job come to, one with another: demand 2's round trip
-- and demand 3's last paragraph, of the answers that the code gives. Statements only;
-- `proofs/JobClaims.antt` proves them.
--   WrittenReadsBack, ReadWritesBack   the round trips of `write_job`, `read_job` and `unpack_job`
--   RunIsList                          a run gives what its steps give as a list of calls
--   JobRun, StepsRun                   so does what `run_job`, and what `run_steps`, accepts
use Rattle.std.specs.Prelude.{ℕ, ◌-◌, ◌*◌, ◌≤◌, ◌<◌, ◌≡◌, List, length, get_or, Result, Ok}
use Rattle.lists.specs.Lists.{Each}
use Rattle.neighbours.specs.Limits.{max_pixels}
use Rattle.model.specs.Queue.{HoldsContour}
use Rattle.model.specs.Calls.{Call, label, Reply, Meets}
use Rattle.model.specs.Codec.{packed_length, read_job, unpack_job, write_job}
use Rattle.model.specs.Run.{run_steps, run_job}
use Rattle.model.specs.Claims.{MeetAll, StepCalls, IsAccepted}
use Rattle.model.specs.declared.Step.{Step}
use Rattle.model.specs.declared.Refusal.{Refusal}
use Rattle.model.specs.declared.JobHead.{JobHead}
use Rattle.model.specs.declared.RunReport.{RunReport}
use Rattle.model.specs.StepList.{steps_in, slotted}
use Rattle.model.specs.Answers.{heading, heading_in, unpacked_to, job_of, written_to, run_told, replies_in, MeetsRun}

-- A job that `write_job` has written is read by `read_job` and unpacked by `unpack_job` as itself
abbrev pub WrittenReadsBack : Type 0
WrittenReadsBack =
    (width height : ℕ) (steps : List Step) (image mask buffer bytes : List ℕ) →
    written_to (Ok tt) bytes ≡ write_job (job_of width height steps image mask) buffer →
    ((read : Result JobHead Refusal) → heading_in read ≡ heading bytes (read_job max_pixels bytes) →
    heading_in read
    ≡ record {
      number = 0;
      width = width;
      height = height;
      steps = steps;
      slots = slotted steps;
      at = length bytes - 2 * packed_length width height;
    })
    × ((answer : Result Unit Refusal) (image₀ mask₀ image' mask' : List ℕ) →
    length image₀ ≡ width * height → length mask₀ ≡ width * height →
    unpacked_to answer image' mask' ≡ unpack_job max_pixels bytes image₀ mask₀ →
    (answer ≡ Ok tt) × (image' ≡ image) × (mask' ≡ mask))

-- A job that `read_job` and `unpack_job` accept, written again by `write_job` to a buffer of its length, is
-- accepted and has the same bytes
abbrev pub ReadWritesBack : Type 0
ReadWritesBack =
    (bytes image₀ mask₀ image mask buffer buffer' : List ℕ) (head : JobHead) (answer : Result Unit Refusal) →
    ((k : ℕ) → get_or bytes k 0 < 256) → heading_in (Ok head) ≡ heading bytes (read_job max_pixels bytes) →
    unpacked_to (Ok tt) image mask ≡ unpack_job max_pixels bytes image₀ mask₀ → length buffer ≡ length bytes →
    written_to answer buffer'
    ≡ write_job (job_of head.width head.height (steps_in head.steps) image mask) buffer →
    (answer ≡ Ok tt) × (buffer' ≡ bytes)

-- A run, from the steps, the image, the mask and the queue to its answer and the buffers as it leaves them. It
-- is not refused; the queue holds the contour of the last image; any accepted calls that do the steps in turn on
-- the image with the mask, by a scan or from a contour, give the same replies and the same image; and a
-- labelling of what the run has left answers as one of what those calls leave
pub record RunIsList (width height : ℕ) (steps : List Step) (image mask queue : List ℕ)
    (r : Result RunReport Refusal) (image' mask' queue' : List ℕ) : Type 0 where
  pub accepted : r ≡ Ok (run_told r)
  pub masked : mask' ≡ mask
  pub contour : HoldsContour width height image' queue' (run_told r).contour_len
  pub list : (cs : List Call) (rs : List Reply) (image'' queue'' : List ℕ) → StepCalls mask steps cs →
      Each IsAccepted rs → MeetAll width height image queue cs rs image'' queue'' →
      (rs ≡ replies_in (run_told r)) × (image'' ≡ image')
  pub next : (cs : List Call) (rs : List Reply) (image'' queue'' image''' queue''' image'''' queue'''' : List ℕ) →
      StepCalls mask steps cs → Each IsAccepted rs → MeetAll width height image queue cs rs image'' queue'' →
      (connectivity : ℕ) (component_labels hole_labels records : List ℕ) (reply reply' : Reply) →
      Meets width height image'' queue''
      (label connectivity component_labels hole_labels records) reply image''' queue''' →
      Meets width height image' queue'
      (label connectivity component_labels hole_labels records) reply' image'''' queue'''' →
      reply ≡ reply'

-- what `run_job` leaves of a job that `read_job` and `unpack_job` accept, with room in the queue: it gives what
-- the job's steps give on its own image with its own mask
abbrev pub JobRun : Type 0
JobRun =
    (bytes image mask queue job-image job-mask image' mask' queue' : List ℕ) (head : JobHead)
    (r : Result RunReport Refusal) →
    heading_in (Ok head) ≡ heading bytes (read_job max_pixels bytes) →
    unpacked_to (Ok tt) job-image job-mask ≡ unpack_job max_pixels bytes image mask →
    head.width * head.height ≤ length queue →
    MeetsRun (run_job max_pixels bytes image mask queue) r image' mask' queue' →
    RunIsList head.width head.height (steps_in head.steps) job-image job-mask queue r image' mask' queue'

-- what `run_steps` leaves where it accepts
abbrev pub StepsRun : Type 0
StepsRun =
    (width height : ℕ) (steps : List Step) (image mask queue image' mask' queue' : List ℕ) (report : RunReport) →
    MeetsRun (run_steps width height steps image mask queue) (Ok report) image' mask' queue' →
    RunIsList width height steps image mask queue (Ok report) image' mask' queue'
