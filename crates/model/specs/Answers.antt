-- How the answers of the entry points are read: 01's number and values for each. Definitions only.
--   heading_in, heading           what reading a job answers, and what the model reads
--   unpacked_to, written_to       what unpacking and writing leave
--   widened_to                    what carrying a byte map over leaves
--   words_answered, repacked_to   what an operation on packed rows leaves, and what packing and unpacking leave
--   run_told, no_report           what an answer tells of a run, and what stands behind the reports of its steps
--   MeetsRun                      what a run promises
use Rattle.std.specs.Prelude.{ℕ, ◌-◌, ◌*◌, ◌≡◌, List, [], map, length, take, drop, replicate, Result, Ok, Err}
use Rattle.model.specs.Limits.{max_steps}
use Rattle.model.specs.Refusals.{number, verdict_number}
use Rattle.model.specs.Calls.{Reply, operated, SameQueue}
use Rattle.model.specs.Codec.{Job, packed_length, JobRead, refused_job, accepted_job, Unpacked, Written}
use Rattle.model.specs.Run.{Ran, after_run}
use Rattle.model.specs.declared.Report.{Report}
use Rattle.model.specs.declared.Step.{Step}
use Rattle.model.specs.declared.Refusal.{Refusal}
use Rattle.model.specs.declared.JobHead.{JobHead}
use Rattle.model.specs.declared.RunReport.{RunReport}
use Rattle.model.specs.StepList.{steps_in, slotted}
use Rattle.model.specs.Widening.{Widened}
use Rattle.model.specs.Words.{WordsAnswer, Repacked}
use Rattle.model.specs.declared.WordsReport.{WordsReport}

-- ---- reading

-- What is told of a job: 01's number or 0, its size, its steps, what all slots for steps hold, and where its
-- packed images begin
pub record Heading : Type 0 where
  pub number : ℕ
  pub width : ℕ
  pub height : ℕ
  pub steps : List Step
  pub slots : List Step
  pub at : ℕ

-- nothing is told of a job that is refused
unfoldable pub no_heading : Refusal → Heading
no_heading refusal =
    record { number = number refusal; width = 0; height = 0; steps = []; slots = slotted []; at = 0 }

-- of an answer
unfoldable pub heading_in : Result JobHead Refusal → Heading
heading_in (Ok head) =
    record {
      number = 0;
      width = head.width;
      height = head.height;
      steps = steps_in head.steps;
      slots = head.steps.slots;
      at = head.at;
    }
heading_in (Err refusal) = no_heading refusal

-- Of a job that the model reads from these bytes. The packed images are the end of the bytes
unfoldable pub heading : List ℕ → JobRead → Heading
heading bytes (refused_job refusal) = no_heading refusal
heading bytes (accepted_job job) =
    record {
      number = 0;
      width = job.width;
      height = job.height;
      steps = job.steps;
      slots = slotted job.steps;
      at = length bytes - 2 * packed_length job.width job.height;
    }

-- an answer, with the image and the mask as they are left
unfoldable pub unpacked_to : Result Unit Refusal → List ℕ → List ℕ → Unpacked
unpacked_to answer image mask = record { number = verdict_number answer; image = image; mask = mask }

-- ---- writing

-- a job in hand
unfoldable pub job_of : ℕ → ℕ → List Step → List ℕ → List ℕ → Job
job_of width height steps image mask =
    record { width = width; height = height; steps = steps; image = image; mask = mask }

-- an answer, with the buffer as it is left
unfoldable pub written_to : Result Unit Refusal → List ℕ → Written
written_to answer buffer = record { number = verdict_number answer; buffer = buffer }

-- ---- carrying a byte map over

-- an answer, with both maps as they are left
unfoldable pub widened_to : Result Unit Refusal → List ℕ → List ℕ → Widened
widened_to answer bytes labels = record { number = verdict_number answer; bytes = bytes; labels = labels }

-- ---- packed rows

-- an answer of an operation, with the rows as they are left; its numbers are 0 on a refusal
unfoldable pub words_answered : Result WordsReport Refusal → List ℕ → WordsAnswer
words_answered (Ok report) rows =
    record {
      number = 0;
      changed = report.changed;
      used = report.used;
      area = report.area;
      words = rows;
    }
words_answered (Err refusal) rows =
    record { number = number refusal; changed = 0; used = 0; area = 0; words = rows }

-- an answer of packing or unpacking, with both buffers as they are left
unfoldable pub repacked_to : Result Unit Refusal → List ℕ → List ℕ → Repacked
repacked_to answer image rows = record { number = verdict_number answer; image = image; words = rows }

-- ---- a run

-- a report as the reply of a step
unfoldable pub report_reply : Report → Reply
report_reply report = operated 0 report.changed report.used report.contour_len

-- the report of no step
abbrev pub no_report : Report
no_report = record { changed = 0; used = 0; contour_len = 0 }

-- what an answer tells of a run: nothing on a refusal
unfoldable pub run_told : Result RunReport Refusal → RunReport
run_told (Ok report) = report
run_told (Err refusal) = record { reports = replicate max_steps no_report; count = 0; contour_len = 0 }

-- the replies of the steps, in turn
unfoldable pub replies_in : RunReport → List Reply
replies_in r = map report_reply (take r.count r.reports)

-- From a run of the model to the answer and to the buffers as they are left. Behind the reports of the steps
-- stand those of none. The queue is the model's but for the order of the contour at its front
pub record MeetsRun (ran : Ran) (r : Result RunReport Refusal) (image' mask' queue' : List ℕ) : Type 0 where
  pub numbered : verdict_number r ≡ ran.number
  pub counted : (run_told r).count ≡ length ran.replies
  pub replied : replies_in (run_told r) ≡ ran.replies
  pub behind : drop (run_told r).count (run_told r).reports ≡ replicate (max_steps - (run_told r).count) no_report
  pub lasting : (run_told r).contour_len ≡ ran.contour_length
  pub pictured : image' ≡ ran.image
  pub masked : mask' ≡ ran.mask
  pub queued : SameQueue queue' (after_run ran)
