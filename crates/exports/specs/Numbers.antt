-- What crosses to C: numbers and lists of numbers for the types that the entry points take and answer.
-- Definitions only.
--   start_of                           how an operation starts
--   counts_reply, label_counts_reply   the reply of an operation and of a labelling
--   counts_answer                      the answer of an operation on packed rows
--   report_counts, .., counts_told     an answer as numbers in a lent array
--   job_number, head_numbers           what reading a job tells
--   records_read                       steps given as step records
--   write_records, run_records         such steps written as a job, and run
--   MeetsNumbers                       what a run promises
use Rattle.std.specs.Prelude.{ℕ, ◌-◌, ◌*◌, ◌<◌, ◌≡◌, cond, eqb, length, get_or, replicate, Result, Ok, Err}
use mathlib.Core.List.{List, [], ◌∷◌, ◌++◌, map, flat_map}
use Rattle.std.proofs.Math.Option.{none, some}
use Rattle.neighbours.specs.Limits.{max_side}
use Rattle.model.specs.Limits.{max_steps}
use Rattle.model.specs.Refusals.{number, first_refusal, size_check, steps_check}
use Rattle.model.specs.Calls.{Reply, operated, labelled, scanned, SameQueue}
use Rattle.model.specs.Codec.{JobRead, refused_job, accepted_job, StepsRead, refused_steps, accepted_steps, read_steps}
use Rattle.model.specs.Codec.{packed_length, Written, write_job}
use Rattle.model.specs.Run.{Ran, refused_run, run_steps}
use Rattle.model.specs.Words.{WordsAnswer}
use Rattle.model.specs.declared.Refusal.{Refusal}
use Rattle.model.specs.declared.Report.{Report}
use Rattle.model.specs.declared.ScanReport.{ScanReport}
use Rattle.model.specs.declared.Counts.{Counts}
use Rattle.model.specs.declared.WordsReport.{WordsReport}
use Rattle.model.specs.declared.JobHead.{JobHead}
use Rattle.model.specs.declared.Start.{Start}
use Rattle.model.specs.declared.Start.TheVariants.{Scan, Contour}
use Rattle.model.specs.Answers.{report_reply}

-- what a number of 32 bits stays below
abbrev pub u32_limit : ℕ
u32_limit = 4294967296

-- ---- operations and labelling

-- the number that asks for a scan: the largest of 64 bits, which is the length of no queue
unfoldable pub scan_number : ℕ
scan_number = 18446744073709551615

-- any other number is the length of the contour handed in
unfoldable pub start_of : ℕ → Start
start_of n = cond (eqb n scan_number) Scan (Contour n)

-- 01's number with changed, used and contour length
unfoldable pub counts_reply : ℕ → List ℕ → Reply
counts_reply result counts = operated result (get_or counts 0 0) (get_or counts 1 0) (get_or counts 2 0)

-- 01's number with the counts of components and holes, and the lent buffers as they are left
unfoldable pub label_counts_reply : ℕ → List ℕ → List ℕ → List ℕ → List ℕ → Reply
label_counts_reply result counts component_labels hole_labels recs =
    labelled result (get_or counts 0 0) (get_or counts 1 0) component_labels hole_labels recs

-- ---- packed rows

-- 01's number with changed, used and area, and the rows as they are left
unfoldable pub counts_answer : ℕ → List ℕ → List ℕ → WordsAnswer
counts_answer result counts rows =
    record {
      number = result;
      changed = get_or counts 0 0;
      used = get_or counts 1 0;
      area = get_or counts 2 0;
      words = rows;
    }

-- ---- answers in lent arrays

-- the numbers of each answer, in their order
abbrev pub report_counts : Report → List ℕ
report_counts report = report.changed ∷ report.used ∷ report.contour_len ∷ []

abbrev pub scan_counts : ScanReport → List ℕ
scan_counts report = report.contour_len ∷ report.blank_rows ∷ []

abbrev pub label_counts : Counts → List ℕ
label_counts counts = counts.components ∷ counts.holes ∷ []

abbrev pub words_counts : WordsReport → List ℕ
words_counts report = report.changed ∷ report.used ∷ report.area ∷ []

abbrev pub head_counts : JobHead → List ℕ
head_counts head = head.width ∷ head.height ∷ head.steps.count ∷ head.at ∷ []

-- so many numbers of an answer, zeros on a refusal
unfoldable pub counts_told : ℕ → {A : Type 0} → (A → List ℕ) → Result A Refusal → List ℕ
counts_told n numbers (Ok answer) = numbers answer
counts_told n numbers (Err refusal) = replicate n 0

-- ---- reading a job

-- 01's number, 0 where the job is accepted
unfoldable pub job_number : JobRead → ℕ
job_number (refused_job refusal) = number refusal
job_number (accepted_job job) = 0

-- of a job of so many bytes: its size, its number of steps, and where its packed images begin, which are its
-- last bytes; zeros on a refusal
unfoldable pub head_numbers : ℕ → JobRead → List ℕ
head_numbers bytes (refused_job refusal) = 0 ∷ 0 ∷ 0 ∷ 0 ∷ []
head_numbers bytes (accepted_job job) =
    job.width ∷ job.height ∷ length job.steps ∷ (bytes - 2 * packed_length job.width job.height) ∷ []

-- four numbers of 32 bits
pub record HeadFits (width height count at : ℕ) : Type 0 where
  pub across : width < u32_limit
  pub down : height < u32_limit
  pub few : count < u32_limit
  pub inside : at < u32_limit

-- ---- steps given as step records

-- So many step records, one after another, for a crop of this size: 1 and 15 as of a job's head, and then what
-- each record is refused for. Bytes behind the last record are not looked at
unfoldable pub records_read : ℕ → ℕ → ℕ → List ℕ → StepsRead
records_read width height total bytes =
    elim (first_refusal (size_check max_side width height ∷ steps_check total ∷ [])) [
      | none ↦ read_steps width height total bytes
      | some refusal ↦ refused_steps refusal
    ]

-- written as a job
unfoldable pub write_records : StepsRead → ℕ → ℕ → List ℕ → List ℕ → List ℕ → Written
write_records (refused_steps refusal) width height image mask
    buffer = record { number = number refusal; buffer = buffer }
write_records (accepted_steps steps behind) width height image mask buffer =
    write_job (record { width = width; height = height; steps = steps; image = image; mask = mask }) buffer

-- run on a lent image with a lent mask
unfoldable pub run_records : StepsRead → ℕ → ℕ → List ℕ → List ℕ → List ℕ → Ran
run_records (refused_steps refusal) width height image mask queue = refused_run refusal image mask queue
run_records (accepted_steps steps behind) width height image mask queue = run_steps width height steps image mask queue

-- ---- a run

-- three numbers for each step that a job can have
abbrev pub report_room : ℕ
report_room = 3 * max_steps

-- changed, used and contour length of a step's reply
unfoldable pub reply_counts : Reply → List ℕ
reply_counts (operated result changed used contour_length) = changed ∷ used ∷ contour_length ∷ []
reply_counts (labelled result components holes component_labels hole_labels recs) = []
reply_counts (scanned result contour_length blank) = []

-- the numbers of reports, one behind the other
unfoldable pub numbers_of : List Report → List ℕ
numbers_of reports = flat_map reply_counts (map report_reply reports)

-- of each step in turn, and zeros behind for the steps that there might be
unfoldable pub report_numbers : List Reply → List ℕ
report_numbers replies = flat_map reply_counts replies ++ replicate (3 * (max_steps - length replies)) 0

-- From a run of the model to the answer in numbers and to the buffers as they are left. The queue is the
-- model's but for the order of the contour at its front
pub record MeetsNumbers (ran : Ran) (result : ℕ) (counts reports image' mask' queue' : List ℕ) : Type 0 where
  pub numbered : result ≡ ran.number
  pub counted : counts ≡ length ran.replies ∷ ran.contour_length ∷ []
  pub reported : reports ≡ report_numbers ran.replies
  pub pictured : image' ≡ ran.image
  pub masked : mask' ≡ ran.mask
  pub queued : SameQueue queue' (record { image = ran.image; queue = ran.queue; held = ran.contour_length })
