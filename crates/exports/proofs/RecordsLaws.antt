-- Laws of a job that is read and of steps given as step records (`specs/Numbers.antt`), by what reading answers.
-- Assumes nothing.
--   head_numbers-refused, -accepted, -fit   what is told of a job that is read, in numbers that fit
--   records_read-size, -many                records for a size that is refused, and too many of them
--   size-answered, many-answered            the same by what the checks answer
--   records_read-passes, -read              any others are read
--   write_records-refused, -accepted        steps given as records, written as a job
--   run_records-refused, -accepted          and run
use Prim.Native.Nat.{ℕ, ◌-◌, ◌*◌, ◌<◌}
use mathlib.Core.Path.{◌≡◌, sym, ap, ◌∙◌}
use mathlib.Core.Bool.{true, false, ◌||◌}
use mathlib.Core.List.{List}
use mathlib.Core.Option.{none}
use native.Mathlib.Omega.{arith}
use borrow.Author.Tests.{lt-ltb}
use lib.ListN.{length, get_or, replicate, length-append, length-replicate}
use Rattle.std.specs.Prelude.{Result, Ok, Err}
use Rattle.neighbours.specs.Limits.{max_side}
use Rattle.model.specs.Limits.{max_steps}
use Rattle.model.specs.Refusals.{number, refusal, verdict_number, first_refusal, refuse_if, bad_side, size_check}
use Rattle.model.specs.Refusals.{steps_check}
use Rattle.model.specs.Codec.{u16_at, packed_length, read_job, read_steps, Written, write_job}
use Rattle.model.specs.Codec.{StepsRead as ModelStepsRead, refused_steps}
use Rattle.model.specs.Run.{run_steps}
use Rattle.model.specs.declared.Refusal.{Refusal}
use Rattle.model.specs.declared.Refusal.TheVariants.{BadSize, TooManySteps}
use Rattle.model.specs.declared.JobHead.{JobHead}
use Rattle.model.specs.declared.RunReport.{RunReport}
use Rattle.model.specs.StepList.{steps_in, unused_step, slotted}
use Rattle.model.specs.Answers.{Heading, heading_in, heading, job_of, written_to, MeetsRun}
use Rattle.theorems.proofs.CodecLaws.{read_job-accepted}
use Rattle.theorems.proofs.RunLaws.{read_job-few}
use Rattle.theorems.proofs.StepListLaws.{length-steps_in}
use Rattle.job.specs.Reading.{records_in, records}
use Rattle.job.specs.declared.inner.read.StepsRead.{StepsRead}
use Rattle.judging.proofs.JudgeLaws.{verdict-refused, verdict-accepted}
use Rattle.job.proofs.ReadingLaws.{records-nothing, records-refused, records-found}
use Rattle.job.proofs.HeadingLaws.{job_in, heading-accepted, heading-refused, heading-sides}
use Rattle.runner.proofs.RunListLaws.{refused_run-meets}
use Rattle.exports.specs.Numbers.{job_number, head_numbers, head_counts, HeadFits, records_read, write_records}
use Rattle.exports.specs.Numbers.{run_records}

-- ---- a job that is read

module _ (limit : ℕ) (bytes : List ℕ) {read : Result JobHead Refusal}
    (told : heading_in read ≡ heading bytes (read_job limit bytes)) where
  -- one that is refused
  pub head_numbers-refused : {r : Refusal} → read ≡ Err r →
      (number r ≡ job_number (read_job limit bytes))
      × (replicate 4 0 ≡ head_numbers (length bytes) (read_job limit bytes))
  unfolding job_number head_numbers
  head_numbers-refused e =
      let (o, found, numbered) = heading-refused limit bytes told e in (sym numbered ∙ rw found, rw found)

  module _ {head : JobHead} (e : read ≡ Ok head) where
    -- the slots of its list hold as many steps as it counts
    counted : length (steps_in head.steps) ≡ head.steps.count
    unfolding heading_in heading slotted
    counted =
        let job = job_in bytes head in
        let found = (heading-accepted limit bytes told e).found in
        let slots : head.steps.slots ≡ slotted job.steps = ap (λ (h : Heading). h.slots) (rw (e, found) at told) in
        let few = read_job-few limit bytes job found in
        let within = head.steps.within in
        length-steps_in head.steps
        (omega (
          arith,
          ap length slots
              ∙ length-append job.steps (replicate (max_steps - length job.steps) unused_step),
          length-replicate (max_steps - length job.steps) unused_step,
        ))

    -- one that is accepted
    pub head_numbers-accepted :
        (0 ≡ job_number (read_job limit bytes))
        × (head_counts head ≡ head_numbers (length bytes) (read_job limit bytes))
    unfolding job_number head_numbers
    head_numbers-accepted =
        let reads = heading-accepted limit bytes told e in
        let at : length bytes - 2 * packed_length head.width head.height ≡ head.at = omega (arith, reads.images) in
        (rw reads.found, rw (reads.found, counted, at))

    -- small numbers all
    pub head_numbers-fit : ((k : ℕ) → get_or bytes k 0 < 256) →
        HeadFits head.width head.height head.steps.count head.at
    unfolding u16_at
    head_numbers-fit small =
        let reads = heading-accepted limit bytes told e in
        let valid = heading-sides limit bytes told e in
        let size = (read_job-accepted limit bytes (job_in bytes head) reads.found).head.size in
        record {
          across = omega (arith, valid.narrow);
          down = omega (arith, valid.low);
          few = omega (arith, head.steps.within);
          inside = omega (arith, reads.images, size, small 1, small 2);
        }

-- ---- step records

-- records are read where neither the size nor their number is refused
pub records_read-passes : (width height total : ℕ) (bytes : List ℕ) → size_check max_side width height ≡ none →
    steps_check total ≡ none → records_read width height total bytes ≡ read_steps width height total bytes
unfolding records_read first_refusal
records_read-passes width height total bytes good few = rw (good, few, records_read)

module _ (width height total : ℕ) (bytes : List ℕ) where
  -- for a size that is refused
  pub records_read-size : bad_side max_side width || bad_side max_side height ≡ true →
      records_read width height total bytes ≡ refused_steps BadSize
  unfolding records_read first_refusal refuse_if
  records_read-size bad = rw (bad, records_read)

  module _ (good : bad_side max_side width || bad_side max_side height ≡ false) where
    -- too many
    pub records_read-many : max_steps < total → records_read width height total bytes ≡ refused_steps TooManySteps
    unfolding records_read first_refusal refuse_if
    records_read-many many = rw (good, lt-ltb _ _ many, records_read)

-- the same by what the checks answer
module _ (width height total : ℕ) (bytes : List ℕ) {sized : Result Unit Refusal}
    (sizes : refusal sized ≡ size_check max_side width height) where
  pub size-answered : {r : Refusal} {w : Result StepsRead Refusal} → sized ≡ Err r → w ≡ Err r →
      records_in w ≡ records bytes (records_read width height total bytes)
  unfolding records_read first_refusal
  size-answered e f = records-nothing bytes f (rw (verdict-refused sizes e, records_read))

  module _ {x : Unit} (good : sized ≡ Ok x) {judged : Result Unit Refusal} (counts : refusal judged ≡ steps_check total)
    where
      pub many-answered : {r : Refusal} {w : Result StepsRead Refusal} → judged ≡ Err r → w ≡ Err r →
          records_in w ≡ records bytes (records_read width height total bytes)
      unfolding records_read first_refusal
      many-answered e f =
          records-nothing bytes f (rw (verdict-accepted sizes good, verdict-refused counts e, records_read))

      -- any others are read
      pub records_read-read : {y : Unit} → judged ≡ Ok y →
          records_read width height total bytes ≡ read_steps width height total bytes
      records_read-read few =
          records_read-passes width height total bytes (verdict-accepted sizes good) (verdict-accepted counts few)

-- steps that are read, by what the answer tells
module _ (found : ModelStepsRead) (bytes : List ℕ) {read : Result StepsRead Refusal}
    (told : records_in read ≡ records bytes found) where
  module _ (width height : ℕ) (image mask : List ℕ) where
    -- where the records are refused, nothing is written
    pub write_records-refused : (buffer : List ℕ) {r : Refusal} {w : Result Unit Refusal} → read ≡ Err r → w ≡ Err r →
        written_to w buffer ≡ write_records found width height image mask buffer
    unfolding written_to verdict_number write_records
    write_records-refused buffer e same =
        let (o, refused, numbered) = records-refused bytes read found told e in
        rw (same, refused, numbered)

    -- otherwise the job of their steps is
    pub write_records-accepted : {head : StepsRead} → read ≡ Ok head → (buffer : List ℕ) {written : Written} →
        written ≡ write_job (job_of width height (steps_in head.steps) image mask) buffer →
        written ≡ write_records found width height image mask buffer
    unfolding job_of write_records
    write_records-accepted e buffer wrote =
        let (behind, same, end) = records-found bytes read e found told in rw same wrote

    module _ (queue : List ℕ) {reply : Result RunReport Refusal} where
      -- nothing is run either
      pub run_records-refused : {r : Refusal} → read ≡ Err r → reply ≡ Err r →
          MeetsRun (run_records found width height image mask queue) reply image mask queue
      unfolding run_records
      run_records-refused e same =
          let (o, refused, numbered) = records-refused bytes read found told e in
          rw refused (refused_run-meets o image mask queue same numbered)

      -- or their steps are
      pub run_records-accepted : {image' mask' queue' : List ℕ} {head : StepsRead} → read ≡ Ok head →
          MeetsRun (run_steps width height (steps_in head.steps) image mask queue) reply image' mask' queue' →
          MeetsRun (run_records found width height image mask queue) reply image' mask' queue'
      unfolding run_records
      run_records-accepted e met = let (behind, same, end) = records-found bytes read e found told in rw same met
