-- What `specs/Claims.antt` states: the model's claims, carried to the numbers that cross to C. Assumes nothing.
--   records-stand        where the step records of a job stand
--   written-reads-back   a job that is written reads back as itself
--   read-writes-back     an accepted job, written again, has the same bytes
--   job-run, steps-run   the run of an accepted job, and of step records, gives what the steps give as a list of calls
--   labels-fit           labelling returns neither 9 nor 10
use Prim.Native.Nat.{ℕ, ◌-◌, ◌*◌}
use mathlib.Core.Path.{◌≡◌, refl, sym, ap, ◌∙◌}
use mathlib.Core.List.{List, [], ◌∷◌, ◌++◌, flat_map, append-nil}
use mathlib.Core.Option.{Option, none, some}
use native.Mathlib.Omega.{arith}
use lib.ListN.{length, get_or, take, drop, length-append, length-drop}
use lib.Seq.{take_at}
use borrow.Author.Tests.{le-ltb}
use Rattle.lists.proofs.ListLaws.{each-any-false}
use Rattle.neighbours.specs.Limits.{max_side, max_pixels}
use Rattle.model.specs.Refusals.{number, first_refusal, wrong_length, size_check, length_check, steps_check}
use Rattle.model.specs.Codec.{Job, job_bytes, packed_length, step_bytes, Written, write_refusal, write_unless}
use Rattle.model.specs.Codec.{write_job}
use Rattle.model.specs.Codec.{StepsRead, refused_steps, accepted_steps, read_steps, JobRead, refused_job, accepted_job}
use Rattle.model.specs.Codec.{read_job}
use Rattle.model.specs.Codec.{Unpacked, unpack_unless, unpack_read, unpack_job}
use Rattle.model.specs.Calls.{reply_number, lent}
use Rattle.model.specs.Run.{Ran, after_run, refused_run, run_steps_unless, run_steps, run_job}
use Rattle.model.specs.Claims as model
use Rattle.model.specs.declared.Refusal.{Refusal}
use Rattle.model.specs.declared.Step.{Step}
use Rattle.theorems.proofs.CheckLaws.{by-refusal, some-not-none}
use Rattle.theorems.proofs.RefusalLaws.{number-positive, refuse_if-none-iff, wrong_length-iff, sides-iff}
use Rattle.theorems.proofs.CodecLaws.{Writable, write_refusal-none}
use Rattle.theorems.proofs.JobBytesLaws.{packed_images, length-packed_images, job_bytes-fields}
use Rattle.theorems.proofs.StepCodecLaws.{read_steps-step_bytes, read_steps-accepted}
use Rattle.theorems.proofs.CallLaws.{label_same}
use Rattle.theorems.proofs.RoundTrip as round_trip
use Rattle.theorems.proofs.Demand3 as demand3
use Rattle.theorems.proofs.LabelsFit as labels
use Rattle.job.proofs.JobClaims.{holds_contour-same}
use Rattle.exports.specs.Numbers.{job_number, head_numbers, records_read, write_records, run_records, report_numbers}
use Rattle.exports.specs.Numbers.{label_counts_reply, MeetsNumbers}
use Rattle.exports.proofs.RecordsLaws.{records_read-passes}
use Rattle.exports.specs.Claims.{RecordsStand, WrittenReadsBack, ReadWritesBack, RunIsList, JobRun, StepsRun}
use Rattle.exports.specs.Claims.{LabelsFit}

-- an accepted job, written again, has the same bytes: its step records behind the head, its images behind them
pub records-stand : RecordsStand
records-stand bytes job small e =
    let records = flat_map step_bytes job.steps in
    let same = (round_trip.read-writes-back max_pixels bytes job small e).0 in
    let behind : drop 8 bytes ≡ records ++ packed_images job =
    ap (λ (l : List _). drop 8 l) (sym same) ∙ (job_bytes-fields job).behind in
    let whole : length records ≡ length bytes - 2 * packed_length job.width job.height - 8 =
    omega (
      arith,
      length-drop 8 bytes,
      ap length behind,
      length-append records (packed_images job),
      length-packed_images job,
    ) in
    rw behind (take_at records (packed_images job) _ whole)

-- ---- what the answers tell

-- a number of 0 is no refusal's
not-refused {ℓ} : {C : Type ℓ} (r : Refusal) → 0 ≡ number r → C
not-refused r e = absurd (omega (arith, number-positive r))

-- a job whose steps are known
abbrev given : ℕ → ℕ → List Step → List ℕ → List ℕ → Job
given width height steps image mask =
    record { width = width; height = height; steps = steps; image = image; mask = mask }

module _ (job : Job) (buffer : List ℕ) where
  -- a job is written where nothing refuses it, and its bytes are left
  write_unless-zero : (o : Option Refusal) (bytes : List ℕ) →
      record { number = 0; buffer = bytes } ≡ write_unless o job buffer →
      (o ≡ none) × (bytes ≡ job_bytes job)
  unfolding write_unless
  write_unless-zero none bytes e = (refl, ap (λ (w : Written). w.buffer) e)
  write_unless-zero (some r) bytes e = not-refused r (ap (λ (w : Written). w.number) e)

  write_unless-none : (o : Option Refusal) (n : ℕ) (bytes : List ℕ) → o ≡ none →
      record { number = n; buffer = bytes } ≡ write_unless o job buffer → (n ≡ 0) × (bytes ≡ job_bytes job)
  unfolding write_unless
  write_unless-none none n bytes passes e = (ap (λ (w : Written). w.number) e, ap (λ (w : Written). w.buffer) e)
  write_unless-none (some r) n bytes passes e = some-not-none r passes

-- only its length counts of the buffer
write_refusal-same : (job : Job) (buffer buffer' : List ℕ) → length buffer ≡ length buffer' →
    write_refusal job buffer ≡ write_refusal job buffer'
unfolding write_refusal wrong_length
write_refusal-same job buffer buffer' e = rw e

-- the steps of records that are written as a job
record RecordsWritten (width height : ℕ) (found : StepsRead) (image mask buffer bytes : List ℕ) : Type 0 where
  steps : List Step
  behind : List ℕ
  read : found ≡ accepted_steps steps behind
  written : record { number = 0; buffer = bytes } ≡ write_job (given width height steps image mask) buffer

records-written : (width height : ℕ) (found : StepsRead) (image mask buffer bytes : List ℕ) →
    record { number = 0; buffer = bytes } ≡ write_records found width height image mask buffer →
    RecordsWritten width height found image mask buffer bytes
unfolding write_records
records-written width height (refused_steps r) image mask buffer bytes e =
    not-refused r (ap (λ (w : Written). w.number) e)
records-written width height (accepted_steps steps behind) image mask buffer bytes e =
    record { steps = steps; behind = behind; read = refl; written = e }

-- records that are accepted are read one after another
module _ (width height total : ℕ) (bytes : List ℕ) where
  records_read-accepted : (steps : List Step) (behind : List ℕ) →
      records_read width height total bytes ≡ accepted_steps steps behind →
      read_steps width height total bytes ≡ accepted_steps steps behind
  unfolding records_read
  records_read-accepted steps behind e =
      by-refusal (first_refusal (size_check max_side width height ∷ steps_check total ∷ []))
      (λ passes. rw (passes, records_read) at e)
      (λ r refused. let never = rw (refused, records_read) at e in let z : ◌≡◌ {A = ℕ} 0 1 = cc in absurd (omega arith))

-- a job of the same parts is the same
given_is : (job : Job) {width height : ℕ} {image mask : List ℕ} → job.width ≡ width → job.height ≡ height →
    image ≡ job.image → mask ≡ job.mask → given width height job.steps image mask ≡ job
given_is job across down pictured masked = rw (← across, ← down, pictured, masked)

-- a job is unpacked where the buffers fit, and its image and its mask are left
module _ (job : Job) (image₀ mask₀ image mask : List ℕ) where
  unpack_unless-zero : (o : Option Refusal) →
      record { number = 0; image = image; mask = mask } ≡ unpack_unless o job image₀ mask₀ →
      (image ≡ job.image) × (mask ≡ job.mask)
  unfolding unpack_unless
  unpack_unless-zero none e = (ap (λ (u : Unpacked). u.image) e, ap (λ (u : Unpacked). u.mask) e)
  unpack_unless-zero (some r) e = not-refused r (ap (λ (u : Unpacked). u.number) e)

  unpack_unless-none : (o : Option Refusal) (n : ℕ) → o ≡ none →
      record { number = n; image = image; mask = mask } ≡ unpack_unless o job image₀ mask₀ →
      (n ≡ 0) × (image ≡ job.image) × (mask ≡ job.mask)
  unfolding unpack_unless
  unpack_unless-none none n passes e =
      (ap (λ (u : Unpacked). u.number) e, ap (λ (u : Unpacked). u.image) e, ap (λ (u : Unpacked). u.mask) e)
  unpack_unless-none (some r) n passes e = some-not-none r passes

-- buffers of the length that is needed are not refused
length_check-none : (pixels : ℕ) (image mask : List ℕ) → length image ≡ pixels → length mask ≡ pixels →
    length_check pixels (image ∷ mask ∷ []) ≡ none
length_check-none pixels image mask fits fits' =
    (refuse_if-none-iff _ _).1
    (each-any-false (wrong_length pixels) (image ∷ mask ∷ [])
    ((wrong_length-iff pixels image).1 fits, ((wrong_length-iff pixels mask).1 fits', tt)))

-- ---- written, then read

pub written-reads-back : WrittenReadsBack
unfolding write_job job_number head_numbers unpack_job unpack_read
written-reads-back width height total records image mask buffer bytes small e =
    let w = records-written width height _ image mask buffer bytes e in
    let job = given width height w.steps image mask in
    let (passes, same) = write_unless-zero job buffer _ bytes w.written in
    let found = ap (read_job max_pixels) same ∙ round_trip.written-reads-back job buffer passes in
    let read = records_read-accepted width height total records _ _ w.read in
    let count = (read_steps-accepted width height total records _ _ small read).count in (
      rw found,
      rw (found, count),
      λ n image₀ mask₀ image' mask' fits fits' left.
          unpack_unless-none job image₀ mask₀ image' mask' _ n
          (length_check-none (width * height) image₀ mask₀ fits fits') (rw found at left),
    )

-- ---- read, then written

-- what is told of an accepted job
record Told (width height total at : ℕ) (bytes : List ℕ) (found : JobRead) : Type 0 where
  job : Job
  same : found ≡ accepted_job job
  across : job.width ≡ width
  down : job.height ≡ height
  count : length job.steps ≡ total
  placed : length bytes - 2 * packed_length job.width job.height ≡ at

told-accepted : (width height total at : ℕ) (bytes : List ℕ) (found : JobRead) → job_number found ≡ 0 →
    head_numbers (length bytes) found ≡ width ∷ height ∷ total ∷ at ∷ [] → Told width height total at bytes found
unfolding job_number head_numbers
told-accepted width height total at bytes (refused_job r) e told = not-refused r (sym e)
told-accepted width height total at bytes (accepted_job job) e told =
    record { job = job; same = refl; across = cc; down = cc; count = cc; placed = cc }

-- the records of a job that may be written are read
records_read-written : (job : Job) (buffer : List ℕ) → Writable job buffer →
    records_read job.width job.height (length job.steps) (flat_map step_bytes job.steps)
    ≡ accepted_steps job.steps []
records_read-written job buffer w =
    records_read-passes job.width job.height (length job.steps) _
    ((refuse_if-none-iff _ _).1 ((sides-iff job.width job.height).1 w.valid))
    ((refuse_if-none-iff _ _).1 (le-ltb _ _ w.few))
    ∙ rw append-nil at (read_steps-step_bytes job.width job.height job.steps [] w.pass)

pub read-writes-back : ReadWritesBack
unfolding write_job write_records unpack_job unpack_read
read-writes-back width height total at n bytes image₀ mask₀
    image mask buffer buffer' small accepted told left size written =
    let k = told-accepted width height total at bytes _ accepted told in
    let job = k.job in
    let again = round_trip.read-writes-back max_pixels bytes job small k.same in
    let w = write_refusal-none job bytes again.1 in
    let stand =
    ap (λ (n : ℕ). take (n - 8) (drop 8 bytes)) (sym k.placed) ∙ records-stand bytes job small k.same in
    let found = records_read-written job bytes w in
    let read : records_read width height total (take (at - 8) (drop 8 bytes)) ≡ accepted_steps job.steps [] = cc in
    let unpacked = left ∙ ap (λ (found : JobRead). unpack_read found image₀ mask₀) k.same in
    let (pictured, masked) = unpack_unless-zero job image₀ mask₀ image mask _ unpacked in
    let same = given_is job k.across k.down pictured masked in
    let passes = write_refusal-same job buffer bytes size ∙ again.1 in
    let wrote =
    written ∙ ap (λ (found : StepsRead). write_records found width height image mask buffer) read
    ∙ ap (λ (job : Job). write_job job buffer) same in
    let (accepts, leaves) = write_unless-none job buffer _ n buffer' passes wrote in
    (accepts, leaves ∙ again.0)

-- ---- the run

-- what the model claims of a run holds of its numbers
run-is-list : {width height : ℕ} {steps : List Step} {image mask queue : List ℕ} (ran : Ran) {n : ℕ}
    {counts reports image' mask' queue' : List ℕ} → model.RunIsList width height steps image mask queue ran →
    MeetsNumbers ran n counts reports image' mask' queue' →
    RunIsList width height steps image mask queue n counts reports image' mask' queue'
run-is-list {width} {height} ran {counts = counts} {image' = image'} {queue' = queue'} run m =
    let len : get_or counts 1 0 ≡ ran.contour_length = ap (λ (l : List ℕ). get_or l 1 0) m.counted in
    record {
      accepted = m.numbered ∙ run.accepted;
      masked = m.masked ∙ run.masked;
      contour = rw (m.pictured, len) (holds_contour-same width height (after_run ran) queue' m.queued run.contour);
      list = λ cs rs image'' queue'' calls accepted ms.
          let same = run.list cs rs image'' queue'' calls accepted ms in
          (m.reported ∙ ap report_numbers (sym same.0), same.1 ∙ sym m.pictured);
      next = λ cs rs image'' queue'' image''' queue''' image'''' queue'''' calls accepted ms
          connectivity component_labels hole_labels records reply reply' first second.
          run.next cs rs image'' queue'' image''' queue''' connectivity component_labels hole_labels records reply
          calls accepted ms first
          ∙ sym
          (second.replied
          ∙ label_same width height (lent image' queue')
          (after_run ran) connectivity component_labels hole_labels records
          m.pictured m.queued.size);
    }

-- the run of an accepted job gives what its steps give as a list of calls
pub job-run : JobRun
job-run bytes image mask queue image' mask' queue' counts reports job n e fits fits' room m =
    run-is-list (run_job max_pixels bytes image mask queue)
    (demand3.job-run max_pixels bytes job image mask queue e fits fits' room) m

-- steps that are run without a refusal pass
steps_unless-zero : (width height : ℕ) (steps : List Step) (image mask queue : List ℕ) (o : Option Refusal) →
    0 ≡ (run_steps_unless o width height steps image mask queue).number → o ≡ none
unfolding run_steps_unless refused_run
steps_unless-zero width height steps image mask queue none e = refl
steps_unless-zero width height steps image mask queue (some r) e = not-refused r e

-- and so does the run of step records that are read
records-run : (width height : ℕ) (image mask queue image' mask' queue' counts reports : List ℕ) (found : StepsRead) →
    MeetsNumbers (run_records found width height image mask queue) 0 counts reports image' mask' queue' →
    (steps : List Step) × (behind : List ℕ) × (found ≡ accepted_steps steps behind)
    × RunIsList width height steps image mask queue 0 counts reports image' mask' queue'
unfolding run_records run_steps refused_run
records-run width height image mask queue image' mask' queue' counts reports (refused_steps r) m =
    not-refused r m.numbered
records-run width height image mask queue image' mask' queue' counts reports (accepted_steps steps behind) m =
    let passes = steps_unless-zero width height steps image mask queue _ m.numbered in
    let run = demand3.steps-run width height steps image mask queue passes in
    (steps, behind, refl, run-is-list (run_steps width height steps image mask queue) run m)

pub steps-run : StepsRun
steps-run width height total given image mask queue image' mask' queue' counts reports m =
    records-run width height image mask queue image' mask' queue' counts reports _ m

-- ---- labelling

-- the result is the reply's number
pub labels-fit : LabelsFit
unfolding label_counts_reply reply_number
labels-fit width height connectivity result image queue queue' counts component_labels hole_labels records
    component_labels' hole_labels' records' small met =
    labels.labels-fit width height image queue image queue' connectivity component_labels hole_labels records _
    small met
