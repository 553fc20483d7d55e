-- The claims of `specs/Claims.antt`: what the model's theorems say of jobs, carried to the answers that the
-- code gives. Assumes nothing.
--   accepted-zero           only an acceptance has number 0
--   holds_contour-same      a queue that is the model's but for the order of its contour holds the contour too
--   written-accepted        what an acceptance of writing tells
--   ReadAs, read-accepted   what an acceptance of reading and unpacking tells
--   written-reads-back      a written job is read and unpacked as itself
--   read-writes-back        a job that is read and unpacked, written again, has the same bytes
--   job-run, steps-run      the run of an accepted job, and of steps in hand, gives what the steps give as a
--                           list of calls
use Prim.Native.Nat.{ℕ, ◌-◌, ◌*◌, ◌≤◌}
use mathlib.Core.Path.{◌≡◌, refl, sym, ap, ◌∙◌}
use mathlib.Core.Logic.{◌↔◌}
use mathlib.Core.List.{List, [], ◌∷◌}
use Rattle.std.specs.Prelude.{Result, Ok, Err}
use mathlib.Core.Option.{Option, none, some}
use native.Mathlib.Omega.{arith}
use lib.ListN.{length, replicate}
use Rattle.lists.specs.Lists.{any, occurrences}
use Rattle.lists.proofs.ListLaws.{any-false-each, each-any-false}
use Rattle.neighbours.specs.Limits.{max_pixels}
use Rattle.model.specs.Refusals.{verdict_number, refuse_if, wrong_length}
use Rattle.model.specs.Queue.{front, HoldsContour}
use Rattle.model.specs.Calls.{State, lent, SameQueue}
use Rattle.model.specs.Codec.{Job, job_bytes, write_refusal, Written, write_unless, write_job}
use Rattle.model.specs.Codec.{JobRead, refused_job, accepted_job, read_job, Unpacked, unpack_unless, unpack_read}
use Rattle.model.specs.Codec.{unpack_job}
use Rattle.model.specs.Run.{Ran, after_run, refused_run, run_steps_unless, run_steps, run_job}
use Rattle.model.specs.Claims as model
use Rattle.model.specs.declared.Refusal.{Refusal}
use Rattle.model.specs.declared.Refusal.TheVariants.{BadLength}
use Rattle.theorems.proofs.RefusalLaws.{refuse_if-none-iff, wrong_length-iff}
use Rattle.theorems.proofs.QueueLaws.{front-take}
use Rattle.theorems.proofs.CallLaws.{label_same}
use Rattle.theorems.proofs.RoundTrip as round_trip
use Rattle.theorems.proofs.Demand3 as demand3
use Rattle.model.specs.declared.Step.{Step}
use Rattle.model.specs.declared.JobHead.{JobHead}
use Rattle.model.specs.declared.RunReport.{RunReport}
use Rattle.model.specs.StepList.{steps_in}
use Rattle.model.specs.Answers.{Heading, heading_in, heading, unpacked_to, job_of, written_to, run_told}
use Rattle.model.specs.Answers.{MeetsRun}
use Rattle.job.specs.Claims.{WrittenReadsBack, ReadWritesBack, RunIsList, JobRun, StepsRun}
use Rattle.job.proofs.ReadingLaws.{number-not-zero}

-- only an acceptance has number 0
pub accepted-zero : (v : Result Unit Refusal) → verdict_number v ≡ 0 → v ≡ Ok tt
unfolding verdict_number
accepted-zero (Ok answer) e = refl
accepted-zero (Err r) e = number-not-zero r e

-- and then tells its own report
told-zero : (r : Result RunReport Refusal) → verdict_number r ≡ 0 → r ≡ Ok (run_told r)
unfolding verdict_number run_told
told-zero (Ok report) e = refl
told-zero (Err r) e = number-not-zero r e

-- a queue that is the model's but for the order of its contour holds the contour too
pub holds_contour-same : (width height : ℕ) (state : State) (queue : List ℕ) → SameQueue queue state →
    HoldsContour width height state.image state.queue state.held →
    HoldsContour width height state.image queue state.held
holds_contour-same width height state queue same h =
    let n = state.held in
    let within : n ≤ length queue = omega (arith, same.size, h.within) in
    let fronts : (i : ℕ) → occurrences i (front n queue) ≡ occurrences i (front n state.queue) = λ i.
    ap (occurrences i) (front-take n queue within)
    ∙ same.front i
    ∙ ap (occurrences i) (sym (front-take n state.queue h.within)) in
    record {
      within = within;
      once = λ i l. fronts i ∙ h.once i l;
      no_other = λ i l. fronts i ∙ h.no_other i l;
      zeros = same.behind ∙ h.zeros ∙ ap (λ (size : ℕ). replicate (size - n) 0) (sym same.size);
    }

-- ---- writing

module _ (job : Job) (buffer buffer' : List ℕ) where
  -- an acceptance of writing tells that nothing refuses the job
  write_unless-accepted : (o : Option Refusal) → written_to (Ok tt) buffer' ≡ write_unless o job buffer → o ≡ none
  unfolding written_to verdict_number write_unless
  write_unless-accepted none e = refl
  write_unless-accepted (some r) e = number-not-zero r (sym (ap (λ (w : Written). w.number) e))

  -- where nothing does, writing accepts it and leaves its bytes
  write_job-none : (answer : Result Unit Refusal) → write_refusal job buffer ≡ none →
      written_to answer buffer' ≡ write_job job buffer → (answer ≡ Ok tt) × (buffer' ≡ job_bytes job)
  unfolding written_to verdict_number write_job write_unless
  write_job-none answer passes e =
      let written = e ∙ ap (λ (o : Option Refusal). write_unless o job buffer) passes in
      (accepted-zero answer (ap (λ (w : Written). w.number) written), ap (λ (w : Written). w.buffer) written)

  -- so an acceptance tells both
  pub written-accepted : written_to (Ok tt) buffer' ≡ write_job job buffer →
      (write_refusal job buffer ≡ none) × (buffer' ≡ job_bytes job)
  unfolding write_job
  written-accepted e =
      let passes = write_unless-accepted (write_refusal job buffer) e in (passes, (write_job-none (Ok tt) passes e).1)

-- the buffer is judged by its length
write_refusal-same : (job : Job) (buffer buffer' : List ℕ) → length buffer ≡ length buffer' →
    write_refusal job buffer ≡ write_refusal job buffer'
unfolding write_refusal wrong_length
write_refusal-same job buffer buffer' e = rw e

-- ---- reading

module _ (job : Job) (image₀ mask₀ image mask : List ℕ) where
  -- an acceptance of unpacking tells that nothing refuses the buffers
  unpack_unless-accepted : (o : Option Refusal) →
      unpacked_to (Ok tt) image mask ≡ unpack_unless o job image₀ mask₀ → o ≡ none
  unfolding unpacked_to verdict_number unpack_unless
  unpack_unless-accepted none e = refl
  unpack_unless-accepted (some r) e = number-not-zero r (sym (ap (λ (u : Unpacked). u.number) e))

  -- where nothing does, unpacking accepts the job and leaves its image and its mask
  unpack_unless-none : (answer : Result Unit Refusal) (o : Option Refusal) → o ≡ none →
      unpacked_to answer image mask ≡ unpack_unless o job image₀ mask₀ →
      (answer ≡ Ok tt) × (image ≡ job.image) × (mask ≡ job.mask)
  unfolding unpacked_to verdict_number unpack_unless
  unpack_unless-none answer o passes e =
      let left = e ∙ ap (λ (o : Option Refusal). unpack_unless o job image₀ mask₀) passes in (
        accepted-zero answer (ap (λ (u : Unpacked). u.number) left),
        ap (λ (u : Unpacked). u.image) left,
        ap (λ (u : Unpacked). u.mask) left,
      )

-- buffers are not refused exactly if they have the length that is needed
lengths-iff : (pixels : ℕ) (image mask : List ℕ) →
    (refuse_if (any (wrong_length pixels) (image ∷ mask ∷ [])) BadLength ≡ none)
    ↔ ((length image ≡ pixels) × (length mask ≡ pixels))
lengths-iff pixels image mask =
    let buffers = image ∷ mask ∷ [] in
    let checked = refuse_if-none-iff (any (wrong_length pixels) buffers) BadLength in (
      λ e.
          let each = any-false-each (wrong_length pixels) buffers (checked.0 e) in
          ((wrong_length-iff pixels image).0 each.0, (wrong_length-iff pixels mask).0 each.1.0),
      λ h.
          checked.1
          (each-any-false (wrong_length pixels) buffers
          ((wrong_length-iff pixels image).1 h.0, ((wrong_length-iff pixels mask).1 h.1, tt))),
    )

-- What an acceptance of reading and unpacking tells: the job that the model reads is the one that is answered
-- and unpacked, and the buffers fit
pub record ReadAs (found : JobRead) (head : JobHead) (image₀ mask₀ image mask : List ℕ) : Type 0 where
  pub same : found ≡ accepted_job (job_of head.width head.height (steps_in head.steps) image mask)
  pub image_fits : length image₀ ≡ head.width * head.height
  pub mask_fits : length mask₀ ≡ head.width * head.height

module _ (head : JobHead) (image₀ mask₀ image mask : List ℕ) where
  -- of either case of what the model reads
  unpack_read-accepted : (bytes : List ℕ) (found : JobRead) → heading_in (Ok head) ≡ heading bytes found →
      unpacked_to (Ok tt) image mask ≡ unpack_read found image₀ mask₀ → ReadAs found head image₀ mask₀ image mask
  unfolding heading_in heading unpacked_to verdict_number unpack_read job_of
  unpack_read-accepted bytes (refused_job r) told left = number-not-zero r (sym (ap (λ (u : Unpacked). u.number) left))
  unpack_read-accepted bytes (accepted_job job) told left =
      let across : head.width ≡ job.width = ap (λ (h : Heading). h.width) told in
      let down : head.height ≡ job.height = ap (λ (h : Heading). h.height) told in
      let steps : steps_in head.steps ≡ job.steps = ap (λ (h : Heading). h.steps) told in
      let passes = unpack_unless-accepted job image₀ mask₀ image mask _ left in
      let unpacked = unpack_unless-none job image₀ mask₀ image mask (Ok tt) _ passes left in
      let fits = (lengths-iff (job.width * job.height) image₀ mask₀).0 passes in
      record {
        same = rw (across, down, steps, unpacked.1, unpacked.2);
        image_fits = rw (across, down) fits.0;
        mask_fits = rw (across, down) fits.1;
      }

  -- of a job's bytes
  pub read-accepted : (bytes : List ℕ) → heading_in (Ok head) ≡ heading bytes (read_job max_pixels bytes) →
      unpacked_to (Ok tt) image mask ≡ unpack_job max_pixels bytes image₀ mask₀ →
      ReadAs (read_job max_pixels bytes) head image₀ mask₀ image mask
  unfolding unpack_job
  read-accepted bytes told left = unpack_read-accepted bytes (read_job max_pixels bytes) told left

-- ---- the round trip

-- a job that is written is read and unpacked as itself
pub written-reads-back : WrittenReadsBack
unfolding heading job_of unpack_job unpack_read
written-reads-back width height steps image mask buffer bytes e =
    let job = job_of width height steps image mask in
    let written = written-accepted job buffer bytes e in
    let back = round_trip.written-reads-back job buffer written.0 in
    let found : read_job max_pixels bytes ≡ accepted_job job = rw written.1 back in (
      λ read told. told ∙ ap (heading bytes) found,
      λ answer image₀ mask₀ image' mask' image_fits mask_fits left.
          let passes = (lengths-iff (width * height) image₀ mask₀).1 (image_fits, mask_fits) in
          unpack_unless-none job image₀ mask₀ image' mask' answer _ passes
          (left ∙ ap (λ (found : JobRead). unpack_read found image₀ mask₀) found),
    )

-- a job that is read and unpacked, written again, has the same bytes
pub read-writes-back : ReadWritesBack
read-writes-back bytes image₀ mask₀ image mask buffer buffer' head answer small told left size written =
    let job = job_of head.width head.height (steps_in head.steps) image mask in
    let found = read-accepted head image₀ mask₀ image mask bytes told left in
    let again = round_trip.read-writes-back max_pixels bytes job small found.same in
    let passes = write_refusal-same job buffer bytes size ∙ again.1 in
    let written_again = write_job-none job buffer buffer' answer passes written in
    (written_again.0, written_again.1 ∙ again.0)

-- ---- the run

-- what the model claims of a run holds of the answer to it
run-is-list : {width height : ℕ} {steps : List Step} {image mask queue : List ℕ} (ran : Ran)
    {r : Result RunReport Refusal} {image' mask' queue' : List ℕ} →
    model.RunIsList width height steps image mask queue ran →
    MeetsRun ran r image' mask' queue' → RunIsList width height steps image mask queue r image' mask' queue'
run-is-list {width} {height} ran {r} {image'} {queue' = queue'} run m =
    record {
      accepted = told-zero r (m.numbered ∙ run.accepted);
      masked = m.masked ∙ run.masked;
      contour =
          rw (m.pictured, m.lasting)
          (holds_contour-same width height (after_run ran) queue' m.queued run.contour);
      list = λ cs rs image'' queue'' calls accepted ms.
          let same = run.list cs rs image'' queue'' calls accepted ms in
          (same.0 ∙ sym m.replied, same.1 ∙ sym m.pictured);
      next = λ cs rs image'' queue'' image''' queue''' image'''' queue'''' calls accepted ms
          connectivity component_labels hole_labels records reply reply' first second.
          run.next cs rs image'' queue'' image''' queue''' connectivity component_labels hole_labels records reply
          calls accepted ms first
          ∙ sym
          (second.replied
          ∙ label_same width height (lent image' queue')
          (after_run ran) connectivity component_labels hole_labels records
          m.pictured m.queued.size);
    }

-- the run of an accepted job gives what its steps give as a list of calls
pub job-run : JobRun
unfolding job_of
job-run bytes image mask queue job-image job-mask image' mask' queue' head r told left room m =
    let job = job_of head.width head.height (steps_in head.steps) job-image job-mask in
    let found = read-accepted head image mask job-image job-mask bytes told left in
    run-is-list (run_job max_pixels bytes image mask queue)
    (demand3.job-run max_pixels bytes job image mask queue found.same found.image_fits found.mask_fits room) m

-- an acceptance of steps in hand tells that nothing refuses them
steps_unless-accepted : (width height : ℕ) (steps : List Step) (image mask queue : List ℕ) (o : Option Refusal) →
    0 ≡ (run_steps_unless o width height steps image mask queue).number → o ≡ none
unfolding run_steps_unless refused_run
steps_unless-accepted width height steps image mask queue none same = refl
steps_unless-accepted width height steps image mask queue (some r) same = number-not-zero r (sym same)

-- and so does the run of steps in hand
pub steps-run : StepsRun
unfolding verdict_number run_steps
steps-run width height steps image mask queue image' mask' queue' report m =
    let passes = steps_unless-accepted width height steps image mask queue _ m.numbered in
    run-is-list (run_steps width height steps image mask queue)
    (demand3.steps-run width height steps image mask queue passes) m
