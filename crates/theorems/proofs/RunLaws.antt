-- Laws of runs (`specs/Run.antt`) and of what reading a job accepts (`read_job` of `specs/Codec.antt`).
--   RunPasses                       what a run asks of the crop, its steps, its image and its mask
--   read_job-passes, read_job-few   an accepted job has all of it, and no more steps than a run may have
--   steps_refusal-iff               what it means that steps in hand are not refused
--   steps_refusal-passes            then they have all of it too
--   each-mask_of                    what holds of the mask holds of a step's, if it has one
--   run_start-accepted              a run that passes starts from the image as lent, with its contour in the queue
--   run-accepted                    no step of it is refused, and the queue ends with the last image's contour
--   run-same                        accepted calls of the steps, by whatever starts, give what the run gives
--   run_refusal-iff                 what it means that the buffers lent for a job are not refused
--   run_job-accepted                the run of an accepted job is the run of its steps
-- Assumes nothing.
use Prim.Native.Nat.{ℕ, zero, suc, ◌+◌, ◌*◌, ◌≤◌}
use mathlib.Core.Path.{◌≡◌, refl, sym, ap, ap₂, subst, ◌∙◌}
use mathlib.Core.Logic.{◌↔◌}
use mathlib.Core.Bool.{Bool, true, false, cond}
use mathlib.Core.List.{List, [], ◌∷◌, flat_map}
use mathlib.Core.Option.{Option, none}
use native.Mathlib.Omega.{arith}
use lib.ListN.{length, get_or, take, drop}
use borrow.Author.Tests.{ltb-false, le-ltb}
use Rattle.neighbours.specs.Limits.{max_side}
use Rattle.lists.specs.Lists.{Each}
use Rattle.lists.proofs.ListLaws.{any-false-each, each-any-false, each_map}
use Rattle.neighbours.specs.Contour.{contour}
use Rattle.neighbours.specs.Crop.{ValidSize, Binary}
use Rattle.neighbours.proofs.ContourLaws.{length-contour-le}
use Rattle.neighbours.proofs.PackedLaws.{unpacked-binary}
use Rattle.model.specs.Limits.{max_steps}
use Rattle.model.specs.Refusals.{step_checks, buffer_checks, wrong_length, reads_mask, mask_of, operation_refusal}
use Rattle.model.specs.Codec.{list_checks, Job, packed_length, u16_at, step_at, step_refusal, StepsRead, refused_steps}
use Rattle.model.specs.Codec.{byte_bits, accepted_steps, cons_step, read_steps}
use Rattle.model.specs.Codec.{JobRead, refused_job, accepted_job, head_refusal, images_refusal, read_images, read_job}
use Rattle.model.specs.Operations.{apply}
use Rattle.model.specs.Queue.{filled, HoldsContour}
use Rattle.model.specs.Calls.{Call, operate, Reply, reply_number, State, Outcome, lent, with_contour, operate_unless}
use Rattle.model.specs.Calls.{scan_unless, call, replies}
use Rattle.model.specs.Calls.{final}
use Rattle.model.specs.Run.{run_calls, run_start, run_final, run_list, steps_refusal, run_refusal, run_job_unless}
use Rattle.model.specs.Run.{run_read}
use Rattle.model.specs.Run.{run_job}
use Rattle.model.specs.Claims.{MeetAll, done, next, IsAccepted, StepCalls, no_call, step_call}
use Rattle.model.specs.declared.Refusal.{Refusal}
use Rattle.model.specs.declared.Step.{Step}
use Rattle.model.specs.declared.Start.{Start}
use Rattle.model.specs.declared.Start.TheVariants.{Scan}
use Rattle.theorems.proofs.OperationLaws.{apply-binary}
use Rattle.theorems.proofs.CheckLaws.{by-refusal, first_refusal-flat_map, flat_map-first_refusal}
use Rattle.theorems.proofs.CodecLaws.{head_refusal-none}
use Rattle.theorems.proofs.RefusalLaws.{number_of-zero, first_refusal-none-iff, first_refusal-append-iff}
use Rattle.theorems.proofs.RefusalLaws.{refuse_if-none-iff}
use Rattle.theorems.proofs.RefusalLaws.{wrong_length-iff, BuffersPass, buffer_checks-iff, StepPasses}
use Rattle.theorems.proofs.RefusalLaws.{step_checks-iff}
use Rattle.theorems.proofs.RefusalLaws.{operation_refusal-iff, scan_refusal-iff}
use Rattle.theorems.proofs.QueueLaws.{length-filled, same_queue-refl, same_queue-with_contour-iff}
use Rattle.theorems.proofs.CallLaws.{reply_number-operate}

-- What a run asks, but for the room in the queue: sides within the limits, steps that pass, and an image
-- and a mask with the crop's pixels, each 0 or 1
pub record RunPasses (width height : ℕ) (steps : List Step) (image mask : List ℕ) : Type 0 where
  pub valid : ValidSize width height
  pub checked : Each (StepPasses width height) steps
  pub masked : Binary width height mask
  pub binary : Binary width height image

-- ---- an accepted job

-- steps that are read, and a job that is read, pass where they are not refused; there are n steps
abbrev StepsReadPass : ℕ → ℕ → ℕ → StepsRead → Type 0
StepsReadPass width height n (refused_steps refusal) = Unit {0}
StepsReadPass width height n (accepted_steps steps behind) = (length steps ≡ n) × Each (StepPasses width height) steps

abbrev JobReadPasses : JobRead → Type 0
JobReadPasses (refused_job refusal) = Unit {0}
JobReadPasses (accepted_job job) =
    (length job.steps ≤ max_steps) × RunPasses job.width job.height job.steps job.image job.mask

module _ (width height : ℕ) where
  -- a step that is read passes
  step_refusal-passes : (bytes : List ℕ) → step_refusal width height bytes ≡ none →
      StepPasses width height (step_at bytes)
  unfolding step_refusal
  step_refusal-passes bytes e =
      (step_checks-iff width height (step_at bytes)).0
      ((first_refusal-none-iff (step_checks width height (step_at bytes))).1 ((first_refusal-none-iff _).0 e).1.1)

  cons_step-passes : (step : Step) (n : ℕ) (read : StepsRead) → StepPasses width height step →
      StepsReadPass width height n read → StepsReadPass width height (suc n) (cons_step step read)
  unfolding cons_step
  cons_step-passes step n (refused_steps refusal) p h = tt
  cons_step-passes step n (accepted_steps steps behind) p h = (ap suc h.0, (p, h.1))

  -- and so do all
  read_steps-pass : (n : ℕ) (bytes : List ℕ) → StepsReadPass width height n (read_steps width height n bytes)
  unfolding read_steps
  read_steps-pass zero bytes = (refl, tt)
  read_steps-pass (suc n) bytes =
      let behind = drop (1 + get_or bytes 0 0) bytes in
      let rest = read_steps-pass n behind in
      by-refusal (step_refusal width height bytes)
      (λ e.
      rw (e, StepsReadPass)
      (cons_step-passes (step_at bytes) n (read_steps width height n behind) (step_refusal-passes bytes e) rest))
      (λ refusal e. rw (e, StepsReadPass) tt)

  -- the image and the mask behind the steps are unpacked
  read_images-passes : (n : ℕ) (read : StepsRead) → n ≤ max_steps → ValidSize width height →
      StepsReadPass width height n read →
      JobReadPasses (read_images width height read)
  unfolding read_images
  read_images-passes n (refused_steps refusal) few valid h = tt
  read_images-passes n (accepted_steps steps bytes) few valid h =
      by-refusal (images_refusal width height bytes)
      (λ e.
      rw (e, JobReadPasses) (
        rw h.0 few,
        record {
          valid = valid;
          checked = h.1;
          masked = unpacked-binary byte_bits width height (drop (packed_length width height) bytes);
          binary = unpacked-binary byte_bits width height (take (packed_length width height) bytes);
        },
      ))
      (λ refusal e. rw (e, JobReadPasses) tt)

read_job-read : (limit : ℕ) (bytes : List ℕ) → JobReadPasses (read_job limit bytes)
unfolding read_job
read_job-read limit bytes =
    let width = u16_at bytes 3 in
    let height = u16_at bytes 5 in
    let total = get_or bytes 7 0 in
    let steps = read_steps width height total (drop 8 bytes) in
    by-refusal (head_refusal limit bytes)
    (λ e.
    let head = head_refusal-none limit bytes e in
    rw (e, JobReadPasses)
    (read_images-passes width height total steps head.few head.valid
    (read_steps-pass width height total (drop 8 bytes))))
    (λ refusal e. rw (e, JobReadPasses) tt)

module _ (limit : ℕ) (bytes : List ℕ) (job : Job) (e : read_job limit bytes ≡ accepted_job job) where
  -- an accepted job has all that a run asks
  pub read_job-passes : RunPasses job.width job.height job.steps job.image job.mask
  read_job-passes = (subst JobReadPasses e (read_job-read limit bytes)).1

  -- and no more steps than a run may have
  pub read_job-few : length job.steps ≤ max_steps
  read_job-few = (subst JobReadPasses e (read_job-read limit bytes)).0

-- ---- steps in hand

module _ (width height : ℕ) (steps : List Step) (image mask queue : List ℕ) where
  -- steps in hand are not refused exactly if the crop, the number of steps and each step pass
  pub steps_refusal-iff :
      (steps_refusal width height steps image mask queue ≡ none)
      ↔ (BuffersPass width height (image ∷ mask ∷ []) queue (image ∷ mask ∷ [])
      × (length steps ≤ max_steps)
      × Each (StepPasses width height) steps)
  unfolding steps_refusal buffer_checks
  steps_refusal-iff =
      let images = image ∷ mask ∷ [] in
      let passes = buffer_checks-iff width height images queue images in
      let buffer_row = first_refusal-none-iff (buffer_checks width height images queue images) in
      let step_rows = flat_map (step_checks width height) steps in
      let head = list_checks max_side width height steps in
      let rows = first_refusal-append-iff head _ in (
        λ e.
            let ahead = (first_refusal-none-iff head).0 (rows.0 e).0 in
            let steps_pass =
            first_refusal-flat_map (step_checks width height) steps
            ((first_refusal-none-iff step_rows).1 ahead.1.1) in (
              passes.0 (buffer_row.1 (ahead.0, (first_refusal-none-iff _).0 (rows.0 e).1)),
              ltb-false max_steps (length steps) ((refuse_if-none-iff _ _).0 ahead.1.0),
              each_map (λ step. (step_checks-iff width height step).0) steps steps_pass,
            ),
        λ p.
            let checks = buffer_row.0 (passes.1 p.0) in
            let few = (refuse_if-none-iff _ _).1 (le-ltb max_steps (length steps) p.1) in
            let each = each_map (λ step. (step_checks-iff width height step).1) steps p.2 in
            let steps_pass = flat_map-first_refusal (step_checks width height) steps each in
            rows.1 (
              (first_refusal-none-iff head).1 (checks.0, (few, (first_refusal-none-iff step_rows).0 steps_pass)),
              (first_refusal-none-iff _).1 checks.1,
            ),
      )

  -- then they have all that a run asks, and the queue has room
  pub steps_refusal-passes : steps_refusal width height steps image mask queue ≡ none →
      RunPasses width height steps image mask × (width * height ≤ length queue)
  steps_refusal-passes e =
      let h = steps_refusal-iff.0 e in
      let b = h.0 in (
        record {
          valid = b.valid;
          checked = h.2;
          masked = record { pixels = b.sized.1.0; bits = b.bits.1.0 };
          binary = record { pixels = b.sized.0; bits = b.bits.0 };
        },
        b.room,
      )

-- ---- steps that pass are not refused

-- What a run keeps from step to step: an image of 0 and 1, whose contour stands in a queue with room
pub record Ready (width height : ℕ) (state : State) : Type 0 where
  pub binary : Binary width height state.image
  pub room : width * height ≤ length state.queue
  pub holds : HoldsContour width height state.image state.queue state.held

-- an image and a queue as lent, against the model's: the same image, and a queue of the same length
pub record Alike (image queue : List ℕ) (state : State) : Type 0 where
  pub pictured : image ≡ state.image
  pub size : length queue ≡ length state.queue

-- an image with its contour in a queue with room
ready-with_contour : (width height : ℕ) (image queue : List ℕ) → Binary width height image →
    width * height ≤ length queue →
    Ready width height (with_contour width height image queue)
unfolding with_contour
ready-with_contour width height image queue b room =
    let state = with_contour width height image queue in
    let h = (same_queue-with_contour-iff width height image queue state.queue room).0 (same_queue-refl state) in
    record { binary = b; room = omega (arith, h.0); holds = h.1 }

-- what holds of the mask holds of a step's, if it has one
pub each-mask_of : (P : List ℕ → Type 0) (step : Step) (mask : List ℕ) → P mask → Each P (mask_of step mask)
unfolding mask_of
each-mask_of P step mask p = either (reads_mask step)
  where
    either : (reads : Bool) → Each P (cond reads (mask ∷ []) [])
    either true = (p, tt)
    either false = tt

module _ (width height : ℕ) (valid : ValidSize width height)
    (mask : List ℕ) (masked : Binary width height mask) where
  -- a step that passes, started by a scan, is not refused
  step-accepted : (state : State) (step : Step) → Ready width height state → StepPasses width height step →
      call width height state (operate step mask Scan) ≡ operate_unless width height none state step mask
  unfolding call
  step-accepted state step ready p =
      ap (λ (o : Option Refusal). operate_unless width height o state step mask)
      ((operation_refusal-iff width height state.image state.queue step mask Scan).1 (
        record {
          valid = valid;
          sized =
              (ready.binary.pixels, each-mask_of (λ b. length b ≡ width * height) step mask masked.pixels);
          room = ready.room;
          bits = (ready.binary.bits, each-mask_of (λ image. (i : ℕ) → get_or image i 0 ≤ 1) step mask masked.bits);
        },
        p,
        tt,
      ))

  -- and leaves what the next one needs
  ready-step : (state : State) (step : Step) → Ready width height state →
      Ready width height (operate_unless width height none state step mask).state
  unfolding operate_unless
  ready-step state step ready =
      ready-with_contour width height (apply width height step mask state.image) state.queue
      (apply-binary width height step mask state.image ready.binary) ready.room

  -- a run's first step and the rest
  module _ (state : State) (step : Step) (steps : List Step) (ready : Ready width height state)
      (p : StepPasses width height step) where
    replies-step : replies width height state (run_calls mask (step ∷ steps))
        ≡ (operate_unless width height none state step mask).reply
        ∷ replies width height (operate_unless width height none state step mask).state (run_calls mask steps)
    unfolding replies run_calls
    replies-step =
        ap (λ (o : Outcome). o.reply ∷ replies width height o.state (run_calls mask steps))
        (step-accepted state step ready p)

    final-step : final width height state (run_calls mask (step ∷ steps))
        ≡ final width height (operate_unless width height none state step mask).state (run_calls mask steps)
    unfolding final run_calls
    final-step =
        ap (λ (o : Outcome). final width height o.state (run_calls mask steps)) (step-accepted state step ready p)

  -- steps that pass are not refused, one after another
  steps-accepted : (steps : List Step) (state : State) → Ready width height state →
      Each (StepPasses width height) steps →
      Each IsAccepted (replies width height state (run_calls mask steps))
      × Ready width height (final width height state (run_calls mask steps))
  unfolding replies final run_calls operate_unless reply_number
  steps-accepted [] state ready h = (tt, ready)
  steps-accepted (step ∷ steps) state ready h =
      let after = (operate_unless width height none state step mask).state in
      let rest = steps-accepted steps after (ready-step state step ready) h.1 in (
        subst (Each IsAccepted) (sym (replies-step state step steps ready h.0)) (refl, rest.0),
        subst (Ready width height) (sym (final-step state step steps ready h.0)) rest.1,
      )

  -- a step that is not refused goes by the image and the queue's length
  operate_unless-same : (image queue : List ℕ) (state : State) (step : Step) → Alike image queue state →
      operate_unless width height none (lent image queue) step mask ≡ operate_unless width height none state step mask
  unfolding operate_unless with_contour filled
  operate_unless-same image queue state step alike = rw (alike.pictured, alike.size)

  -- an accepted call of a step does the same by whatever start
  step_same : (image queue : List ℕ) (state : State) (step : Step) (start : Start) → Alike image queue state →
      IsAccepted (call width height (lent image queue) (operate step mask start)).reply →
      call width height (lent image queue) (operate step mask start) ≡ operate_unless width height none state step mask
  unfolding call
  step_same image queue state step start alike e =
      let refusal = operation_refusal width height image queue step mask start in
      let passes =
      number_of-zero refusal (sym (reply_number-operate width height (lent image queue) refusal step mask) ∙ e) in
      ap (λ (o : Option Refusal). operate_unless width height o (lent image queue) step mask) passes
      ∙ operate_unless-same image queue state step alike

  -- and so do accepted calls of the steps
  steps-same : {steps : List Step} {cs : List Call} {rs : List Reply} {image queue image' queue' : List ℕ} →
      StepCalls mask steps cs → MeetAll width height image queue cs rs image' queue' → Each IsAccepted rs →
      (state : State) → Ready width height state → Each (StepPasses width height) steps → Alike image queue state →
      (rs ≡ replies width height state (run_calls mask steps))
      × Alike image' queue' (final width height state (run_calls mask steps))
  unfolding replies final run_calls
  steps-same no_call done es state ready h alike = (refl, alike)
  steps-same (step_call {steps} step start calls) (next {image} {queue} {image'} {queue'} {r} m ms)
      es state ready h alike =
      let outcome = operate_unless width height none state step mask in
      let same = step_same image queue state step start alike (ap reply_number (sym m.replied) ∙ es.0) in
      let pictured = m.pictured ∙ ap (λ (o : Outcome). o.state.image) same in
      let size = m.queued.size ∙ ap (λ (o : Outcome). length o.state.queue) same in
      let alike' : Alike image' queue' outcome.state = record { pictured = pictured; size = size } in
      let rest = steps-same calls ms es.1 outcome.state (ready-step state step ready) h.1 alike' in (
        ap₂ ◌∷◌ (m.replied ∙ ap (λ (o : Outcome). o.reply) same) rest.0
            ∙ sym (replies-step state step steps ready h.0),
        subst (Alike _ _) (sym (final-step state step steps ready h.0)) rest.1,
      )

-- ---- a run

module _ (width height : ℕ) (steps : List Step) (image mask queue : List ℕ)
    (passes : RunPasses width height steps image mask) (room : width * height ≤ length queue) where
  -- it starts from the image as lent, with its contour in the queue
  pub run_start-accepted : run_start width height image queue ≡ with_contour width height image queue
  unfolding run_start call scan_unless
  run_start-accepted =
      let b = passes.binary in
      ap (λ (o : Option Refusal). (scan_unless width height o (lent image queue)).state)
      ((scan_refusal-iff width height image queue).1
      (record { valid = passes.valid; sized = (b.pixels, tt); room = room; bits = (b.bits, tt) }))

  run_start-ready : Ready width height (run_start width height image queue)
      × Alike image queue (run_start width height image queue)
  unfolding with_contour
  run_start-ready =
      let fits = length-filled (contour width height image) queue
      (omega (arith, length-contour-le width height image)) in
      subst (λ (state : State). Ready width height state × Alike image queue state) (sym run_start-accepted)
      (ready-with_contour width height image queue passes.binary room, record { pictured = refl; size = sym fits })

  -- no step of it is refused, and the queue ends with the last image's contour
  pub run-accepted :
      Each IsAccepted (replies width height (run_start width height image queue) (run_calls mask steps))
      × Ready width height (run_final width height steps image mask queue)
  unfolding run_final
  run-accepted =
      steps-accepted width height passes.valid mask passes.masked steps _ run_start-ready.0 passes.checked

  -- accepted calls of the steps, by whatever starts, give what it gives
  pub run-same : {cs : List Call} {rs : List Reply} {image' queue' : List ℕ} → StepCalls mask steps cs →
      MeetAll width height image queue cs rs image' queue' → Each IsAccepted rs →
      (rs ≡ replies width height (run_start width height image queue) (run_calls mask steps))
      × Alike image' queue' (run_final width height steps image mask queue)
  unfolding run_final
  run-same calls ms accepted =
      steps-same width height passes.valid mask passes.masked calls ms accepted _ run_start-ready.0
      passes.checked
      run_start-ready.1

-- ---- the run of a job

-- lent buffers are not refused exactly if they fit
pub run_refusal-iff : (pixels : ℕ) (image mask queue : List ℕ) →
    (run_refusal pixels image mask queue ≡ none)
    ↔ ((length image ≡ pixels) × (length mask ≡ pixels) × (pixels ≤ length queue))
unfolding run_refusal
run_refusal-iff pixels image mask queue =
    let images = image ∷ mask ∷ [] in
    let fits = wrong_length-iff pixels in (
      λ e.
          let h = (first_refusal-none-iff _).0 e in
          let sized = any-false-each (wrong_length pixels) images ((refuse_if-none-iff _ _).0 h.0) in (
            (fits image).0 sized.0,
            (fits mask).0 sized.1.0,
            ltb-false (length queue) pixels ((refuse_if-none-iff _ _).0 h.1.0),
          ),
      λ h.
          let sized = each-any-false (wrong_length pixels) images ((fits image).1 h.0, ((fits mask).1 h.1, tt)) in
          (first_refusal-none-iff _).1
          ((refuse_if-none-iff _ _).1 sized, ((refuse_if-none-iff _ _).1 (le-ltb (length queue) pixels h.2), tt)),
    )

-- the run of an accepted job with lent buffers that fit is the run of its steps
pub run_job-accepted : (limit : ℕ) (bytes : List ℕ) (job : Job) (image mask queue : List ℕ) →
    read_job limit bytes ≡ accepted_job job →
    length image ≡ job.width * job.height → length mask ≡ job.width * job.height →
    job.width * job.height ≤ length queue →
    run_job limit bytes image mask queue ≡ run_list job.width job.height job.steps job.image job.mask queue
unfolding run_job run_read run_job_unless
run_job-accepted limit bytes job image mask queue e i m q =
    let fits = (run_refusal-iff (job.width * job.height) image mask queue).1 (i, m, q) in
    ap (λ (read : JobRead). run_read read image mask queue) e
    ∙ ap (λ (o : Option Refusal). run_job_unless o job image mask queue) fits
