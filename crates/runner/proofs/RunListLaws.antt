-- The run of a list of steps, step after step, against the model's. Assumes nothing.
--   step-checked        a step is not refused, where all steps pass
--   Running             what a run has done so far
--   RunTo, passes-ready, run_to-none, -suc, -all   a run over slots: it may begin, has begun, goes on, and is done
--   model_queue, RowsRunTo, rows_to-none, -ready, -suc, -all   the same on packed rows
--   refused_run-meets    a run that is refused
--   refused-meets, accepted-meets   a run of steps in hand, which may be refused
use Prim.Native.Nat.{ℕ, ◌+◌, ◌-◌, ◌*◌, ◌≤◌, ◌<◌}
use mathlib.Core.Path.{◌≡◌, refl, sym, ap, subst, ◌∙◌}
use mathlib.Core.Logic.{inr}
use mathlib.Core.List.{List, [], ◌∷◌, ◌++◌, map, map-append}
use mathlib.Core.Option.{none, some}
use native.Mathlib.Numerals.{add-one}
use native.Mathlib.Omega.{arith}
use lib.ListN.{length, get_or, take, drop, set, replicate, length-map, length-set}
use lib.Seq.{take-suc, take-suc-set, take-length}
use Rattle.lists.specs.Lists.{count_from, occurrences, Each}
use Rattle.lists.proofs.ListLaws.{each-get_or}
use Rattle.neighbours.specs.Crop.{Binary, Ready}
use Rattle.neighbours.specs.Contour.{contour}
use Rattle.neighbours.proofs.ContourLaws.{length-contour-le}
use Rattle.model.specs.Limits.{max_steps}
use Rattle.model.specs.Refusals.{number, verdict_number, first_refusal, step_checks, mask_of}
use Rattle.model.specs.Refusals.{operation_buffers}
use Rattle.model.specs.Queue.{filled}
use Rattle.model.specs.Words.{packed_words, unpacked_words}
use Rattle.model.specs.Operations.{apply}
use Rattle.model.specs.Calls.{operate, Reply, operation_reply, reply_number, State, lent, with_contour, replies, final}
use Rattle.model.specs.Calls.{SameQueue, Meets}
use Rattle.model.specs.Run.{run_calls, run_start, run_final, run_list, refused_run, run_steps_unless, run_steps}
use Rattle.model.specs.Run.{steps_refusal}
use Rattle.model.specs.Claims.{contour_length}
use Rattle.model.specs.declared.Refusal.{Refusal}
use Rattle.model.specs.declared.Report.{Report}
use Rattle.model.specs.declared.Step.{Step}
use Rattle.model.specs.declared.Start.TheVariants.{Scan}
use Rattle.theorems.proofs.CheckLaws.{first_refusal-append}
use Rattle.theorems.proofs.RefusalLaws.{buffer_checks-iff, step_checks-iff, start_checks-iff, StepPasses}
use Rattle.theorems.proofs.OperationLaws.{apply-binary}
use Rattle.theorems.proofs.QueueLaws.{take-filled, length-filled, same_queue-refl}
use Rattle.theorems.proofs.QueueLaws.{same_queue-with_contour-iff}
use Rattle.theorems.proofs.CallLaws.{with_contour-same, held-accepted, follows, FollowsAll, length-replies}
use Rattle.theorems.proofs.CallLaws.{final-snoc, follows_all-snoc}
use Rattle.theorems.proofs.RunLaws.{RunPasses, each-mask_of, run_start-accepted}
use Rattle.words.specs.Room.{front_rows, InRoom, HeldRows}
use Rattle.operations.specs.Inner.{InHand, Operated}
use Rattle.performing.specs.Inner.{HandsOn, StepReady, RowsStepped}
use Rattle.words.proofs.RoomLaws.{room-same}
use Rattle.words.proofs.OperatedLaws.{clean-packed, unpacked-clean}
use Rattle.performing.proofs.OnWordsLaws.{held-front}
use Rattle.neighbours.proofs.CropLaws.{ready-same}
use Rattle.operations.proofs.HandOnLaws.{HandedOn, handed_on-length, length-handed-on, handed-on}
use Rattle.morphology.proofs.EntryLaws.{operation_checks, done}
use Rattle.model.specs.Answers.{report_reply, replies_in, run_told, no_report, MeetsRun}
use Rattle.std.specs.Prelude.{Result, Ok, Err}
use Rattle.model.specs.declared.RunReport.{RunReport}
use Rattle.theorems.proofs.StepListLaws.{drop-set-replicate}

-- ---- one step

-- a step is not refused, where all steps pass
pub step-checked : (width height : ℕ) (steps : List Step) → Each (StepPasses width height) steps → (k : ℕ)
    (default : Step) → k < length steps →
    first_refusal (step_checks width height (get_or steps k default)) ≡ none
step-checked width height steps each k default below =
    (step_checks-iff width height (get_or steps k default)).1
    (each-get_or (StepPasses width height) steps each k default below)

-- ---- a contour in hand

-- a queue with the contour put into it, but for the order, has the contour in hand
in-hand-with_contour : (width height : ℕ) (image queue queue' : List ℕ) (len : ℕ) →
    len ≡ length (contour width height image) → SameQueue queue' (with_contour width height image queue) →
    InHand width height image queue' len
unfolding with_contour
in-hand-with_contour width height image queue queue' len counted same =
    record {
      counted = counted;
      front = λ i. rw counted (same.front i ∙ ap (occurrences i) (take-filled (contour width height image) queue));
    }

-- an operation keeps the queue's length
pub operated-size : {width height : ℕ} {step : Step} {mask image queue : List ℕ} {report : Report}
    {image' queue' : List ℕ} → Ready width height image queue →
    Operated width height step mask image queue report image' queue' → length queue' ≡ length queue
operated-size {width} {height} {queue = queue} {image' = image'} {queue' = queue'} ready o =
    ((same_queue-with_contour-iff width height image' queue queue' ready.room).0 o.queued).0

-- ---- a run so far

-- the steps as calls, one for each
length-run_calls : (mask : List ℕ) (steps : List Step) → length (run_calls mask steps) ≡ length steps
unfolding run_calls
length-run_calls mask steps = length-map steps _

-- What a run has done, from the model's state at its start: the image and the queue are ready for the next
-- step, with the contour in hand, and all is as the model has it
pub record Running (width height : ℕ) (start : State) (steps : List Step) (mask : List ℕ) (rs : List Reply)
    (image queue : List ℕ) (len : ℕ) : Type 0 where
  pub ready : Ready width height image queue
  pub hand : InHand width height image queue len
  pub follows : FollowsAll width height start (run_calls mask steps) rs image queue
  pub held : len ≡ (final width height start (run_calls mask steps)).held

-- a step that passes is not refused, on an image, a queue and a mask that are ready
step-checks : {width height : ℕ} {image queue mask : List ℕ} (step : Step) → Ready width height image queue →
    Binary width height mask → first_refusal (step_checks width height step) ≡ none →
    first_refusal (operation_checks width height image queue step mask) ≡ none
step-checks {width} {height} {image} {queue} {mask} step ready masked passes =
    let buffers = image ∷ mask_of step mask in
    first_refusal-append (operation_buffers width height image queue step mask) _
    ((buffer_checks-iff width height buffers queue buffers).1
    (record {
      valid = ready.valid;
      sized =
          (ready.binary.pixels, each-mask_of (λ buffer. length buffer ≡ width * height) step mask masked.pixels);
      room = ready.room;
      bits = (ready.binary.bits, each-mask_of (λ buffer. (i : ℕ) → get_or buffer i 0 ≤ 1) step mask masked.bits);
    }))
    ∙ passes

module _ {width height : ℕ} {start : State} {steps : List Step} {mask : List ℕ} {rs : List Reply} {image queue : List ℕ}
    {len : ℕ} (running : Running width height start steps mask rs image queue len) (masked : Binary width height mask)
    {step : Step} (passes : first_refusal (step_checks width height step) ≡ none) where
  module _ {report : Report} {image' queue' : List ℕ}
      (o : Operated width height step mask image queue report image' queue') where
    -- the step, as a call by a scan, meets its contract
    step-meets : Meets width height image queue (operate step mask Scan) (report_reply report) image' queue'
    unfolding report_reply operation_reply
    step-meets =
        done width height image queue step mask Scan (step-checks step running.ready masked passes) report
        ((start_checks-iff width height image queue Scan).1 tt) refl refl o

    -- one step more
    running-step :
        Running width height start (steps ++ step ∷ []) mask (rs ++ report_reply report ∷ []) image' queue'
        report.contour_len
    unfolding run_calls report_reply reply_number contour_length
    running-step =
        let calls = run_calls mask steps in
        let end = final width height start calls in
        let c = operate step mask Scan in
        let before = running.follows in
        let reply = report_reply report in
        let m =
        subst (λ (now : List ℕ). Meets width height now queue c reply image' queue') before.pictured step-meets in
        let last = follows width height queue end before.agrees reply image' queue' c m in
        let replied = sym last.replied in
        let held = held-accepted width height end c tt (ap reply_number replied) ∙ ap contour_length replied in
        let calls-snoc : run_calls mask (steps ++ step ∷ []) ≡ calls ++ c ∷ [] =
        map-append (λ (s : Step). operate s mask Scan) steps (step ∷ []) in
        record {
          ready = record {
            valid = running.ready.valid;
            binary = rw o.pictured (apply-binary width height step mask image running.ready.binary);
            room = omega (arith, running.ready.room, operated-size running.ready o);
          };
          hand = in-hand-with_contour width height image' queue queue' report.contour_len o.lasting o.queued;
          follows = rw calls-snoc (follows_all-snoc width height c before last);
          held = rw calls-snoc (sym (ap (λ (s : State). s.held) (final-snoc width height c start calls) ∙ held));
        }

-- ---- a run over a list

-- What a run has done with the first k steps, each with its report, from the image and the queue
-- as the scan left them. Behind the reports stand those of no step
pub record RunTo (width height : ℕ) (steps : List Step) (image₀ mask queue₀ : List ℕ) (reports : List Report) (k : ℕ)
    (image queue : List ℕ) (len : ℕ) : Type 0 where
  pub few : k ≤ length steps
  pub listed : length reports ≡ max_steps
  pub unused : drop k reports ≡ replicate (max_steps - k) no_report
  pub size : length queue ≡ length queue₀
  pub running : Running width height (with_contour width height image₀ queue₀)
      (take k steps) mask (map report_reply (take k reports)) image queue len

-- it may begin
pub passes-ready : {width height : ℕ} {steps : List Step} {image mask queue : List ℕ} →
    RunPasses width height steps image mask → width * height ≤ length queue → Ready width height image queue
passes-ready passes room = record { valid = passes.valid; binary = passes.binary; room = room }

-- it has begun: a scan found the contour, and zeros stand behind it in the queue
pub run_to-none : {width height : ℕ} (steps : List Step) (mask : List ℕ) {reports : List Report}
    {image queue queue₁ : List ℕ} {len : ℕ} {queue₀ : List ℕ} → reports ≡ replicate max_steps no_report →
    Ready width height image queue →
    HandedOn width height image queue queue₁ len queue₀ →
    RunTo width height steps image mask queue₀ reports 0 image queue₀ len
unfolding count_from run_calls replies final with_contour
run_to-none {width} {height} steps mask {reports} {image} {queue} {queue₁} {len} {queue₀} empty ready on =
    let size = length-handed-on width height image queue queue₁ len queue₀ on in
    let counted = handed_on-length width height image queue queue₁ len queue₀ on in
    let same : SameQueue queue₀ (with_contour width height image queue₀) =
    subst (SameQueue queue₀) (with_contour-same width height image queue queue₀ (sym size))
    (handed-on width height image queue queue₁ len queue₀ on ready.room) in
    record {
      few = omega arith;
      listed = rw empty;
      unused = rw empty;
      size = refl;
      running = record {
        ready = ready-same ready refl size;
        hand = in-hand-with_contour width height image queue₀ queue₀ len counted same;
        follows = record { replied = refl; pictured = refl; agrees = record { same = same; held = inr refl } };
        held = counted;
      };
    }

module _ {width height : ℕ} (steps : List Step) {image₀ mask queue₀ : List ℕ} (reports : List Report) (k : ℕ)
    {image queue : List ℕ} {len : ℕ} (to : RunTo width height steps image₀ mask queue₀ reports k image queue len) where
  -- it goes on with the next step
  pub run_to-suc : (default : Step) {report : Report} {image' queue' : List ℕ} → Binary width height mask →
      k < length steps → k < max_steps →
      first_refusal (step_checks width height (get_or steps k default)) ≡ none →
      Operated width height (get_or steps k default) mask image queue report image' queue' →
      RunTo width height steps image₀ mask queue₀ (set reports k report) (k + 1) image' queue' report.contour_len
  run_to-suc default {report} masked below room passes o =
      record {
        few = omega arith;
        listed = length-set reports k report ∙ to.listed;
        unused = rw add-one (drop-set-replicate reports k max_steps report no_report room to.unused);
        size = operated-size to.running.ready o ∙ to.size;
        running =
            rw (
              add-one,
              take-suc steps k default below,
              take-suc-set reports k report (omega (arith, to.listed)),
              map-append report_reply (take k reports) (report ∷ []),
            )
            (running-step to.running masked passes o);
      }

  -- it is done
  pub run_to-all : {queue₁ queue₂ : List ℕ} {len₂ : ℕ} → RunPasses width height steps image₀ mask →
      width * height ≤ length queue₁ → HandedOn width height image₀ queue₁ queue₂ len₂ queue₀ → length steps ≤ k →
      MeetsRun (run_list width height steps image₀ mask queue₁)
      (Ok (record { reports = reports; count = length steps; contour_len = len })) image mask queue
  unfolding run_list run_final run_told replies_in verdict_number
  run_to-all {queue₁ = queue₁} passes room on last =
      let size = length-handed-on width height image₀ queue₁ _ _ queue₀ on in
      let start : with_contour width height image₀ queue₀ ≡ run_start width height image₀ queue₁ =
      with_contour-same width height image₀ queue₀ queue₁ size
      ∙ sym (run_start-accepted width height steps image₀ mask queue₁ passes room) in
      let all : k ≡ length steps = omega (arith, to.few) in
      let calls = run_calls mask steps in
      let run : Running width height (run_start width height image₀ queue₁) steps mask
      (map report_reply (take (length steps) reports)) image queue len =
      rw (start, all, take-length steps) at to.running in
      record {
        numbered = refl;
        counted =
            sym
            (length-replies width height (run_start width height image₀ queue₁) calls
            ∙ length-run_calls mask steps);
        replied = run.follows.replied;
        behind = rw (← all) to.unused;
        lasting = run.held;
        pictured = run.follows.pictured;
        masked = refl;
        queued = run.follows.agrees.same;
      }

-- ---- a run on packed rows

-- a queue is the model's, but for the order, where it is that of a state whose queue is
same_queue : {queue : List ℕ} (state : State) {state' : State} → SameQueue queue state →
    state.held ≡ state'.held → SameQueue state.queue state' → SameQueue queue state'
same_queue state s e t =
    record {
      size = s.size ∙ t.size;
      front = λ i. (rw e at (s.front i)) ∙ t.front i;
      behind = (rw e at s.behind) ∙ t.behind;
    }

-- the queue that the model has for an image, where `queue` was lent: the image's contour, with zeros behind
abbrev pub model_queue : ℕ → ℕ → List ℕ → List ℕ → List ℕ
model_queue width height queue image = (with_contour width height image queue).queue

-- What a run has done with the first k steps, from the image and the queue as lent: the rows at the front
-- are those of the image that the model has, and image and queue are still as long
pub record RowsRunTo (width height : ℕ) (steps : List Step) (image₀ mask queue₀ : List ℕ)
    (reports : List Report) (k : ℕ) (image queue rows entries : List ℕ) : Type 0 where
  pub run : let now = unpacked_words width height (front_rows width height rows) in
      RunTo width height steps image₀ mask (model_queue width height queue₀ image₀) reports k now
      (model_queue width height queue₀ now) (length (contour width height now))
  pub held : HeldRows width height rows entries
  pub sized : length image ≡ width * height
  pub queue_size : length queue ≡ length queue₀

module _ (width height : ℕ) (queue₀ : List ℕ) (room : width * height ≤ length queue₀) where
  -- it is as long as the queue lent
  length-model_queue : (image : List ℕ) → length (model_queue width height queue₀ image) ≡ length queue₀
  unfolding with_contour
  length-model_queue image =
      length-filled (contour width height image) queue₀
      (omega (arith, length-contour-le width height image, room))

  -- the model holds an image's contour in it
  holds : (image : List ℕ) → (with_contour width height image queue₀).held ≡ length (contour width height image)
  unfolding with_contour
  holds image = refl

  -- the contour is handed on in it
  pub model_queue-on : (image : List ℕ) →
      HandedOn width height image queue₀ (model_queue width height queue₀ image)
      (length (contour width height image))
      (model_queue width height queue₀ image)
  unfolding with_contour filled
  model_queue-on image =
      let positions = contour width height image in
      let size = length-model_queue image in
      let few : length positions ≤ length queue₀ = omega (arith, length-contour-le width height image, room) in
      record {
        size = size;
        within = omega (arith, size, few);
        front = λ i. ap (occurrences i) (take-filled positions queue₀);
        zeros =
            ap (λ (l : List ℕ). l ++ replicate (length queue₀ - length positions) 0)
            (sym (take-filled positions queue₀))
            ∙ ap (λ (n : ℕ). take (length positions) (filled positions queue₀) ++
            replicate (n - length positions) 0)
            (sym size);
      }

  -- a step from rows to rows is the operation on the model's queue
  rows-operated : {step : Step} {mask image : List ℕ} {report : Report} (rows' : List ℕ) →
      RowsStepped width height step mask image report rows' →
      Operated width height step mask image (model_queue width height queue₀ image) report
      (apply width height step mask image) (model_queue width height queue₀ (apply width height step mask image))
  rows-operated {step} {mask} {image} rows' o =
      let after = apply width height step mask image in
      record {
        pictured = refl;
        counted = o.counted;
        least = o.least;
        lasting = o.lasting;
        queued =
            subst (SameQueue (model_queue width height queue₀ after))
            (sym
            (with_contour-same width height after (model_queue width height queue₀ image) queue₀
            (length-model_queue image)))
            (same_queue-refl (with_contour width height after queue₀));
      }

  -- it has begun: the image is packed
  pub rows_to-none : (steps : List Step) (mask : List ℕ) {reports : List Report} {image : List ℕ} (rows : List ℕ)
      {rows₀ entries : List ℕ} → reports ≡ replicate max_steps no_report → Ready width height image queue₀ →
      front_rows width height rows ≡ packed_words width height image → InRoom width height rows₀ entries →
      length rows ≡ length rows₀ →
      RowsRunTo width height steps image mask queue₀ reports 0 image queue₀ rows entries
  rows_to-none steps mask {image = image} rows empty ready packed in_room same =
      let now = unpacked-clean ready.valid ready.binary packed in
      record {
        run = rw now (run_to-none steps mask empty ready (model_queue-on image));
        held = held-front ready.valid ready.binary rows packed in_room same;
        sized = ready.binary.pixels;
        queue_size = refl;
      }

  module _ (steps : List Step) {image₀ mask : List ℕ} (reports : List Report) (k : ℕ)
      {image queue rows entries : List ℕ}
      (to : RowsRunTo width height steps image₀ mask queue₀ reports k image queue rows entries) where
    -- what the next step starts from
    pub rows_to-ready : {step : Step} → Binary width height mask →
        first_refusal (step_checks width height step) ≡ none →
        StepReady width height step image mask queue rows entries
    rows_to-ready masked passes =
        record {
          held = to.held;
          sized = to.sized;
          room = omega (arith, to.queue_size, room);
          passes = passes;
          masked = λ reads. masked;
        }

    -- it goes on with the next step
    pub rows_to-suc : (default : Step) {report : Report} {image' queue' : List ℕ} (rows' : List ℕ)
        {entries' : List ℕ} →
        Binary width height mask → k < length steps → k < max_steps →
        first_refusal (step_checks width height (get_or steps k default)) ≡ none →
        RowsStepped width height (get_or steps k default) mask
        (unpacked_words width height (front_rows width height rows)) report rows' →
        length image' ≡ length image → length queue' ≡ length queue → length rows' ≡ length rows →
        length entries' ≡ length entries →
        RowsRunTo width height steps image₀ mask queue₀ (set reports k report) (k + 1) image' queue' rows'
        entries'
    rows_to-suc default {report} rows' masked below few passes o same_image same_queue same_rows same_entries =
        let step = get_or steps k default in
        let before = unpacked_words width height (front_rows width height rows) in
        let after = apply width height step mask before in
        let valid = to.held.in_room.valid in
        let binary = apply-binary width height step mask before to.run.running.ready.binary in
        let now = unpacked-clean valid binary o.packed in
        let next = run_to-suc steps reports k to.run default masked below few passes
        (rows-operated rows' o) in
        record {
          run = rw (now, ← o.lasting) next;
          held = record {
            in_room = room-same to.held.in_room same_rows same_entries;
            clean = clean-packed valid binary o.packed;
          };
          sized = same_image ∙ to.sized;
          queue_size = same_queue ∙ to.queue_size;
        }

    -- it is done: the image is unpacked and its contour handed on
    pub rows_to-all : {len : ℕ} {image' queue' : List ℕ} →
        RunPasses width height steps image₀ mask → length steps ≤ k →
        HandsOn width height (unpacked_words width height (front_rows width height rows)) queue image' queue' len →
        MeetsRun (run_list width height steps image₀ mask queue₀)
        (Ok (record { reports = reports; count = length steps; contour_len = len }))
        image' mask queue'
    unfolding run_told
    rows_to-all {len} {image'} {queue'} passes last on =
        let now = unpacked_words width height (front_rows width height rows) in
        let model = run_to-all steps reports k to.run passes room (model_queue-on image₀) last in
        let left = with_contour-same width height now queue queue₀ to.queue_size in
        rw on.lasting
        (record {
          numbered = model.numbered;
          counted = model.counted;
          replied = model.replied;
          behind = model.behind;
          lasting = model.lasting;
          pictured = on.pictured ∙ model.pictured;
          masked = model.masked;
          queued =
              same_queue (with_contour width height now queue₀) (subst (SameQueue queue') left on.queued)
              (holds now ∙ model.lasting) model.queued;
        })

-- ---- a run that may be refused

-- it is: nothing has changed
pub refused_run-meets : {r : Refusal} (o : Refusal) (image mask queue : List ℕ) {reply : Result RunReport Refusal} →
    reply ≡ Err r → number o ≡ number r → MeetsRun (refused_run o image mask queue) reply image mask queue
unfolding refused_run verdict_number replies_in run_told
refused_run-meets o image mask queue e numbered =
    rw e
    (record {
      numbered = sym numbered;
      counted = refl;
      replied = refl;
      behind = refl;
      lasting = refl;
      pictured = refl;
      masked = refl;
      queued = same_queue-refl (lent image queue);
    })

module _ (width height : ℕ) (steps : List Step) (image mask queue : List ℕ) where
  -- steps in hand are refused
  pub refused-meets : {r : Refusal} {reply : Result RunReport Refusal} →
      steps_refusal width height steps image mask queue ≡ some r → reply ≡ Err r →
      MeetsRun (run_steps width height steps image mask queue) reply image mask queue
  unfolding run_steps run_steps_unless
  refused-meets {r = r} refused e = rw refused (refused_run-meets r image mask queue e refl)

  -- they are not
  pub accepted-meets : {reply : Result RunReport Refusal} {image' mask' queue' : List ℕ} →
      steps_refusal width height steps image mask queue ≡ none →
      MeetsRun (run_list width height steps image mask queue) reply image' mask' queue' →
      MeetsRun (run_steps width height steps image mask queue) reply image' mask' queue'
  unfolding run_steps run_steps_unless
  accepted-meets e m = rw e m
