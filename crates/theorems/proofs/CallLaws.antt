-- Laws of a call, and of a list of calls (`specs/Calls.antt`).
--   meets-as                 `Meets`, from the model's outcome
--   reply_number-operate, reply_number-scan   the number of a reply is that of the refusal
--   operation-accepted, operation-refused   what an operation or a scan leaves
--   held-accepted            the model then holds as many positions as the reply reports
--   label_same               labelling's reply goes by the image and the queue's length
--   Agrees                   a caller's queue is the model's but for its contour's order
--   follows, follows_all      a call, or a list of calls, that meets its contract answers as the model does,
--                            and its queue agrees again
--   length-replies           as many replies as calls
--   replies-snoc, final-snoc, follows_all-snoc   one more call behind a list of calls
--   refused-keep             refused operations leave the image and the queue
--   operation-done           what an operation that is not refused had before it, and what it left and replied
-- Assumes nothing.
use Prim.Native.Nat.{ℕ, suc, ◌*◌, ◌≤◌}
use mathlib.Core.Path.{◌≡◌, refl, sym, ap, ap₂, subst, ◌∙◌}
use mathlib.Core.Bool.{true}
use mathlib.Core.Logic.{◌⊎◌, inl, inr}
use mathlib.Core.List.{List, [], ◌∷◌, ◌++◌}
use mathlib.Core.Option.{Option, none, some}
use native.Mathlib.Omega.{arith}
use lib.ListN.{length, take, drop}
use Rattle.lists.specs.Lists.{occurrences, Each}
use Rattle.lists.proofs.BoolLaws.{bool_same}
use Rattle.neighbours.specs.Contour.{contour}
use Rattle.neighbours.specs.Crop.{Binary}
use Rattle.model.specs.Refusals.{buffer_checks, is_contour, start_checks, mask_of, scan_refusal, operation_refusal}
use Rattle.model.specs.Refusals.{label_refusal}
use Rattle.model.specs.Queue.{filled}
use Rattle.model.specs.Calls.{Call, operate, label, scan, Reply, operated, reply_number, State, Outcome, lent}
use Rattle.model.specs.Calls.{with_contour}
use Rattle.model.specs.Calls.{operate_unless, scan_unless}
use Rattle.model.specs.Calls.{label_unless, call, replies, final, SameQueue, Meets}
use Rattle.model.specs.Operations.{apply, changed, used}
use Rattle.model.specs.Labelling.{Labels, components, holes}
use Rattle.model.specs.Claims.{MeetAll, done, next, IsOperation, IsAccepted, IsRefused, contour_length}
use Rattle.model.specs.declared.Refusal.{Refusal}
use Rattle.model.specs.declared.Step.{Step}
use Rattle.model.specs.declared.Start.{Start}
use Rattle.model.specs.declared.Start.TheVariants.{Scan, Contour}
use Rattle.theorems.proofs.RefusalLaws.{number_of, number_of-zero, is_contour-iff, scan_refusal-iff}
use Rattle.theorems.proofs.RefusalLaws.{StepPasses, operation_refusal-iff}
use Rattle.theorems.proofs.QueueLaws.{is_contour-length, same_queue-refl, same_queue-lent}

-- ---- what a call leaves

-- the contour put into a queue goes by the queue's length
pub with_contour-same : (width height : ℕ) (image queue queue' : List ℕ) → length queue ≡ length queue' →
    with_contour width height image queue ≡ with_contour width height image queue'
unfolding with_contour filled
with_contour-same width height image queue queue' e = rw e

-- a call meets its contract where the model's outcome is known
pub meets-as : {width height : ℕ} {image queue : List ℕ} {c : Call} {reply : Reply} {image' queue' : List ℕ}
    (outcome : Outcome) → call width height (lent image queue) c ≡ outcome → reply ≡ outcome.reply →
    image' ≡ outcome.state.image → SameQueue queue' outcome.state →
    Meets width height image queue c reply image' queue'
meets-as outcome e replied pictured queued =
    record { replied = rw e replied; pictured = rw e pictured; queued = rw e queued }

-- an operation or a scan that is not refused: the image after it, with its contour in a queue that has room
pub record Accepted (width height : ℕ) (state : State) (outcome : Outcome) : Type 0 where
  pub after : List ℕ
  pub room : width * height ≤ length state.queue
  pub left : outcome.state ≡ with_contour width height after state.queue
  pub counted : contour_length outcome.reply ≡ length (contour width height after)

module _ (width height : ℕ) (state : State) where
  -- the number of an operation's reply, and of a scan's, is that of its refusal
  pub reply_number-operate : (o : Option Refusal) (step : Step) (mask : List ℕ) →
      reply_number (operate_unless width height o state step mask).reply ≡ number_of o
  unfolding operate_unless reply_number
  reply_number-operate none step mask = refl
  reply_number-operate (some refusal) step mask = refl

  pub reply_number-scan : (o : Option Refusal) → reply_number (scan_unless width height o state).reply ≡ number_of o
  unfolding scan_unless reply_number
  reply_number-scan none = refl
  reply_number-scan (some refusal) = refl

  -- an operation that is not refused leaves an image with its contour in the queue
  pub operation-accepted : (c : Call) → IsOperation c → IsAccepted (call width height state c).reply →
      Accepted width height state (call width height state c)
  unfolding call operate_unless scan_unless contour_length
  operation-accepted (operate step mask start) o e =
      let refusal = operation_refusal width height state.image state.queue step mask start in
      let passes = number_of-zero refusal (sym (reply_number-operate refusal step mask) ∙ e) in
      subst (λ (o : Option Refusal). Accepted width height state (operate_unless width height o state step mask))
      (sym passes)
      (record {
        after = apply width height step mask state.image;
        room = ((operation_refusal-iff width height state.image state.queue step mask start).0 passes).0.room;
        left = refl;
        counted = refl;
      })
  operation-accepted (label connectivity component_labels hole_labels records) o e = absurd o
  operation-accepted scan o e =
      let refusal = scan_refusal width height state.image state.queue in
      let passes = number_of-zero refusal (sym (reply_number-scan refusal) ∙ e) in
      subst (λ (o : Option Refusal). Accepted width height state (scan_unless width height o state)) (sym passes)
      (record {
        after = state.image;
        room = ((scan_refusal-iff width height state.image state.queue).0 passes).room;
        left = refl;
        counted = refl;
      })

  -- and holds as many positions as its reply reports
  pub held-accepted : (c : Call) → IsOperation c → IsAccepted (call width height state c).reply →
      (call width height state c).state.held ≡ contour_length (call width height state c).reply
  unfolding with_contour
  held-accepted c o e =
      let a = operation-accepted c o e in
      ap (λ (after : State). after.held) a.left ∙ sym a.counted

  -- one that is refused leaves everything
  operate_unless-refused : (o : Option Refusal) (step : Step) (mask : List ℕ) →
      IsRefused (operate_unless width height o state step mask).reply →
      (operate_unless width height o state step mask).state ≡ state
  unfolding operate_unless reply_number
  operate_unless-refused (some refusal) step mask e = refl
  operate_unless-refused none step mask e = absurd (e refl)

  scan_unless-refused : (o : Option Refusal) → IsRefused (scan_unless width height o state).reply →
      (scan_unless width height o state).state ≡ state
  unfolding scan_unless reply_number
  scan_unless-refused (some refusal) e = refl
  scan_unless-refused none e = absurd (e refl)

  pub operation-refused : (c : Call) → IsOperation c → IsRefused (call width height state c).reply →
      (call width height state c).state ≡ state
  unfolding call
  operation-refused (operate step mask start) o e =
      operate_unless-refused (operation_refusal width height state.image state.queue step mask start) step mask e
  operation-refused (label connectivity component_labels hole_labels records) o e = absurd o
  operation-refused scan o e = scan_unless-refused (scan_refusal width height state.image state.queue) e

-- ---- refusals do not see the order of a contour

-- the buffers' row goes by the queue's length
buffer_checks-same : (width height : ℕ) (buffers : List (List ℕ)) (queue queue' : List ℕ) (pixels : List (List ℕ)) →
    length queue ≡ length queue' →
    buffer_checks width height buffers queue pixels ≡ buffer_checks width height buffers queue' pixels
unfolding buffer_checks
buffer_checks-same width height buffers queue queue' pixels e = rw e

-- a contour handed in passes in a queue with the same front in another order
is_contour-reordered : (width height : ℕ) (image queue queue' : List ℕ) (n : ℕ) → length queue ≡ length queue' →
    (n ≡ length (contour width height image) → (i : ℕ) → occurrences i (take n queue') ≡ occurrences i (take n queue)) →
    is_contour width height image queue n ≡ true → is_contour width height image queue' n ≡ true
is_contour-reordered width height image queue queue' n size reordered e =
    let h = (is_contour-iff width height image queue n).0 e in
    (is_contour-iff width height image queue' n).1
    (omega (arith, h.0), λ i. reordered (is_contour-length width height image queue n e) i ∙ h.1 i)

-- A queue as lent to a call against what the model keeps as it begins: the same but for the order at the
-- front, where nothing is held or the contour of the image
pub record Agrees (width height : ℕ) (queue : List ℕ) (state : State) : Type 0 where
  pub same : SameQueue queue state
  pub held : (state.held ≡ 0) ⊎ (state.held ≡ length (contour width height state.image))

module _ (width height : ℕ) (queue : List ℕ) (state : State) (agrees : Agrees width height queue state) where
  -- as many entries at the front as the contour has are the same but for the order
  occurrences-agree : (n : ℕ) → n ≡ length (contour width height state.image) → (i : ℕ) →
      occurrences i (take n queue) ≡ occurrences i (take n state.queue)
  occurrences-agree n e i = go agrees.held
    where
      go : (state.held ≡ 0) ⊎ (state.held ≡ length (contour width height state.image)) →
          occurrences i (take n queue) ≡ occurrences i (take n state.queue)
      go (inl z) =
          let equal : queue ≡ state.queue =
          subst (λ (k : ℕ). drop k queue ≡ drop k state.queue) z agrees.same.behind in
          ap (λ (l : List ℕ). occurrences i (take n l)) equal
      go (inr h) =
          subst (λ (k : ℕ). occurrences i (take k queue) ≡ occurrences i (take k state.queue)) (h ∙ sym e)
          (agrees.same.front i)

  -- so a contour handed in passes in both or in neither
  is_contour-agrees : (n : ℕ) →
      is_contour width height state.image queue n ≡ is_contour width height state.image state.queue n
  is_contour-agrees n =
      let image = state.image in
      bool_same (is_contour width height image queue n) (is_contour width height image state.queue n)
      (is_contour-reordered width height image queue state.queue n
      agrees.same.size (λ e i. sym (occurrences-agree n e i)))
      (is_contour-reordered width height image state.queue queue n (sym agrees.same.size) (occurrences-agree n))

  -- and an operation is refused alike
  operation_refusal-agrees : (step : Step) (mask : List ℕ) (start : Start) →
      operation_refusal width height state.image queue step mask start
      ≡ operation_refusal width height state.image state.queue step mask start
  unfolding operation_refusal start_checks
  operation_refusal-agrees step mask Scan =
      rw (buffer_checks-same width height _ queue state.queue _ agrees.same.size)
  operation_refusal-agrees step mask (Contour n) =
      rw (buffer_checks-same width height _ queue state.queue _ agrees.same.size, is_contour-agrees n)

-- a scan's refusal goes by the queue's length
scan_refusal-same : (width height : ℕ) (image queue queue' : List ℕ) → length queue ≡ length queue' →
    scan_refusal width height image queue ≡ scan_refusal width height image queue'
unfolding scan_refusal
scan_refusal-same width height image queue queue' e = rw (buffer_checks-same width height _ queue queue' _ e)

-- so does labelling's
label_refusal-same : (width height : ℕ) (image queue queue' : List ℕ)
    (connectivity : ℕ) (component_labels hole_labels : List ℕ) →
    length queue ≡ length queue' →
    label_refusal width height image queue connectivity component_labels hole_labels
    ≡ label_refusal width height image queue' connectivity component_labels hole_labels
unfolding label_refusal
label_refusal-same width height image queue queue' connectivity component_labels hole_labels e =
    rw (buffer_checks-same width height _ queue queue' _ e)

-- its reply goes by that, the components and the holes
pub label_unless-same : (width height : ℕ) (o : Option Refusal) (state state' : State) (cs hs : Labels)
    (component_labels hole_labels records : List ℕ) →
    (label_unless width height o state cs hs component_labels hole_labels records).reply
    ≡ (label_unless width height o state' cs hs component_labels hole_labels records).reply
unfolding label_unless
label_unless-same width height (some refusal) state state' cs hs component_labels hole_labels records = refl
label_unless-same width height none state state' cs hs component_labels hole_labels records = refl

-- and so by the image and the queue's length
pub label_same : (width height : ℕ) (state state' : State)
    (connectivity : ℕ) (component_labels hole_labels records : List ℕ) →
    state.image ≡ state'.image → length state.queue ≡ length state'.queue →
    (call width height state (label connectivity component_labels hole_labels records)).reply
    ≡ (call width height state' (label connectivity component_labels hole_labels records)).reply
unfolding call
label_same width height state state' connectivity component_labels hole_labels records e size =
    let answer : List ℕ → Option Refusal → Reply =
    λ image o.
    (label_unless width height o state' (components width height connectivity image)
    (holes width height connectivity image) component_labels hole_labels records).reply in
    label_unless-same width height _ state state' _ _ component_labels hole_labels records
    ∙ ap (λ (image : List ℕ).
    answer image (label_refusal width height image state.queue connectivity component_labels hole_labels)) e
    ∙ ap (answer state'.image)
    (label_refusal-same width height state'.image state.queue
    state'.queue connectivity component_labels hole_labels size)

-- ---- one call against the model

-- What a call leaves against what the model does: the same reply and image, and a queue that agrees
pub record Follows (width height : ℕ) (reply : Reply) (image' queue' : List ℕ) (outcome : Outcome) : Type 0 where
  pub replied : reply ≡ outcome.reply
  pub pictured : image' ≡ outcome.state.image
  pub agrees : Agrees width height queue' outcome.state

module _ (width height : ℕ) (queue : List ℕ) (state : State) (agrees : Agrees width height queue state)
    (reply : Reply) (image' queue' : List ℕ) where
  -- what f leaves of the image and the queue as lent follows what it does to the model's
  abbrev Carries : (State → Outcome) → Type 0
  Carries f =
      reply ≡ (f (lent state.image queue)).reply → image' ≡ (f (lent state.image queue)).state.image →
      SameQueue queue' (f (lent state.image queue)).state → Follows width height reply image' queue' (f state)

  -- a queue that is as it was still agrees
  agrees-kept : SameQueue queue' (lent state.image queue) → Agrees width height queue' state
  agrees-kept s = subst (λ (l : List ℕ). Agrees width height l state) (sym (same_queue-lent s)) agrees

  -- one with the contour put into it agrees again
  agrees-filled : (after : List ℕ) → SameQueue queue' (with_contour width height after queue) →
      Agrees width height queue' (with_contour width height after state.queue)
  unfolding with_contour
  agrees-filled after s =
      record {
        same = subst (SameQueue queue')
            (with_contour-same width height after queue state.queue agrees.same.size) s;
        held = inr refl;
      }

  -- each call, by its refusal or none
  follows-operate : (o : Option Refusal) (step : Step) (mask : List ℕ) →
      Carries (λ s. operate_unless width height o s step mask)
  unfolding operate_unless with_contour
  follows-operate (some refusal) step mask r p q = record { replied = r; pictured = p; agrees = agrees-kept q }
  follows-operate none step mask r p q =
      record { replied = r; pictured = p; agrees = agrees-filled (apply width height step mask state.image) q }

  follows-scan : (o : Option Refusal) → Carries (scan_unless width height o)
  unfolding scan_unless with_contour
  follows-scan (some refusal) r p q = record { replied = r; pictured = p; agrees = agrees-kept q }
  follows-scan none r p q = record { replied = r; pictured = p; agrees = agrees-filled state.image q }

  follows-label : (o : Option Refusal) (cs hs : Labels) (component_labels hole_labels records : List ℕ) →
      Carries (λ s. label_unless width height o s cs hs component_labels hole_labels records)
  unfolding label_unless
  follows-label (some refusal) cs hs component_labels hole_labels records r p q =
      record { replied = r; pictured = p; agrees = agrees-kept q }
  follows-label none cs hs component_labels hole_labels records r p q =
      record { replied = r; pictured = p; agrees = record { same = rw (← agrees.same.size) q; held = inl refl } }

  -- a call that meets its contract answers as the model does, and its queue agrees again
  pub follows : (c : Call) → Meets width height state.image queue c reply image' queue' →
      Follows width height reply image' queue' (call width height state c)
  unfolding call
  follows (operate step mask start) m =
      rw (← (operation_refusal-agrees width height queue state agrees step mask start))
      (follows-operate (operation_refusal width height state.image queue step mask start) step mask
      m.replied m.pictured m.queued)
  follows (label connectivity component_labels hole_labels records) m =
      let size = agrees.same.size in
      rw (← (label_refusal-same width height state.image queue
      state.queue connectivity component_labels hole_labels size))
      (follows-label (label_refusal width height state.image queue connectivity component_labels hole_labels)
      (components width height connectivity state.image) (holes width height connectivity state.image)
      component_labels hole_labels records m.replied m.pictured m.queued)
  follows scan m =
      rw (← (scan_refusal-same width height state.image queue state.queue agrees.same.size))
      (follows-scan (scan_refusal width height state.image queue) m.replied m.pictured m.queued)

-- ---- a list of calls against the model

-- the image and the queue as first lent
pub agrees-lent : (width height : ℕ) (image queue : List ℕ) → Agrees width height queue (lent image queue)
agrees-lent width height image queue = record { same = same_queue-refl (lent image queue); held = inl refl }

-- what a list of calls leaves against what the model does from a state
pub record FollowsAll (width height : ℕ) (state : State)
    (cs : List Call) (rs : List Reply) (image' queue' : List ℕ) : Type 0 where
  pub replied : rs ≡ replies width height state cs
  pub pictured : image' ≡ (final width height state cs).image
  pub agrees : Agrees width height queue' (final width height state cs)

-- calls that each meet their contract, from an image and a queue that agree with what the model keeps
pub follows_all : (width height : ℕ) {image queue image' queue' : List ℕ} {cs : List Call} {rs : List Reply} →
    MeetAll width height image queue cs rs image' queue' → (state : State) → image ≡ state.image →
    Agrees width height queue state →
    FollowsAll width height state cs rs image' queue'
unfolding replies final
follows_all width height done state e a = record { replied = refl; pictured = e; agrees = a }
follows_all width height (next {queue} {image'} {queue'} {c} {r} m ms) state e a =
    let m' = subst (λ (l : List ℕ). Meets width height l queue c r image' queue') e m in
    let first = follows width height queue state a r image' queue' c m' in
    let rest = follows_all width height ms (call width height state c).state first.pictured first.agrees in
    record { replied = ap₂ ◌∷◌ first.replied rest.replied; pictured = rest.pictured; agrees = rest.agrees }

-- as many replies as calls
pub length-replies : (width height : ℕ) (state : State) (cs : List Call) →
    length (replies width height state cs) ≡ length cs
unfolding replies
length-replies width height state [] = refl
length-replies width height state (c ∷ cs) = ap suc (length-replies width height (call width height state c).state cs)

-- one more call behind a list of calls
module _ (width height : ℕ) (c : Call) where
  pub replies-snoc : (state : State) (cs : List Call) →
      replies width height state (cs ++ c ∷ [])
      ≡ replies width height state cs ++ (call width height (final width height state cs) c).reply ∷ []
  unfolding replies final
  replies-snoc state [] = refl
  replies-snoc state (first ∷ cs) =
      let outcome = call width height state first in
      ap (λ (rs : List Reply). outcome.reply ∷ rs) (replies-snoc outcome.state cs)

  pub final-snoc : (state : State) (cs : List Call) →
      final width height state (cs ++ c ∷ []) ≡ (call width height (final width height state cs) c).state
  unfolding final
  final-snoc state [] = refl
  final-snoc state (first ∷ cs) = final-snoc (call width height state first).state cs

  pub follows_all-snoc : {state : State} {cs : List Call} {rs : List Reply}
      {image queue : List ℕ} {r : Reply} {image' queue' : List ℕ} →
      FollowsAll width height state cs rs image queue →
      Follows width height r image' queue' (call width height (final width height state cs) c) →
      FollowsAll width height state (cs ++ c ∷ []) (rs ++ r ∷ []) image' queue'
  follows_all-snoc {state} {cs} {queue' = queue'} f last =
      let end = sym (final-snoc state cs) in
      record {
        replied =
            ap₂ (λ (rs : List Reply) (r : Reply). rs ++ r ∷ []) f.replied last.replied
            ∙ sym (replies-snoc state cs);
        pictured = last.pictured ∙ ap (λ (s : State). s.image) end;
        agrees = subst (Agrees width height queue') end last.agrees;
      }

-- refused operations leave the image and the queue
pub refused-keep : (width height : ℕ) {image queue image' queue' : List ℕ} {cs : List Call} {rs : List Reply} →
    MeetAll width height image queue cs rs image' queue' → Each IsOperation cs → Each IsRefused rs →
    (image' ≡ image) × (queue' ≡ queue)
refused-keep width height done os es = (refl, refl)
refused-keep width height (next {image} {queue} {c} m ms) os es =
    let rest = refused-keep width height ms os.1 es.1 in
    let kept = operation-refused width height (lent image queue) c
    os.0 (λ e. es.0 (ap reply_number m.replied ∙ e)) in (
      rest.0 ∙ m.pictured ∙ ap (λ (state : State). state.image) kept,
      rest.1 ∙ same_queue-lent (subst (SameQueue _) kept m.queued),
    )

-- ---- an operation that is not refused

-- what an operation that is not refused had before it, and what it left and replied
pub record OperationDone (width height : ℕ) (step : Step) (mask image : List ℕ) (r : Reply)
    (image' : List ℕ) : Type 0 where
  pub binary : Binary width height image
  pub passes : StepPasses width height step
  pub pictured : image' ≡ apply width height step mask image
  pub replied : r
      ≡ operated 0 (changed width height image image') (used width height step mask image)
      (length (contour width height image'))

pub operation-done : {width height : ℕ} {image mask queue image' queue' : List ℕ} {start : Start} {step : Step}
    {r : Reply} →
    Meets width height image queue (operate step mask start) r image' queue' → IsAccepted r →
    OperationDone width height step mask image r image'
unfolding call operate_unless with_contour mask_of
operation-done {width} {height} {image} {mask} {queue} {image'} {queue'} {start} {step} {r} m ok =
    let refusal = operation_refusal width height image queue step mask start in
    let none = number_of-zero refusal
    (sym (reply_number-operate width height (lent image queue) refusal step mask)
    ∙ ap reply_number (sym m.replied) ∙ ok) in
    let (buffers, passes, _) = (operation_refusal-iff width height image queue step mask start).0 none in
    let pictured = rw none at m.pictured in
    record {
      binary = record { pixels = buffers.sized.0; bits = buffers.bits.0 };
      passes = passes;
      pictured = pictured;
      replied = rw pictured (rw none at m.replied);
    }
