-- How an operation begins. Assumes nothing.
--   right-scan, right-contour, right-wrong   whether a start is right, and what it is where it is not
--   scanned-in-hand, scanned-fits   a scan takes the contour in hand; how many positions it finds
--   right-in-hand, scanned-right    a contour handed in that is right is in hand; one that stands row by row is right
--   runnable-prepared           what an operation by the queue engine starts from
--   operated-queue              the same operation with another queue that is as long
--   performed-kept              an operation is done where its start is right
--   accepted-prepared           what an operation starts from where the contour handed in is right
use Prim.Native.Nat.{ℕ, ◌*◌, ◌≤◌}
use mathlib.Core.Path.{◌≡◌, refl, sym, ap, subst, ◌∙◌}
use mathlib.Core.Bool.{Bool, true, false, not}
use mathlib.Core.Logic.{◌↔◌}
use mathlib.Core.List.{List, [], ◌∷◌}
use mathlib.Core.Option.{none, some}
use native.Mathlib.Omega.{arith}
use lib.ListN.{length, take}
use Rattle.neighbours.specs.Limits.{max_pixels}
use Rattle.lists.specs.Lists.{occurrences}
use Rattle.lists.proofs.BoolLaws.{not-both}
use Rattle.neighbours.specs.Crop.{Extended, Ready}
use Rattle.neighbours.specs.Contour.{contour}
use Rattle.neighbours.proofs.CropLaws.{ready-same}
use Rattle.neighbours.proofs.ContourLaws.{length-contour-le}
use Rattle.neighbours.proofs.PositionLaws.{size-le}
use Rattle.model.specs.Refusals.{refuse_if, first_refusal, start_checks, is_contour}
use Rattle.model.specs.Calls.{SameQueue}
use Rattle.model.specs.declared.Refusal.{Refusal}
use Rattle.model.specs.declared.Refusal.TheVariants.{WrongContour}
use Rattle.model.specs.declared.Step.{Step}
use Rattle.model.specs.declared.Report.{Report}
use Rattle.std.specs.Prelude.{Ok}
use Rattle.model.specs.declared.Start.{Start}
use Rattle.model.specs.declared.Start.TheVariants.{Scan, Contour}
use Rattle.theorems.proofs.RefusalLaws.{start_checks-iff, is_contour-iff}
use Rattle.theorems.proofs.QueueLaws.{is_contour-length}
use Rattle.theorems.proofs.CallLaws.{with_contour-same}
use Rattle.operations.specs.Inner.{InHand, Prepared, Operated}
use Rattle.performing.specs.Inner.{Accepted, Runnable, Performed}

-- ---- the row "contour handed in"

-- a check that does not pass answers its refusal
refuse_if-wrong : (t : Bool) (r : Refusal) → (first_refusal (refuse_if t r ∷ []) ≡ none → ⊥) →
    first_refusal (refuse_if t r ∷ []) ≡ some r
unfolding refuse_if first_refusal
refuse_if-wrong true r h = refl
refuse_if-wrong false r h = absurd (h refl)

-- a start that is not right is a wrong contour
start-wrong : (width height : ℕ) (image queue : List ℕ) (start : Start) →
    (first_refusal (start_checks width height image queue start) ≡ none → ⊥) →
    first_refusal (start_checks width height image queue start) ≡ some WrongContour
unfolding start_checks first_refusal
start-wrong width height image queue Scan h = absurd (h refl)
start-wrong width height image queue (Contour n) h =
    refuse_if-wrong (not (is_contour width height image queue n)) WrongContour h

module _ (width height : ℕ) (image queue : List ℕ) (start : Start) where
  -- an answer whether the start is right
  abbrev pub IsRight : Bool → Type 0
  IsRight answer = (answer ≡ true) ↔ (first_refusal (start_checks width height image queue start) ≡ none)

  -- a scan is right
  pub right-scan : start ≡ Scan → IsRight true
  right-scan e = (λ t. (start_checks-iff width height image queue start).1 (rw e tt), λ passes. refl)

  -- a contour handed in is right where it is exactly the image's
  pub right-contour : {n : ℕ} {answer : Bool} → start ≡ Contour n →
      answer ≡ is_contour width height image queue n → IsRight answer
  right-contour e same =
      let row = start_checks-iff width height image queue start in
      (λ t. row.1 (rw e (sym same ∙ t)), λ passes. same ∙ rw e at (row.0 passes))

  -- a start that is not right is a wrong contour
  pub right-wrong : {answer : Bool} → IsRight answer → answer ≡ false →
      first_refusal (start_checks width height image queue start) ≡ some WrongContour
  right-wrong right wrong = start-wrong width height image queue start (λ passes. not-both (right.1 passes) wrong)

-- ---- how an operation begins

module _ (width height : ℕ) (image queue : List ℕ) where
  -- a scan takes the contour in hand
  pub scanned-in-hand : {queue' : List ℕ} {len : ℕ} →
      Extended queue 0 (contour width height image) queue' len →
      (length queue' ≡ length queue) × InHand width height image queue' len
  scanned-in-hand found =
      (found.size, record { counted = omega (arith, found.counted); front = λ i. ap (occurrences i) found.front })

  -- as many positions as the contour has fit the queue, and a count
  pub scanned-fits : {queue' : List ℕ} {len : ℕ} → Ready width height image queue →
      Extended queue 0 (contour width height image) queue' len → (len ≤ length queue') × (len ≤ max_pixels)
  scanned-fits {len = len} r found =
      let hand = scanned-in-hand {len = len} found in
      let most : len ≤ width * height = omega (arith, hand.1.counted, length-contour-le width height image) in
      (omega (arith, hand.0, r.room), omega (arith, size-le r.valid))

  -- a contour handed in that is right is in hand
  pub right-in-hand : {start : Start} {len : ℕ} → start ≡ Contour len →
      first_refusal (start_checks width height image queue start) ≡ none → InHand width height image queue len
  right-in-hand {start} {len} e right =
      let exact : is_contour width height image queue len ≡ true =
      rw e at ((start_checks-iff width height image queue start).0 right) in
      record {
        counted = is_contour-length width height image queue len exact;
        front = ((is_contour-iff width height image queue len).0 exact).1;
      }

  -- one that stands row by row is right
  pub scanned-right : {len : ℕ} → len ≤ length queue → take len queue ≡ contour width height image →
      is_contour width height image queue len ≡ true
  scanned-right {len} within same =
      (is_contour-iff width height image queue len).1 (within, λ i. ap (occurrences i) same)

-- what an operation by the queue engine starts from, where the contour is in hand in a queue as long
pub runnable-prepared : {width height : ℕ} {step : Step} {image mask queue : List ℕ} {start : Start}
    {rows entries queue' : List ℕ} {len : ℕ} →
    Runnable width height step image mask queue start rows entries →
    length queue' ≡ length queue → InHand width height image queue' len →
    Prepared width height step image queue' len
runnable-prepared r size hand =
    record {
      ready = ready-same r.call.accepted.ready refl size;
      passes = r.call.accepted.passes;
      hand = hand;
    }

-- an operation does the same with the contour in hand in another queue that is as long
pub operated-queue : {width height : ℕ} {step : Step} {mask image queue queue₁ : List ℕ} {report : Report}
    {image' queue' : List ℕ} → length queue₁ ≡ length queue →
    Operated width height step mask image queue₁ report image' queue' →
    Operated width height step mask image queue report image' queue'
operated-queue {width} {height} {queue = queue} {queue₁ = queue₁} {image' = image'} {queue' = queue'}
    size o =
    record {
      pictured = o.pictured;
      counted = o.counted;
      least = o.least;
      lasting = o.lasting;
      queued = subst (SameQueue queue') (with_contour-same width height image' queue₁ queue size) o.queued;
    }

-- an operation is done where its start is right, and the image is as it was
pub performed-kept : {width height : ℕ} {step : Step} {mask image image₁ queue : List ℕ} (start : Start)
    {report : Report} {image' queue' : List ℕ} →
    first_refusal (start_checks width height image queue start) ≡ none →
    image₁ ≡ image → Operated width height step mask image₁ queue report image' queue' →
    Performed width height step mask image queue start (Ok report) image' queue'
unfolding Performed
performed-kept start right kept o = (right, rw kept at o)

-- a call from a contour that is right starts from it in hand
pub accepted-prepared : {width height : ℕ} {step : Step} {image mask queue image₁ : List ℕ} {len : ℕ} →
    Accepted width height step image mask queue → image₁ ≡ image →
    is_contour width height image queue len ≡ true → Prepared width height step image₁ queue len
accepted-prepared {width} {height} {step} {image} {mask} {queue} {image₁} {len} a kept exact =
    record {
      ready = ready-same a.ready kept refl;
      passes = a.passes;
      hand =
          rw kept
          (right-in-hand width height image queue refl
          ((start_checks-iff width height image queue (Contour len)).1 exact));
    }
