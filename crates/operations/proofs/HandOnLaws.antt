-- How an operation hands the contour on: at the queue's front, with zeros behind. Assumes nothing.
--   HandedOn       what an operation's last steps leave in the queue
--   handed-on      it is the contour put into the queue, but for the order, and so long
--   kept-handed-on the same where it is what of a stretch is on the contour
--   changed-fits, contour-fits    the numbers that an operation reports fit 32 bits
use Prim.Native.Nat.{ℕ, ◌-◌, ◌*◌, ◌≤◌, ◌<◌}
use mathlib.Core.Path.{◌≡◌, sym, ap, ◌∙◌, refl}
use mathlib.Core.Bool.{Bool, true}
use mathlib.Core.List.{List, ◌++◌}
use native.Mathlib.Omega.{arith}
use lib.ListN.{length, take, drop, replicate, length-append, length-replicate}
use lib.Seq.{take_at, drop_at, length-take-le}
use Rattle.neighbours.specs.Limits.{max_pixels}
use Rattle.lists.specs.Lists.{select, occurrences, bit}
use Rattle.lists.proofs.BoolLaws.{by-test, by-lt}
use Rattle.lists.proofs.ListLaws.{length-select-le, length-same-occurrences, occurrences-select-true}
use Rattle.lists.proofs.ListLaws.{occurrences-select-false}
use Rattle.neighbours.specs.Contour.{on_contour, contour}
use Rattle.neighbours.specs.Crop.{ValidSize, Appended, Extended, Ready}
use Rattle.neighbours.proofs.PositionLaws.{size-le}
use Rattle.neighbours.proofs.ContourLaws.{occurrences-contour, occurrences-contour-out, length-contour-le}
use Rattle.neighbours.proofs.AppendedLaws.{length-appended, take-appended}
use Rattle.model.specs.Calls.{SameQueue, with_contour}
use Rattle.model.specs.declared.Step.{Step}
use Rattle.model.specs.declared.Report.{Report}
use Rattle.theorems.proofs.OperationLaws.{changed-le, changed-zero-iff}
use Rattle.theorems.proofs.QueueLaws.{holds_contour-iff, same_queue-with_contour-iff}
use Rattle.theorems.proofs.RefusalLaws.{is_contour-iff}
use Rattle.operations.specs.Inner.{Operated, InHand}
use Rattle.model.specs.Operations.{apply, used}
use Rattle.operations.proofs.OpenLaws.{hand-within}

--   scan-handed-on       the same where a scan finds it
--   unchanged-operated   an operation that changes nothing hands on the contour in hand
-- `len` positions stand at the front of queue₁, which is as long as the queue, each position of the
-- image's contour as often as there; queue' is queue₁ with zeros behind them
pub record HandedOn (width height : ℕ) (image queue queue₁ : List ℕ) (len : ℕ) (queue' : List ℕ) : Type 0 where
  pub size : length queue₁ ≡ length queue
  pub within : len ≤ length queue₁
  pub front : (i : ℕ) → occurrences i (take len queue₁) ≡ occurrences i (contour width height image)
  pub zeros : queue' ≡ take len queue₁ ++ replicate (length queue₁ - len) 0

module _ (width height : ℕ) (image queue queue₁ : List ℕ) (len : ℕ)
    (queue' : List ℕ) (h : HandedOn width height image queue queue₁ len queue') where
  -- there are as many as the contour has
  pub handed_on-length : len ≡ length (contour width height image)
  handed_on-length = sym (length-take-le len queue₁ h.within) ∙ length-same-occurrences _ _ h.front

  -- the queue keeps its length
  pub length-handed-on : length queue' ≡ length queue
  length-handed-on =
      ap length h.zeros ∙ length-append (take len queue₁) _
      ∙ omega (
        arith,
        length-take-le len queue₁ h.within,
        length-replicate {A = ℕ} (length queue₁ - len) 0,
        h.size,
        h.within,
      )

  -- it is the contour put into the queue, but for the order
  pub handed-on : width * height ≤ length queue → SameQueue queue' (with_contour width height image queue)
  handed-on room =
      let n = length (contour width height image) in
      let e = handed_on-length in
      let seam = length-take-le len queue₁ h.within in
      let taken : take len queue' ≡ take len queue₁ = ap (take len) h.zeros ∙ take_at (take len queue₁) _ len seam in
      let behind : drop len queue' ≡ replicate (length queue₁ - len) 0 =
      ap (drop len) h.zeros ∙ drop_at (take len queue₁) _ len seam in
      let long : len ≤ length queue' = omega (arith, length-handed-on, h.size, h.within) in
      let zeros : drop len queue' ≡ replicate (length queue' - len) 0 =
      behind ∙ ap (λ (k : ℕ). replicate (k - len) 0) (h.size ∙ sym length-handed-on) in
      let holds = (holds_contour-iff width height image queue' len).1 (
        (is_contour-iff width height image queue' len).1 (long, λ i. ap (occurrences i) taken ∙ h.front i),
        zeros,
      ) in
      (same_queue-with_contour-iff width height image queue queue' room).1 (length-handed-on, rw e at holds)

-- the positions of a stretch that are on the image's contour are moved to the front of queue₁
module _ (width height : ℕ) (image queue₁ stretch : List ℕ)
    {queue₂ : List ℕ} {len : ℕ} (short : length stretch ≤ length queue₁)
    (kept : Appended queue₁ 0 (select (on_contour width height image) stretch) queue₂ len) where
  -- they are inside it
  kept-room : len ≤ length queue₁
  kept-room = omega (arith, kept.counted, length-select-le (on_contour width height image) stretch)

  pub kept-within : len ≤ length queue₂
  kept-within = omega (arith, kept-room, length-appended kept kept-room)

  -- where the stretch has each position of the contour once, and only positions of the crop, the contour is handed on
  pub kept-handed-on : (queue : List ℕ) {queue' : List ℕ} → length queue₁ ≡ length queue →
      ((i : ℕ) → i < width * height → on_contour width height image i ≡ true → occurrences i stretch ≡ 1) →
      ((i : ℕ) → width * height ≤ i → occurrences i stretch ≡ 0) →
      queue' ≡ take len queue₂ ++ replicate (length queue₂ - len) 0 →
      HandedOn width height image queue queue₂ len queue'
  kept-handed-on queue size once other zeros =
      record {
        size = length-appended kept kept-room ∙ size;
        within = kept-within;
        front = λ i. ap (occurrences i) (take-appended kept kept-room) ∙ listed i;
        zeros = zeros;
      }
    where
      on : ℕ → Bool
      on = on_contour width height image

      passing : (i : ℕ) → occurrences i (select on stretch) ≤ occurrences i stretch
      passing i =
          by-test (on i) (λ e. omega (arith, occurrences-select-true on i e stretch))
          (λ e. omega (arith, occurrences-select-false on i e stretch))

      listed : (i : ℕ) → occurrences i (select on stretch) ≡ occurrences i (contour width height image)
      listed i =
          by-lt i (width * height)
          (λ l.
          by-test (on i)
          (λ e.
          occurrences-select-true on i e stretch ∙ once i l e
          ∙ sym (ap bit e) ∙ sym (occurrences-contour width height image i l))
          (λ e. occurrences-select-false on i e stretch ∙ sym (ap bit e)
          ∙ sym (occurrences-contour width height image i l)))
          (λ l. omega (arith, passing i, other i l, occurrences-contour-out width height image i l))

-- the numbers that an operation reports fit: they count pixels
module _ {width height : ℕ} {step : Step} {mask image queue : List ℕ} {report : Report} {image' queue' : List ℕ}
    (valid : ValidSize width height) (o : Operated width height step mask image queue report image' queue') where
  pub changed-fits : report.changed ≤ max_pixels
  changed-fits = omega (arith, o.counted, changed-le width height image image', size-le valid)

  pub contour-fits : report.contour_len ≤ max_pixels
  contour-fits = omega (arith, o.lasting, length-contour-le width height image', size-le valid)

-- the contour of the image is found by a scan, which writes it to the front of queue₁
module _ (width height : ℕ) (image : List ℕ) {queue₁ queue₂ : List ℕ} {len : ℕ} (room : width * height ≤ length queue₁)
    (scanned : Extended queue₁ 0 (contour width height image) queue₂ len) where
  -- there are at most as many positions as pixels
  pub scan-le : len ≤ width * height
  scan-le = omega (arith, scanned.counted, length-contour-le width height image)

  -- the queue keeps its length, and they are inside it
  pub length-scan : length queue₂ ≡ length queue₁
  length-scan = scanned.size

  pub scan-within : len ≤ length queue₂
  scan-within = omega (arith, scan-le, length-scan)

  -- the contour is handed on
  pub scan-handed-on : (queue : List ℕ) {queue' : List ℕ} → length queue₁ ≡ length queue →
      queue' ≡ take len queue₂ ++ replicate (length queue₂ - len) 0 →
      HandedOn width height image queue queue₂ len queue'
  scan-handed-on queue size zeros =
      record {
        size = length-scan ∙ size;
        within = scan-within;
        front = λ i. ap (occurrences i) scanned.front;
        zeros = zeros;
      }

-- an operation that changes nothing hands on the contour in hand
pub unchanged-operated : (width height : ℕ) (step : Step) (mask image queue : List ℕ) (len : ℕ) →
    Ready width height image queue → InHand width height image queue len →
    apply width height step mask image ≡ image → used width height step mask image ≡ 0 →
    (queue' : List ℕ) → queue' ≡ take len queue ++ replicate (length queue - len) 0 →
    Operated width height step mask image queue (record { changed = 0; used = 0; contour_len = len }) image queue'
unchanged-operated width height step mask image queue len ready hand same none queue' zeros =
    let on : HandedOn width height image queue queue len queue' =
    record {
      size = refl;
      within = hand-within ready hand;
      front = hand.front;
      zeros = zeros;
    } in
    record {
      pictured = sym same;
      counted = sym ((changed-zero-iff width height image image ready.binary.pixels ready.binary.pixels).1 refl);
      least = sym none;
      lasting = hand.counted;
      queued = handed-on width height image queue queue len queue' on ready.room;
    }
