-- Laws of the entry points: what their checks tell, and the contract `Meets` for each way in which a call
-- ends. Assumes nothing.
--   ready, ready-mask                    an image, a queue and a mask that the row "buffers" does not refuse
--   operation_checks, Checked, checked   what holds where the rows "buffers" and "operation" pass
--   refused-checks                       one of them refuses a call of an operation
--   refused-start                        or the row "contour handed in" does
--   done                                 or the call is done
--   performed                            either of them, as `perform` tells by its answer
--   scan-refused, scan-done              the same of a scan by itself
--   lengths-refused, lengths-sized       what an answer on its lengths tells
--   band-judged                          and the pixels of a band
use Prim.Native.Nat.{ℕ, ◌-◌, ◌*◌}
use mathlib.Core.Path.{◌≡◌, refl, sym, ap, subst, ◌∙◌}
use mathlib.Core.Bool.{Bool, true, false, ◌||◌, or-false}
use mathlib.Core.List.{List, [], ◌∷◌, ◌++◌}
use mathlib.Core.Option.{Option, none, some}
use lib.ListN.{length, take, drop}
use Rattle.lists.specs.Lists.{any}
use Rattle.neighbours.specs.Crop.{Sized, Binary, Ready, Band}
use Rattle.model.specs.Operations.{apply}
use Rattle.model.specs.Refusals.{first_refusal, buffer_checks, step_checks, start_checks, reads_mask, mask_of}
use Rattle.model.specs.Refusals.{operation_buffers, bad_pixel, refuse_if, refusal}
use Rattle.model.specs.Refusals.{scan_refusal, operation_refusal}
use Rattle.model.specs.Calls.{Call, operate, scan, Reply, operation_reply, scan_reply, Outcome, lent, with_contour}
use Rattle.model.specs.Calls.{operate_unless, scan_unless}
use Rattle.model.specs.Calls.{call, SameQueue, Meets}
use Rattle.model.specs.declared.Refusal.{Refusal}
use Rattle.model.specs.declared.Refusal.TheVariants.{BadPixel, WrongContour}
use Rattle.model.specs.declared.Step.{Step}
use Rattle.model.specs.declared.Start.{Start}
use Rattle.model.specs.declared.Report.{Report}
use Rattle.model.specs.declared.ScanReport.{ScanReport}
use Rattle.std.specs.Prelude.{Result, Ok, Err}
use Rattle.theorems.proofs.CheckLaws.{first_refusal-append, first_refusal-append-some, first_refusal-none-left}
use Rattle.theorems.proofs.CheckLaws.{first_refusal-none-right}
use Rattle.theorems.proofs.RefusalLaws.{buffer_checks-iff}
use Rattle.theorems.proofs.QueueLaws.{same_queue-refl}
use Rattle.theorems.proofs.CallLaws.{meets-as, with_contour-same}
use Rattle.judging.specs.Lengths.{length_checks}
use Rattle.judging.proofs.JudgeLaws.{verdict-refused, verdict-accepted, check-last, row-accepted, same_lengths-one}
use Rattle.judging.proofs.JudgeLaws.{buffer_checks-lengths}
use Rattle.operations.specs.Inner.{Operated}
use Rattle.performing.specs.Inner.{Performed, Scanned}
use Rattle.performing.proofs.BandLaws.{band-part, band-bad}

-- ---- the row "buffers"

module _ (width height : ℕ) (image queue : List ℕ) where
  -- an image and a queue that pass, with any further buffers
  pub ready : (masks : List (List ℕ)) →
      first_refusal (buffer_checks width height (image ∷ masks) queue (image ∷ masks)) ≡ none →
      Ready width height image queue
  ready masks passes =
      let b = (buffer_checks-iff width height (image ∷ masks) queue (image ∷ masks)).0 passes in
      record { valid = b.valid; binary = record { pixels = b.sized.0; bits = b.bits.0 }; room = b.room }

  -- a mask that passes
  pub ready-mask : (mask : List ℕ) →
      first_refusal (buffer_checks width height (image ∷ mask ∷ []) queue (image ∷ mask ∷ [])) ≡ none →
      Binary width height mask
  ready-mask mask passes =
      let b = (buffer_checks-iff width height (image ∷ mask ∷ []) queue (image ∷ mask ∷ [])).0 passes in
      record { pixels = b.sized.1.0; bits = b.bits.1.0 }

-- ---- how a call ends

-- what the model gives for a refusal: the reply to it, and all is kept
abbrev keeping : Reply → List ℕ → List ℕ → Outcome
keeping reply image queue = record { reply = reply; state = lent image queue }

-- a call that is refused and keeps all meets its contract
meets-kept : {width height : ℕ} {image queue : List ℕ} {c : Call} (reply : Reply) {image' queue' : List ℕ} →
    call width height (lent image queue) c ≡ keeping reply image queue → image' ≡ image →
    queue' ≡ queue →
    Meets width height image queue c reply image' queue'
meets-kept {image = image} {queue = queue} reply e pictured queued =
    meets-as (keeping reply image queue) e refl pictured (rw queued (same_queue-refl (lent image queue)))

-- ---- a call of an operation

-- its rows "buffers" and "operation"
abbrev pub operation_checks : ℕ → ℕ → List ℕ → List ℕ → Step → List ℕ → List (Option Refusal)
operation_checks width height image queue step mask =
    operation_buffers width height image queue step mask ++ step_checks width height step

-- where they pass, the image, the mask where one is read, and the queue are ready
pub record Checked (width height : ℕ) (image queue : List ℕ) (step : Step) (mask : List ℕ) : Type 0 where
  pub ready : Ready width height image queue
  pub masked : reads_mask step ≡ true → Binary width height mask
  pub passes : first_refusal (step_checks width height step) ≡ none

pub checked : (width height : ℕ) (image queue : List ℕ) (step : Step) (mask : List ℕ) →
    first_refusal (operation_checks width height image queue step mask) ≡ none →
    Checked width height image queue step mask
unfolding mask_of
checked width height image queue step mask e =
    let rows = operation_buffers width height image queue step mask in
    let buffers = first_refusal-none-left rows (step_checks width height step) e in
    record {
      ready = ready width height image queue (mask_of step mask) buffers;
      masked = λ reads. ready-mask width height image queue mask (rw reads at buffers);
      passes = first_refusal-none-right rows (step_checks width height step) e;
    }

module _ (width height : ℕ) (image queue : List ℕ) (step : Step) (mask : List ℕ) (start : Start) where
  -- what its entry point promises of an answer and of what it leaves
  abbrev pub MeetsOperation : Result Report Refusal → List ℕ → List ℕ → Type 0
  MeetsOperation reply image' queue' =
      Meets width height image queue (operate step mask start) (operation_reply reply) image' queue'

  -- the rows "buffers" and "operation" refuse it
  pub refused-checks : {r : Refusal} {w : Result Report Refusal} →
      first_refusal (operation_checks width height image queue step mask) ≡ some r → w ≡ Err r →
      MeetsOperation w image queue
  unfolding call operation_refusal operate_unless operation_reply
  refused-checks {r} {w} e told =
      rw told
      (meets-kept (operation_reply (Err r))
      (rw (first_refusal-append-some _ (start_checks width height image queue start) r e)) refl refl)

  module _ (passes : first_refusal (operation_checks width height image queue step mask) ≡ none) where
    -- behind both the row "contour handed in" answers
    last_row : operation_refusal width height image queue step mask start
        ≡ first_refusal (start_checks width height image queue start)
    unfolding operation_refusal
    last_row = first_refusal-append _ (start_checks width height image queue start) passes

    -- and may refuse it
    pub refused-start : {image' queue' : List ℕ} →
        first_refusal (start_checks width height image queue start) ≡ some WrongContour →
        image' ≡ image → queue' ≡ queue → MeetsOperation (Err WrongContour) image' queue'
    unfolding call operate_unless operation_reply
    refused-start e pictured queued =
        meets-kept (operation_reply (Err WrongContour)) (rw (last_row ∙ e)) pictured queued

    -- or it is done, on the same image and a queue as long as the one lent
    pub done : {image₁ queue₁ : List ℕ} (report : Report) {image' queue' : List ℕ} →
        first_refusal (start_checks width height image queue start) ≡ none → image₁ ≡ image →
        length queue₁ ≡ length queue →
        Operated width height step mask image₁ queue₁ report image' queue' → MeetsOperation (Ok report) image' queue'
    unfolding call operate_unless operation_reply with_contour
    done {image₁} {queue₁} report {image'} {queue'} e same size o =
        let after = apply width height step mask image in
        let called = ap (λ (r : Option Refusal). operate_unless width height r (lent image queue) step mask)
        (last_row ∙ e) in
        let pictured : image' ≡ after = o.pictured ∙ ap (apply width height step mask) same in
        let left : with_contour width height image' queue₁ ≡ with_contour width height after queue =
        with_contour-same width height image' queue₁ queue size
        ∙ ap (λ (l : List ℕ). with_contour width height l queue) pictured in
        meets-as _ called (cc) pictured (subst (SameQueue queue') left o.queued)

    -- as `perform` tells by its answer
    pub performed : (reply : Result Report Refusal) {image' queue' : List ℕ} →
        Performed width height step mask image queue start reply image' queue' →
        MeetsOperation reply image' queue'
    unfolding Performed
    performed (Ok report) p = done report p.0 refl refl p.1
    performed (Err refusal) p = rw p.0 (refused-start p.1 p.2 p.3)

-- ---- a scan by itself

module _ (width height : ℕ) (image queue : List ℕ) where
  -- it is refused
  pub scan-refused : {r : Refusal} {w : Result ScanReport Refusal} →
      first_refusal (buffer_checks width height (image ∷ []) queue (image ∷ [])) ≡ some r → w ≡ Err r →
      Meets width height image queue scan (scan_reply w) image queue
  unfolding call scan_refusal scan_unless scan_reply
  scan-refused {r} e told = rw told (meets-kept (scan_reply (Err r)) (rw e) refl refl)

  -- or it is done
  pub scan-done : {report : ScanReport} {queue' : List ℕ} →
      first_refusal (buffer_checks width height (image ∷ []) queue (image ∷ [])) ≡ none →
      Scanned width height image queue report queue' →
      Meets width height image queue scan (scan_reply (Ok report)) image queue'
  unfolding call scan_refusal scan_unless scan_reply with_contour
  scan-done e found =
      let called = ap (λ (r : Option Refusal). scan_unless width height r (lent image queue)) e in
      meets-as _ called (rw found.reported) refl found.queued

  -- its checks by the lengths
  abbrev lengths : List (Option Refusal)
  lengths = length_checks width height (length image) (length image) (length image) (length queue)

  -- its row "buffers" by an answer on them, and by the pixels of a band
  module _ {v : Result Unit Refusal} (judged : refusal v ≡ first_refusal lengths) where
    -- the lengths are refused
    pub lengths-refused : {r : Refusal} → v ≡ Err r →
        first_refusal (buffer_checks width height (image ∷ []) queue (image ∷ [])) ≡ some r
    lengths-refused {r} e =
        sym
        (buffer_checks-lengths width height (image ∷ []) queue (image ∷ []) _ _ _ (same_lengths-one _ _)
        (sym (first_refusal-append-some lengths _ r (verdict-refused judged e))))

    -- or they are accepted: the image has its size
    pub lengths-sized : v ≡ Ok tt → Sized width height image
    unfolding any refuse_if first_refusal
    lengths-sized e =
        let passes = buffer_checks-lengths width height (image ∷ []) queue [] _ _ _ (same_lengths-one _ _)
        (sym (first_refusal-append lengths _ (verdict-accepted judged e))) in
        let b = (buffer_checks-iff width height (image ∷ []) queue []).0 (sym passes) in
        record { valid = b.valid; pixels = b.sized.0 }

    -- and what answers on the pixels of a band answers the row
    pub band-judged : v ≡ Ok tt → {top end : ℕ} → Band width height image top end →
        (u : Result Unit Refusal) {t : Bool} →
        t ≡ any bad_pixel (take (end * width - top * width) (drop (top * width) image)) →
        refusal u ≡ refuse_if t BadPixel →
        refusal u ≡ first_refusal (buffer_checks width height (image ∷ []) queue (image ∷ []))
    unfolding any
    band-judged e band u {t} bad answered =
        let part = sym (band-bad band (lengths-sized e)) ∙ sym (ap (any bad_pixel) (band-part band)) in
        let all : any bad_pixel image || false ≡ t = or-false _ ∙ part ∙ sym bad in
        buffer_checks-lengths width height (image ∷ []) queue (image ∷ []) _ _ _ (same_lengths-one _ _)
        (row-accepted lengths _ judged e (check-last u _ (rw all answered)))
