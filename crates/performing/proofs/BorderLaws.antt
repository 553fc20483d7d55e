-- Laws of clear border, whose end is a scan. Assumes nothing.
--   border-used        an iteration is used if any pixel went
--   border-scan        the image after is ready for the scan
--   border-operated    with the scan it is clear border as a whole
use Prim.Native.Nat.{ℕ, ◌+◌}
use mathlib.Core.Path.{◌≡◌, sym, ap, subst, ◌∙◌}
use mathlib.Core.Bool.{cond}
use mathlib.Core.List.{List, []}
use native.Mathlib.Omega.{arith}
use lib.Dec.{eqb}
use lib.ListN.{length}
use borrow.Author.Tests.{eq-eqb, ne_eqb}
use Rattle.lists.proofs.BoolLaws.{by-eq, cond-true, cond-false}
use Rattle.neighbours.specs.Crop.{Binary, Ready}
use Rattle.model.specs.Calls.{SameQueue}
use Rattle.model.specs.Operations.{changed, apply, used, effect, applied, used_by}
use Rattle.model.specs.declared.Step.TheVariants.{ClearBorder}
use Rattle.model.specs.declared.ScanReport.{ScanReport}
use Rattle.theorems.proofs.OperationLaws.{apply-binary, used_once-same, used_once-other, changed-zero-iff}
use Rattle.theorems.proofs.CallLaws.{with_contour-same}
use Rattle.operations.specs.Inner.{Operated}
use Rattle.performing.specs.Inner.{Scanned}

module _ (width height connectivity : ℕ) (image : List ℕ) (binary : Binary width height image) where
  -- the image after
  abbrev after : List ℕ
  after = apply width height (ClearBorder connectivity) [] image

  -- an iteration is used if any pixel went
  pub border-used : {cleared : ℕ} → cleared ≡ changed width height image after →
      cond (eqb cleared 0) 0 (0 + 1) ≡ used width height (ClearBorder connectivity) [] image
  unfolding apply used effect applied used_by
  border-used {cleared} counted =
      let size = (apply-binary width height (ClearBorder connectivity) [] image binary).pixels in
      let same = changed-zero-iff width height image after binary.pixels size in
      by-eq cleared 0
      (λ z. cond-true 0 (0 + 1) (eq-eqb cleared 0 z) ∙ sym (used_once-same image _ (same.0 (sym counted ∙ z))))
      (λ n.
      cond-false 0 (0 + 1) (ne_eqb cleared 0 n) ∙ sym (used_once-other image _ (λ e. n (counted ∙ same.1 e))))

-- the image after, and a queue as long, are ready for the scan
pub border-scan : {width height : ℕ} (connectivity : ℕ) {image queue image₁ queue₁ : List ℕ} →
    Ready width height image queue → image₁ ≡ apply width height (ClearBorder connectivity) [] image →
    length queue₁ ≡ length queue → Ready width height image₁ queue₁
border-scan {width} {height} connectivity {image} ready pictured size =
    let binary = apply-binary width height (ClearBorder connectivity) [] image ready.binary in
    record { valid = ready.valid; binary = rw pictured binary; room = omega (arith, size, ready.room) }

-- with the scan it is clear border as a whole
pub border-operated : {width height : ℕ} (connectivity : ℕ) {image queue image₁ queue₁ queue' : List ℕ}
    {cleared count : ℕ} {report : ScanReport} → Ready width height image queue →
    image₁ ≡ apply width height (ClearBorder connectivity) [] image →
    cleared ≡ changed width height image image₁ → count ≡ cond (eqb cleared 0) 0 (0 + 1) →
    length queue₁ ≡ length queue → Scanned width height image₁ queue₁ report queue' →
    Operated width height (ClearBorder connectivity) [] image queue
    (record { changed = cleared; used = count; contour_len = report.contour_len }) image₁ queue'
border-operated {width} {height} connectivity {image} {queue} {image₁} {queue₁} {queue'} ready pictured
    counted least size s =
    record {
      pictured = pictured;
      counted = counted;
      least = least ∙ border-used width height connectivity image ready.binary (rw pictured at counted);
      lasting = ap (λ (r : ScanReport). r.contour_len) s.reported;
      queued = subst (SameQueue queue') (with_contour-same width height image₁ queue₁ queue size) s.queued;
    }
