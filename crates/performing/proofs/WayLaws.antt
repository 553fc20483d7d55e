-- How a step goes (`way_of`). Assumes nothing.
--   runnable-unmasked, step-unmasked   what reads no mask asks for none
--   operated-unmasked, rows-unmasked, stepped-unmasked   and does the same with any
--   Alike, alike                       a step and the one that it goes as: what refuses one refuses the other, and they
--                                      do the same
--   accepted-alike, step-alike         so what is asked of one is asked of the other
--   performed-alike, stepped-alike     and what one leaves, the other does
--   chosen-accepted, chosen-performed  the queue engine is chosen for a contour handed in: what it is asked, and leaves
use Prim.Native.Nat.{ℕ, ◌≤◌, zero-le}
use mathlib.Core.Path.{◌≡◌, refl, ap, ◌∙◌}
use mathlib.Core.Bool.{false}
use mathlib.Core.List.{List, []}
use mathlib.Core.Option.{none}
use native.Mathlib.Nat.{le_refl}
use Rattle.lists.proofs.BoolLaws.{not-both, cond-le}
use Rattle.neighbours.specs.Grid.{all_sides}
use Rattle.model.specs.Operations.{Effect, applied, used_by, border_sides, effect, apply, used}
use Rattle.model.specs.Refusals.{first_refusal, step_checks, reads_mask}
use Rattle.model.specs.declared.Report.{Report}
use Rattle.model.specs.declared.WordsReport.{WordsReport}
use Rattle.model.specs.declared.Refusal.{Refusal}
use Rattle.std.specs.Prelude.{Result, Ok, Err}
use Rattle.model.specs.declared.Start.{Start}
use Rattle.model.specs.declared.Start.TheVariants.{Contour}
use Rattle.model.specs.declared.Step.{Step}
use Rattle.model.specs.declared.Step.TheVariants.{Erode, Dilate, Propagate, FloodFill, ClearBorder, ErodeBySides}
use Rattle.theorems.proofs.RefusalLaws.{step_checks-iff}
use Rattle.theorems.proofs.OperationLaws.{effect-unmasked}
use Rattle.model.specs.Words.{unpacked_words}
use Rattle.words.specs.Frame as frame
use Rattle.operations.specs.declared.FromContour.{FromContour}
use Rattle.operations.specs.declared.FromContour.TheVariants as contour
use Rattle.operations.specs.Inner.{contour_step, Operated}
use Rattle.performing.specs.declared.Way.{Way}
use Rattle.performing.specs.declared.Engine.{Engine}
use Rattle.performing.specs.declared.Engine.TheVariants.{Queue}
use Rattle.performing.specs.Inner.{words_step, way_step, way_of, Chosen, Accepted, Runnable, Performed}
use Rattle.performing.specs.Inner.{StepReady, RowsStepped}

-- ---- masks

module _ (width height : ℕ) (mask : List ℕ) (step : Step) (e : reads_mask step ≡ false) where
  unmasked : (image : List ℕ) →
      (apply width height step [] image ≡ apply width height step mask image)
      × (used width height step [] image ≡ used width height step mask image)
  unfolding apply used
  unmasked image =
      let same = effect-unmasked width height step [] mask e in
      (ap (λ (e : Effect). applied e image) same, ap (λ (e : Effect). used_by e image) same)

  -- it asks for none
  pub runnable-unmasked : {image mask' queue : List ℕ} {start : Start} {rows entries : List ℕ} →
      Runnable width height step image mask' queue start rows entries →
      Runnable width height step image mask queue start rows entries
  runnable-unmasked r =
      record {
        call =
            record {
              accepted =
                  record {
                    ready = r.call.accepted.ready;
                    passes = r.call.accepted.passes;
                    masked = λ reads. absurd (not-both reads e);
                  };
              in_room = r.call.in_room;
            };
        right = r.right;
        packed = r.packed;
      }

  pub step-unmasked : {image mask' queue rows entries : List ℕ} →
      StepReady width height step image mask' queue rows entries →
      StepReady width height step image mask queue rows entries
  step-unmasked s =
      record {
        held = s.held;
        sized = s.sized;
        room = s.room;
        passes = s.passes;
        masked = λ reads. absurd (not-both reads e);
      }

  -- and does the same with any
  pub operated-unmasked : {image queue : List ℕ} {report : Report} {image' queue' : List ℕ} →
      Operated width height step [] image queue report image' queue' →
      Operated width height step mask image queue report image' queue'
  operated-unmasked {image} o =
      record {
        pictured = o.pictured ∙ (unmasked image).0;
        counted = o.counted;
        least = o.least ∙ (unmasked image).1;
        lasting = o.lasting;
        queued = o.queued;
      }

  -- and so on packed rows
  pub rows-unmasked : {words words' : List ℕ} {report : WordsReport} →
      frame.Operated width height step [] words words' report →
      frame.Operated width height step mask words words' report
  rows-unmasked {words} o =
      let (after, count) = unmasked (unpacked_words width height words) in
      record {
        rows = rw after at o.rows;
        is_changed = rw after at o.is_changed;
        is_used = o.is_used ∙ count;
        is_area = rw after at o.is_area;
      }

  pub stepped-unmasked : {image : List ℕ} {report : Report} {rows' : List ℕ} →
      RowsStepped width height step [] image report rows' → RowsStepped width height step mask image report rows'
  stepped-unmasked {image} s =
      let (after, count) = unmasked image in
      record {
        packed = rw after at s.packed;
        counted = rw after at s.counted;
        least = s.least ∙ count;
        lasting = rw after at s.lasting;
      }

-- ---- the step that a step goes as

-- what refuses one refuses the other, and they do the same
pub record Alike (width height : ℕ) (step step' : Step) : Type 0 where
  pub passes : first_refusal (step_checks width height step) ≡ none →
      first_refusal (step_checks width height step') ≡ none
  pub reads : reads_mask step' ≡ reads_mask step
  pub applies : (mask image : List ℕ) →
      apply width height step' mask image ≡ apply width height step mask image
  pub uses : (mask image : List ℕ) →
      used width height step' mask image ≡ used width height step mask image

-- a step is like itself
alike_same : (width height : ℕ) (step : Step) → Alike width height step step
alike_same width height step =
    record { passes = λ p. p; reads = refl; applies = λ mask image. refl; uses = λ mask image. refl }

-- the sides that a border value names are sides
border_sides-le : (border_value : ℕ) → border_sides border_value ≤ all_sides
unfolding border_sides
border_sides-le border_value = search (cond-le, zero-le, le_refl)

-- an erosion by a border value is one by the sides that it names
alike-sides : (width height connectivity border_value n : ℕ) →
    Alike width height (Erode connectivity border_value n) (ErodeBySides connectivity (border_sides border_value) n)
unfolding reads_mask apply used effect
alike-sides width height connectivity border_value n =
    record {
      passes =
          λ p.
          (step_checks-iff width height (ErodeBySides connectivity (border_sides border_value) n)).1
          (((step_checks-iff width height (Erode connectivity border_value n)).0 p).0, border_sides-le border_value);
      reads = refl;
      applies = λ mask image. refl;
      uses = λ mask image. refl;
    }

-- any step and the one that it goes as, by its kind
kind-alike : (width height : ℕ) (step : Step) → Alike width height step (way_step (way_of step))
unfolding way_of way_step words_step
kind-alike width height (Erode connectivity border_value n) = alike-sides width height connectivity border_value n
kind-alike width height (Dilate connectivity n) = alike_same width height (Dilate connectivity n)
kind-alike width height (Propagate connectivity n) = alike_same width height (Propagate connectivity n)
kind-alike width height (FloodFill connectivity x y) = alike_same width height (FloodFill connectivity x y)
kind-alike width height (ClearBorder connectivity) = alike_same width height (ClearBorder connectivity)
kind-alike width height (ErodeBySides connectivity sides n) =
    alike_same width height (ErodeBySides connectivity sides n)

pub alike : (width height : ℕ) (step : Step) {how : Way} → how ≡ way_of step →
    Alike width height step (way_step how)
alike width height step e = rw e (kind-alike width height step)

module _ {width height : ℕ} {step step' : Step} (same : Alike width height step step') where
  -- what is asked of one is asked of the other
  pub accepted-alike : {image mask queue : List ℕ} → Accepted width height step image mask queue →
      Accepted width height step' image mask queue
  accepted-alike a =
      record {
        ready = a.ready;
        passes = same.passes a.passes;
        masked = λ reads. a.masked (rw same.reads at reads);
      }

  pub step-alike : {image mask queue rows entries : List ℕ} →
      StepReady width height step image mask queue rows entries →
      StepReady width height step' image mask queue rows entries
  step-alike s =
      record {
        held = s.held;
        sized = s.sized;
        room = s.room;
        passes = same.passes s.passes;
        masked = λ reads. s.masked (rw same.reads at reads);
      }

  -- what one leaves, the other does
  operated-alike : {mask image queue : List ℕ} {report : Report} {image' queue' : List ℕ} →
      Operated width height step' mask image queue report image' queue' →
      Operated width height step mask image queue report image' queue'
  operated-alike {mask} {image} o =
      record {
        pictured = o.pictured ∙ same.applies mask image;
        counted = o.counted;
        least = o.least ∙ same.uses mask image;
        lasting = o.lasting;
        queued = o.queued;
      }

  pub performed-alike : (mask image queue : List ℕ) (start : Start) (reply : Result Report Refusal)
      (image' queue' : List ℕ) →
      Performed width height step' mask image queue start reply image' queue' →
      Performed width height step mask image queue start reply image' queue'
  unfolding Performed
  performed-alike mask image queue start (Ok report) image' queue' (right, done) = (right, operated-alike done)
  performed-alike mask image queue start (Err refusal) image' queue' refused = refused

  pub stepped-alike : {mask image : List ℕ} {report : Report} {rows' : List ℕ} →
      RowsStepped width height step' mask image report rows' →
      RowsStepped width height step mask image report rows'
  stepped-alike {mask} {image} s =
      let after = same.applies mask image in
      record {
        packed = rw after at s.packed;
        counted = rw after at s.counted;
        least = s.least ∙ same.uses mask image;
        lasting = rw after at s.lasting;
      }

-- ---- the queue engine

-- what it does from a contour reads no mask
contour-unmasked : (what : FromContour) → reads_mask (contour_step what) ≡ false
unfolding contour_step reads_mask
contour-unmasked (contour.Erode connectivity sides n) = refl
contour-unmasked (contour.Dilate connectivity n) = refl
contour-unmasked (contour.FloodFill connectivity x y) = refl

performed-unmasked : (width height : ℕ) (mask : List ℕ) (what : FromContour) (image queue : List ℕ)
    (start : Start) (reply : Result Report Refusal) (image' queue' : List ℕ) →
    Performed width height (contour_step what) [] image queue start reply image' queue' →
    Performed width height (contour_step what) mask image queue start reply image' queue'
unfolding Performed
performed-unmasked width height mask what image queue start (Ok report) image' queue' (right, done) =
    (right, operated-unmasked width height mask (contour_step what) (contour-unmasked what) done)
performed-unmasked width height mask what image queue start (Err refusal) image' queue' refused = refused

-- it is chosen for a contour handed in, and does what the step asks
chosen-contour : (how : Way) (start : Start) {engine : Engine} {what : FromContour} {len : ℕ} →
    Chosen how start engine → engine ≡ Queue what len →
    (start ≡ Contour len) × (way_step how ≡ contour_step what)
unfolding Chosen
chosen-contour how start chosen e = rw e at chosen

module _ (width height : ℕ) (how : Way) (start : Start) {engine : Engine} {what : FromContour} {len : ℕ}
    (chosen : Chosen how start engine) (e : engine ≡ Queue what len) where
  -- what it is asked
  pub chosen-accepted : {image mask queue : List ℕ} → Accepted width height (way_step how) image mask queue →
      Accepted width height (contour_step what) image [] queue
  chosen-accepted a =
      record {
        ready = a.ready;
        passes = rw (chosen-contour how start chosen e).1 at a.passes;
        masked = λ reads. absurd (not-both reads (contour-unmasked what));
      }

  -- and leaves
  pub chosen-performed : (mask image queue : List ℕ) (reply : Result Report Refusal) (image' queue' : List ℕ) →
      Performed width height (contour_step what) [] image queue (Contour len) reply image' queue' →
      Performed width height (way_step how) mask image queue start reply image' queue'
  chosen-performed mask image queue reply image' queue' p =
      let (from, same) = chosen-contour how start chosen e in
      rw (from, same) (performed-unmasked width height mask what image queue (Contour len) reply image' queue' p)
