-- Laws of operations of which no iteration is asked for.
--   idle-same       they change nothing
--   hand-unchanged  a contour in hand, with zeros behind, is handed on as it is
--   idle-operated   so such an operation is done where the contour is in hand
-- Assumes nothing.
use Prim.Native.Nat.{ℕ, ◌-◌}
use mathlib.Core.Path.{◌≡◌, refl, sym, ap, ◌∙◌}
use mathlib.Core.Bool.{true}
use mathlib.Core.List.{List, ◌++◌}
use lib.Dec.{eqb}
use lib.ListN.{length, take, replicate}
use borrow.Author.Tests.{eqb-true}
use Rattle.lists.specs.Lists.{iterate}
use Rattle.neighbours.specs.Crop.{Ready}
use Rattle.neighbours.proofs.CropLaws.{ready-same}
use Rattle.model.specs.Operations.{least_from, least_iterations, applied, used_by, effect, apply, used}
use Rattle.model.specs.declared.Report.{Report}
use Rattle.theorems.proofs.OperationLaws.{changed-zero-iff}
use Rattle.operations.specs.Inner.{InHand, Operated}
use Rattle.performing.specs.declared.OnWords.{OnWords}
use Rattle.performing.specs.declared.OnWords.TheVariants.{Erode, Dilate, Propagate}
use Rattle.performing.specs.Inner.{idle, words_step, Unchanged}
use Rattle.operations.proofs.OpenLaws.{hand-within}
use Rattle.operations.proofs.HandOnLaws.{HandedOn, handed-on}

-- an iteration that is not repeated changes nothing
none : (f : List ℕ → List ℕ) (n : ℕ) (image : List ℕ) → eqb n 0 ≡ true →
    (iterate f n image ≡ image) × (least_iterations f n image ≡ 0)
unfolding iterate least_iterations least_from
none f n image e = rw (eqb-true n 0 e) (refl, refl)

-- an operation of which none is asked for
pub idle-same : (width height : ℕ) (how : OnWords) (mask image : List ℕ) → idle how ≡ true →
    (apply width height (words_step how) mask image ≡ image) × (used width height (words_step how) mask image ≡ 0)
unfolding idle words_step apply applied used used_by effect
idle-same width height (Erode connectivity sides n) mask image e = none _ n image e
idle-same width height (Dilate connectivity n) mask image e = none _ n image e
idle-same width height (Propagate connectivity n) mask image e = none _ n image e

-- a contour in hand, with zeros behind
pub hand-unchanged : {width height : ℕ} {image queue queue₁ queue' : List ℕ} {len : ℕ} {report : Report} →
    Ready width height image queue → length queue₁ ≡ length queue → InHand width height image queue₁ len →
    report ≡ record { changed = 0; used = 0; contour_len = len } →
    queue' ≡ take len queue₁ ++ replicate (length queue₁ - len) 0 →
    Unchanged width height image queue report queue'
hand-unchanged {width} {height} {image} {queue} {queue₁} {queue'} {len} ready size hand reported zeros =
    let on : HandedOn width height image queue queue₁ len queue' =
    record {
      size = size;
      within = hand-within (ready-same ready refl size) hand;
      front = hand.front;
      zeros = zeros;
    } in
    record {
      reported = reported ∙ ap (λ (n : ℕ). record { changed = 0; used = 0; contour_len = n }) hand.counted;
      queued = handed-on width height image queue queue₁ len queue' on ready.room;
    }

-- it is done
pub idle-operated : {width height : ℕ} (how : OnWords) {mask image queue : List ℕ} {report : Report}
    {queue' : List ℕ} → idle how ≡ true → Ready width height image queue →
    Unchanged width height image queue report queue' →
    Operated width height (words_step how) mask image queue report image queue'
idle-operated {width} {height} how {mask} {image} idling ready s =
    let (same, unused) = idle-same width height how mask image idling in
    let pixels = ready.binary.pixels in
    rw s.reported
    (record {
      pictured = sym same;
      counted = sym ((changed-zero-iff width height image image pixels pixels).1 refl);
      least = sym unused;
      lasting = refl;
      queued = s.queued;
    })
