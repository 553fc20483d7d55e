-- Laws of one step of a list, from the packed rows of an image to those of the image after it (`RowsStepped`).
--   step-unpacked    the image and the queue, where the rows are unpacked
--   step-packable    the image after the step can be packed
--   step-prepared    what goes from the contour, where that is listed
--   stepped-queue    a step by the queue engine, where the image after it is packed
--   counted-rows     the contour of rows is counted and they are put back
--   stepped-words    a step on words, where the contour is counted
--   stepped-border   clear border, where the contour of the image after it is counted
-- Assumes nothing.
use Prim.Native.Nat.{ℕ, ◌+◌}
use mathlib.Core.Path.{◌≡◌, ap, ◌∙◌}
use mathlib.Core.Bool.{cond}
use mathlib.Core.List.{List, []}
use native.Mathlib.Omega.{arith}
use lib.Dec.{eqb}
use lib.ListN.{length}
use Rattle.neighbours.specs.Crop.{ValidSize, Binary, Ready}
use Rattle.neighbours.specs.Contour.{contour}
use Rattle.neighbours.specs.Words.{word_bits}
use Rattle.neighbours.proofs.PackedLaws.{unpacked-binary}
use Rattle.model.specs.Operations.{apply, changed}
use Rattle.model.specs.Words.{packed_words, unpacked_words}
use Rattle.model.specs.declared.Step.{Step}
use Rattle.model.specs.declared.Step.TheVariants.{ClearBorder}
use Rattle.model.specs.declared.Report.{Report}
use Rattle.model.specs.declared.WordsReport.{WordsReport}
use Rattle.theorems.proofs.OperationLaws.{apply-binary}
use Rattle.packing.specs.Rows.{Packable}
use Rattle.words.proofs.OperatedLaws.{unpacked-clean}
use Rattle.words.specs.Frame as frame
use Rattle.words.specs.Room.{front_rows}
use Rattle.operations.specs.Inner.{InHand, Prepared, Operated}
use Rattle.performing.specs.Inner.{StepReady, RowsStepped}
use Rattle.performing.proofs.BorderLaws.{border-used}

-- the image and the queue, where the rows are unpacked
pub step-unpacked : {width height : ℕ} {step : Step} {image mask queue : List ℕ} (rows : List ℕ)
    {entries : List ℕ} {image₁ queue₁ : List ℕ} →
    StepReady width height step image mask queue rows entries →
    image₁ ≡ unpacked_words width height (front_rows width height rows) → length queue₁ ≡ length queue →
    Ready width height image₁ queue₁
step-unpacked {width} {height} rows ready same size =
    let binary = unpacked-binary word_bits width height (front_rows width height rows) in
    record {
      valid = ready.held.in_room.valid;
      binary = rw same binary;
      room = omega (arith, ready.room, size);
    }

-- the image after the step can be packed
pub step-packable : {width height : ℕ} {step : Step} {image mask queue : List ℕ} (rows : List ℕ)
    {entries : List ℕ} {image₁ image' : List ℕ} → StepReady width height step image mask queue rows entries →
    image₁ ≡ unpacked_words width height (front_rows width height rows) →
    image' ≡ apply width height step mask image₁ → Packable width height image'
step-packable {width} {height} {step} {mask = mask} rows ready same pictured =
    let binary = unpacked-binary word_bits width height (front_rows width height rows) in
    record {
      valid = ready.held.in_room.valid;
      binary = rw (pictured, same) (apply-binary width height step mask _ binary);
    }

-- what goes from the contour, where that is listed
pub step-prepared : {width height : ℕ} {step : Step} {image mask queue : List ℕ} (rows : List ℕ)
    {entries : List ℕ} {image₁ queue₁ : List ℕ} {len : ℕ} →
    StepReady width height step image mask queue rows entries →
    image₁ ≡ unpacked_words width height (front_rows width height rows) → length queue₁ ≡ length queue →
    InHand width height (unpacked_words width height (front_rows width height rows)) queue₁ len →
    Prepared width height step image₁ queue₁ len
step-prepared rows ready same size hand =
    record { ready = step-unpacked rows ready same size; passes = ready.passes; hand = rw same hand }

-- a step by the queue engine, where the image after it is packed
pub stepped-queue : {width height : ℕ} {step : Step} {mask image queue : List ℕ} {report : Report}
    {image₁ image' queue' : List ℕ} (rows' : List ℕ) → image₁ ≡ image →
    Operated width height step mask image₁ queue report image' queue' →
    front_rows width height rows' ≡ packed_words width height image' →
    RowsStepped width height step mask image report rows'
stepped-queue {width} {height} {step} {mask} {image} rows' same o packed =
    let pictured = o.pictured ∙ ap (apply width height step mask) same in
    record {
      packed = packed ∙ ap (packed_words width height) pictured;
      counted = rw (same, pictured) at o.counted;
      least = rw same at o.least;
      lasting = rw pictured at o.lasting;
    }

-- the contour of rows is counted and they are put back
module _ {width height : ℕ} {after : List ℕ} (rows₁ rows₂ : List ℕ) {len : ℕ}
    (valid : ValidSize width height) (binary : Binary width height after)
    (packed : front_rows width height rows₁ ≡ packed_words width height after)
    (count : len ≡ length (contour width height (unpacked_words width height (front_rows width height rows₁))))
    (kept : front_rows width height rows₂
    ≡ packed_words width height (unpacked_words width height (front_rows width height rows₁))) where
  unpacked : unpacked_words width height (front_rows width height rows₁) ≡ after
  unpacked = unpacked-clean valid binary packed

  -- so they are the image's, and the count is that of its contour
  pub counted-rows : (front_rows width height rows₂ ≡ packed_words width height after)
      × (len ≡ length (contour width height after))
  counted-rows = (rw unpacked at kept, rw unpacked at count)

-- a step on words, where the contour is counted
pub stepped-words : {width height : ℕ} {step : Step} {mask : List ℕ} (words rows₁ rows₂ : List ℕ)
    {report : WordsReport} {len : ℕ} → ValidSize width height →
    frame.Operated width height step mask words (front_rows width height rows₁) report →
    len ≡ length (contour width height (unpacked_words width height (front_rows width height rows₁))) →
    front_rows width height rows₂
    ≡ packed_words width height (unpacked_words width height (front_rows width height rows₁)) →
    RowsStepped width height step mask (unpacked_words width height words)
    (record { changed = report.changed; used = report.used; contour_len = len }) rows₂
stepped-words {width} {height} {step} {mask} words rows₁ rows₂ valid o count kept =
    let image = unpacked_words width height words in
    let binary = apply-binary width height step mask image (unpacked-binary word_bits width height words) in
    let (packed, lasting) = counted-rows rows₁ rows₂ valid binary o.rows count kept in
    record { packed = packed; counted = o.is_changed; least = o.is_used; lasting = lasting }

-- clear border, where the contour of the image after it is counted
pub stepped-border : {width height connectivity : ℕ} {image image₁ image₂ : List ℕ} (rows₁ rows₂ : List ℕ)
    {cleared count len : ℕ} → ValidSize width height → Binary width height image → image₁ ≡ image →
    image₂ ≡ apply width height (ClearBorder connectivity) [] image₁ →
    cleared ≡ changed width height image₁ image₂ →
    count ≡ cond (eqb cleared 0) 0 (0 + 1) →
    front_rows width height rows₁ ≡ packed_words width height image₂ →
    len ≡ length (contour width height (unpacked_words width height (front_rows width height rows₁))) →
    front_rows width height rows₂
    ≡ packed_words width height (unpacked_words width height (front_rows width height rows₁)) →
    RowsStepped width height (ClearBorder connectivity) [] image
    (record { changed = cleared; used = count; contour_len = len }) rows₂
stepped-border {width} {height} {connectivity} {image} {image₁} {image₂} rows₁ rows₂ valid binary same
    pictured counted least packed count kept =
    let after : image₂ ≡ apply width height (ClearBorder connectivity) [] image =
    pictured ∙ ap (apply width height (ClearBorder connectivity) []) same in
    let sized = apply-binary width height (ClearBorder connectivity) [] image binary in
    let number = rw (same, after) at counted in
    let before = packed ∙ ap (packed_words width height) after in
    let (rows, lasting) = counted-rows rows₁ rows₂ valid sized before count kept in
    record {
      packed = rows;
      counted = number;
      least = least ∙ border-used width height connectivity image binary number;
      lasting = lasting;
    }
