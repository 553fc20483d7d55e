-- Laws of an operation on packed rows (`Operated`, specs/Frame.antt): a run makes an erosion, or a dilation.
--   clean-packed     the packed rows of an image have no unused bit set
--   unpacked-clean   they are that image's
--   repacked-clean   rows with no unused bit set are the packed rows of their image
--   clean-ran        the rows after a run have no unused bit set
--   ran-fits         what the areas and the count fit
--   operated-ran     they tell the operation's numbers
-- Assumes nothing.
use Prim.Native.Nat.{ℕ, ◌+◌, ◌-◌, ◌≤◌, ◌<◌}
use mathlib.Core.Path.{◌≡◌, refl, sym, ap, ◌∙◌}
use mathlib.Core.Bool.{Bool, true, false}
use mathlib.Core.List.{List, []}
use native.Mathlib.Omega.{arith}
use Rattle.lists.specs.Lists.{iterate, occurrences, bit}
use Rattle.lists.proofs.BoolLaws.{bit_le}
use Rattle.lists.proofs.IterateLaws.{iterate-keeps}
use Rattle.neighbours.specs.Limits.{max_pixels}
use Rattle.neighbours.specs.Crop.{ValidSize, Binary}
use Rattle.neighbours.specs.Grid.{all_sides}
use Rattle.neighbours.specs.Words.{word_bits}
use Rattle.neighbours.proofs.PackedLaws.{Units, length-packed, padding_set-packed, unpacked-packed, packed-unpacked}
use Rattle.neighbours.proofs.PackedLaws.{unpacked-binary}
use Rattle.model.specs.Limits.{u16_limit}
use Rattle.model.specs.Steps.{erode_once}
use Rattle.model.specs.Operations.{effect, applied, used_by, least_iterations, apply, used}
use Rattle.model.specs.Words.{packed_words, unpacked_words}
use Rattle.theorems.proofs.OperationLaws.{erode_once-binary, iterate-erode_once-le, least_iterations-le}
use Rattle.words.specs.Frame.{turned, Clean, Ran, step_of, Operated}
use Rattle.words.proofs.TurnedLaws.{turned_zero, turned-binary, iterate-turned, least_iterations-turned}
use Rattle.words.proofs.ChangedLaws.{area-le, changed-turned}

-- a run is the operation
ran-step : (width height connectivity sides n : ℕ) (turn : Bool) (image : List ℕ) →
    (turn ≡ true → sides ≡ all_sides) → Binary width height image →
    (turned (bit turn) (iterate (erode_once width height connectivity sides) n (turned (bit turn) image))
    ≡ apply width height (step_of connectivity sides turn n) [] image)
    × (least_iterations (erode_once width height connectivity sides) n (turned (bit turn) image)
    ≡ used width height (step_of connectivity sides turn n) [] image)
unfolding apply applied effect used used_by
ran-step width height connectivity sides n false image outside binary =
    let f = erode_once width height connectivity sides in (
      turned_zero _ ∙ ap (iterate f n) (turned_zero image),
      ap (least_iterations f n) (turned_zero image),
    )
ran-step width height connectivity sides n true image outside binary =
    rw (outside refl) (
      iterate-turned width height connectivity image binary n,
      least_iterations-turned width height connectivity image binary n,
    )

-- ---- packed rows and their image

module _ {width height : ℕ} {words image : List ℕ} (valid : ValidSize width height)
    (binary : Binary width height image) (packed : words ≡ packed_words width height image) where
  -- the packed rows of an image have no unused bit set
  pub clean-packed : Clean width height words
  clean-packed =
      record {
        valid = valid;
        size = rw packed (length-packed word_bits width height image);
        clear = rw packed (padding_set-packed word_bits width height image (omega arith) binary.bits);
      }

  -- and are that image's
  pub unpacked-clean : unpacked_words width height words ≡ image
  unpacked-clean =
      rw packed
      (unpacked-packed word_bits width height image (omega arith) valid.wide binary.pixels binary.bits)

-- rows with no unused bit set are the packed rows of their image
pub repacked-clean : {width height : ℕ} {words : List ℕ} → Clean width height words → Units word_bits words →
    words ≡ packed_words width height (unpacked_words width height words)
repacked-clean {width} {height} {words} clean small =
    sym
    (packed-unpacked word_bits width height words (omega arith) clean.valid.wide clean.size small clean.clear)

-- ---- a run

module _ (width height : ℕ) (valid : ValidSize width height) (words : List ℕ) (connectivity sides n : ℕ)
    (turn : Bool) where
  -- the image before
  abbrev before : List ℕ
  before = unpacked_words width height words

  -- the image that is eroded, and what is left of it
  abbrev exchanged : List ℕ
  exchanged = turned (bit turn) before

  abbrev eroded : List ℕ
  eroded = iterate (erode_once width height connectivity sides) n exchanged

  -- the image after
  abbrev after : List ℕ
  after = turned (bit turn) eroded

  binary-before : Binary width height before
  binary-before = unpacked-binary word_bits width height words

  binary-eroded : Binary width height eroded
  binary-eroded =
      iterate-keeps (Binary width height) _ (erode_once-binary width height connectivity sides) n exchanged
      (turned-binary width height (bit turn) before binary-before (bit_le turn))

  binary-after : Binary width height after
  binary-after = turned-binary width height (bit turn) eroded binary-eroded (bit_le turn)

  module _ {words' : List ℕ} {count : ℕ}
      (ran : Ran width height connectivity sides (bit turn) n words words' count) where
    pub clean-ran : Clean width height words'
    clean-ran = clean-packed valid binary-after ran.rows

    unpacked-ran : unpacked_words width height words' ≡ after
    unpacked-ran = unpacked-clean valid binary-after ran.rows

    module _ {area_before area_after : ℕ} (is_before : area_before ≡ occurrences 1 before)
        (is_after : area_after ≡ occurrences 1 (unpacked_words width height words')) where
      -- what the areas and the count fit
      pub ran-fits : n < u16_limit → (area_before ≤ max_pixels) × (area_after ≤ max_pixels) × (count < u16_limit)
      ran-fits few = (
        area-le width height words valid is_before,
        area-le width height words' valid is_after,
        omega (arith, ran.counted, least_iterations-le (erode_once width height connectivity sides) n exchanged),
      )

      pub operated-ran : (turn ≡ true → sides ≡ all_sides) →
          {apart : ℕ} → apart ≡ (area_before - area_after) + (area_after - area_before) →
          Operated width height (step_of connectivity sides turn n) [] words words'
          (record { changed = apart; used = count; area = area_after })
      operated-ran outside {apart} e =
          let step = ran-step width height connectivity sides n turn before outside binary-before in
          let area = is_after ∙ ap (occurrences 1) unpacked-ran in
          let areas = changed-turned width height turn before eroded binary-before binary-eroded
          (iterate-erode_once-le width height connectivity sides n exchanged) in
          record {
            rows = ran.rows ∙ ap (packed_words width height) step.0;
            is_changed = rw (← step.0) (omega (arith, areas, e, is_before, area));
            is_used = ran.counted ∙ step.1;
            is_area = area ∙ ap (occurrences 1) step.0;
          }
