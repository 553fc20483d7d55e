-- Laws of refusals (`specs/Refusals.antt`).
--   number-positive, number-eight   no refusal has number 0, and only WrongContour has number 8
--   number_of-zero, number_of-eight   the same of a refusal or none
--   first_refusal-none-iff           checks pass exactly if each passes; so do rows, `first_refusal-append-iff`
--   buffer_checks-iff, step_checks-iff, start_checks-iff   what it means that a row of the table passes:
--                                   `BuffersPass`, `StepPasses`, `StartPasses`
--   scan_refusal-iff, operation_refusal-iff, label_refusal-iff   what it means that a call is not refused
--   is_contour-iff                   a contour handed in has each position of the image's contour once and no other
--   operation_refusal-eight          only a contour handed in that is not exactly the image's gives 8
-- Assumes nothing.
use Prim.Native.Nat.{ℕ, ◌*◌, ◌≤◌, ◌<◌}
use mathlib.Core.Path.{◌≡◌, refl, ap, ◌∙◌}
use mathlib.Core.Bool.{Bool, true, false, not, ◌||◌, ◌&&◌}
use mathlib.Core.Logic.{◌↔◌}
use mathlib.Core.List.{List, [], ◌∷◌, ◌++◌}
use mathlib.Core.Option.{Option, none, some, some-injective, some-ne-none, none-ne-some}
use native.Mathlib.Omega.{arith}
use lib.Dec.{eqb, leb, ltb}
use lib.ListN.{length, get_or, take}
use borrow.Author.Tests.{ltb-false, leb-true, leb-false, eqb-true, not-false, le-ltb, le-leb, lt-leb, eq-eqb}
use Rattle.lists.specs.Lists.{any, all, occurrences, Each}
use Rattle.lists.proofs.BoolLaws.{by-test, by-lt, not-both, and_left, and_right, and_both, or-false-left}
use Rattle.lists.proofs.BoolLaws.{or-false-right, bit_le}
use Rattle.lists.proofs.ListLaws.{any-false-each, each-any-false, all-member, member-all, member-occurs, occurs-member}
use Rattle.lists.proofs.ListLaws.{occurrences-zero-iff, each_map, each_append}
use Rattle.neighbours.specs.Limits.{max_side}
use Rattle.neighbours.specs.Grid.{is_connectivity, all_sides}
use Rattle.neighbours.specs.Contour.{on_contour, contour}
use Rattle.neighbours.specs.Crop.{ValidSize}
use Rattle.neighbours.proofs.ContourLaws.{occurrences-contour, occurrences-contour-out}
use Rattle.model.specs.Refusals.{number, refuse_if, first_refusal, bad_side, bad_pixel, wrong_length, is_contour}
use Rattle.model.specs.Refusals.{buffer_checks, connectivity_check}
use Rattle.model.specs.Refusals.{step_checks, start_checks, mask_of, scan_refusal, operation_refusal, label_refusal}
use Rattle.model.specs.declared.Refusal.{Refusal}
use Rattle.model.specs.declared.Refusal.TheVariants.{BadSize, BadLength, QueueTooShort, BadPixel, BadConnectivity}
use Rattle.model.specs.declared.Refusal.TheVariants.{BadBorderValue}
use Rattle.model.specs.declared.Refusal.TheVariants.{SeedOutside, WrongContour, TooManyComponents, TooManyHoles}
use Rattle.model.specs.declared.Refusal.TheVariants.{TooFewRecords, BadVersion}
use Rattle.model.specs.declared.Refusal.TheVariants.{BadJobLength, BadStep, TooManySteps, BadPadding, TooManyPixels}
use Rattle.model.specs.declared.Refusal.TheVariants.{UnusedBitSet}
use Rattle.model.specs.declared.Step.{Step}
use Rattle.model.specs.declared.Step.TheVariants.{Erode, Dilate, Propagate, FloodFill, ClearBorder, ErodeBySides}
use Rattle.model.specs.declared.Start.{Start}
use Rattle.model.specs.declared.Start.TheVariants.{Scan, Contour}
use Rattle.theorems.proofs.OperationLaws.{bad_pixel-none-iff}
use Rattle.theorems.proofs.CheckLaws.{first_refusal-append, first_refusal-none-left, first_refusal-none-right}

-- ---- numbers

-- no refusal has number 0
pub number-positive : (refusal : Refusal) → 1 ≤ number refusal
number-positive BadSize = omega arith
number-positive BadLength = omega arith
number-positive QueueTooShort = omega arith
number-positive BadPixel = omega arith
number-positive BadConnectivity = omega arith
number-positive BadBorderValue = omega arith
number-positive SeedOutside = omega arith
number-positive WrongContour = omega arith
number-positive TooManyComponents = omega arith
number-positive TooManyHoles = omega arith
number-positive TooFewRecords = omega arith
number-positive BadVersion = omega arith
number-positive BadJobLength = omega arith
number-positive BadStep = omega arith
number-positive TooManySteps = omega arith
number-positive BadPadding = omega arith
number-positive TooManyPixels = omega arith
number-positive UnusedBitSet = omega arith

-- only WrongContour has number 8
pub number-eight : (refusal : Refusal) → number refusal ≡ 8 → refusal ≡ WrongContour
number-eight BadSize e = absurd (omega arith)
number-eight BadLength e = absurd (omega arith)
number-eight QueueTooShort e = absurd (omega arith)
number-eight BadPixel e = absurd (omega arith)
number-eight BadConnectivity e = absurd (omega arith)
number-eight BadBorderValue e = absurd (omega arith)
number-eight SeedOutside e = absurd (omega arith)
number-eight WrongContour e = refl
number-eight TooManyComponents e = absurd (omega arith)
number-eight TooManyHoles e = absurd (omega arith)
number-eight TooFewRecords e = absurd (omega arith)
number-eight BadVersion e = absurd (omega arith)
number-eight BadJobLength e = absurd (omega arith)
number-eight BadStep e = absurd (omega arith)
number-eight TooManySteps e = absurd (omega arith)
number-eight BadPadding e = absurd (omega arith)
number-eight TooManyPixels e = absurd (omega arith)
number-eight UnusedBitSet e = absurd (omega arith)

-- the number of a refusal or none, 0 for none
abbrev pub number_of : Option Refusal → ℕ
number_of none = 0
number_of (some refusal) = number refusal

-- 0 is none
pub number_of-zero : (o : Option Refusal) → number_of o ≡ 0 → o ≡ none
number_of-zero none e = refl
number_of-zero (some refusal) e = absurd (omega (arith, number-positive refusal))

-- and 8 is WrongContour
pub number_of-eight : (o : Option Refusal) → number_of o ≡ 8 → o ≡ some WrongContour
number_of-eight none e = absurd (omega arith)
number_of-eight (some refusal) e = ap some (number-eight refusal e)

-- ---- checks

-- a check passes exactly if its condition does not hold
pub refuse_if-none-iff : (b : Bool) (refusal : Refusal) → (refuse_if b refusal ≡ none) ↔ (b ≡ false)
unfolding refuse_if
refuse_if-none-iff true refusal = (λ e. absurd (some-ne-none refusal e), λ e. not-both refl e)
refuse_if-none-iff false refusal = (λ e. refl, λ e. refl)

-- the checks pass exactly if each passes
pub first_refusal-none-iff : (checks : List (Option Refusal)) →
    (first_refusal checks ≡ none) ↔ Each (λ check. check ≡ none) checks
unfolding first_refusal
first_refusal-none-iff [] = (λ e. tt, λ e. refl)
first_refusal-none-iff (none ∷ checks) =
    (λ e. (refl, (first_refusal-none-iff checks).0 e), λ h. (first_refusal-none-iff checks).1 h.1)
first_refusal-none-iff (some refusal ∷ checks) =
    (λ e. absurd (some-ne-none refusal e), λ h. absurd (some-ne-none refusal h.0))

-- two rows pass exactly if each passes
pub first_refusal-append-iff : (checks behind : List (Option Refusal)) →
    (first_refusal (checks ++ behind) ≡ none) ↔ ((first_refusal checks ≡ none) × (first_refusal behind ≡ none))
first_refusal-append-iff checks behind = (
  λ e. (first_refusal-none-left checks behind e, first_refusal-none-right checks behind e),
  λ h. first_refusal-append checks behind h.0 ∙ h.1,
)

-- a refusal that no check gives is not the first
first_refusal-never : (refusal : Refusal) (checks : List (Option Refusal)) →
    Each (λ check. check ≡ some refusal → ⊥) checks →
    first_refusal checks ≡ some refusal → ⊥
unfolding first_refusal
first_refusal-never refusal [] h e = none-ne-some refusal e
first_refusal-never refusal (none ∷ checks) h e = first_refusal-never refusal checks h.1 e
first_refusal-never refusal (some other ∷ checks) h e = h.0 e

-- ---- conditions

-- a side is not bad exactly if it is within the limits
pub bad_side-iff : (limit side : ℕ) → (bad_side limit side ≡ false) ↔ ((1 ≤ side) × (side ≤ limit))
unfolding bad_side
bad_side-iff limit side =
    let small = ltb side 1 in
    let large = ltb limit side in (
      λ e. (ltb-false side 1 (or-false-left small large e), ltb-false limit side (or-false-right small large e)),
      λ h. rw (le-ltb side 1 h.0, le-ltb limit side h.1),
    )

-- a buffer's length is not wrong exactly if it is the one needed
pub wrong_length-iff : (needed : ℕ) (buffer : List ℕ) → (wrong_length needed buffer ≡ false) ↔ (length buffer ≡ needed)
unfolding wrong_length
wrong_length-iff needed buffer =
    let right = eqb (length buffer) needed in
    (λ e. eqb-true (length buffer) needed (not-false right e), λ e. rw (eq-eqb (length buffer) needed e))

-- neither side is bad exactly if both are within the limits
pub sides-iff : (width height : ℕ) →
    (bad_side max_side width || bad_side max_side height ≡ false) ↔ ValidSize width height
sides-iff width height = (
  λ e.
      let across = (bad_side-iff max_side width).0
      (or-false-left (bad_side max_side width) (bad_side max_side height) e) in
      let down = (bad_side-iff max_side height).0
      (or-false-right (bad_side max_side width) (bad_side max_side height) e) in
      record { wide = across.0; narrow = across.1; tall = down.0; low = down.1 },
  λ s. rw ((bad_side-iff max_side width).1 (s.wide, s.narrow)) ((bad_side-iff max_side height).1 (s.tall, s.low)),
)

-- ---- the rows of the table

-- what the row "buffers" asks: sides within the limits, buffers with an entry a pixel, a queue with room
-- for as many positions, and pixels of 0 and 1
pub record BuffersPass (width height : ℕ) (buffers : List (List ℕ))
    (queue : List ℕ) (pixels : List (List ℕ)) : Type 0 where
  pub valid : ValidSize width height
  pub sized : Each (λ buffer. length buffer ≡ width * height) buffers
  pub room : width * height ≤ length queue
  pub bits : Each (λ image. (i : ℕ) → get_or image i 0 ≤ 1) pixels

-- the row "buffers" passes exactly if they have it
pub buffer_checks-iff : (width height : ℕ) (buffers : List (List ℕ)) (queue : List ℕ) (pixels : List (List ℕ)) →
    (first_refusal (buffer_checks width height buffers queue pixels) ≡ none)
    ↔ BuffersPass width height buffers queue pixels
unfolding buffer_checks
buffer_checks-iff width height buffers queue pixels = (
  λ e.
      let h = (first_refusal-none-iff (buffer_checks width height buffers queue pixels)).0 e in
      record {
        valid = (sides-iff width height).0 ((refuse_if-none-iff _ _).0 h.0);
        sized =
            each_map (λ buffer. (wrong_length-iff (width * height) buffer).0) buffers
            (any-false-each (wrong_length (width * height)) buffers ((refuse_if-none-iff _ _).0 h.1.0));
        room = ltb-false (length queue) (width * height) ((refuse_if-none-iff _ _).0 h.1.1.0);
        bits =
            each_map (λ image. (bad_pixel-none-iff image).0) pixels
            (any-false-each (any bad_pixel) pixels ((refuse_if-none-iff _ _).0 h.1.1.1.0));
      },
  λ b.
      (first_refusal-none-iff (buffer_checks width height buffers queue pixels)).1 (
        (refuse_if-none-iff _ _).1 ((sides-iff width height).1 b.valid),
        (
          (refuse_if-none-iff _ _).1
              (each-any-false (wrong_length (width * height)) buffers
              (each_map (λ buffer. (wrong_length-iff (width * height) buffer).1) buffers b.sized)),
          (
            (refuse_if-none-iff _ _).1 (le-ltb (length queue) (width * height) b.room),
            (
              (refuse_if-none-iff _ _).1
                  (each-any-false (any bad_pixel) pixels
                  (each_map (λ image. (bad_pixel-none-iff image).1) pixels b.bits)),
              tt,
            ),
          ),
        ),
      ),
)

-- what the row "operation" asks of a step
abbrev pub StepPasses : ℕ → ℕ → Step → Type 0
StepPasses width height (Erode connectivity border_value n) = (is_connectivity connectivity ≡ true) × (border_value ≤ 1)
StepPasses width height (Dilate connectivity n) = is_connectivity connectivity ≡ true
StepPasses width height (Propagate connectivity n) = is_connectivity connectivity ≡ true
StepPasses width height (FloodFill connectivity x y) = (is_connectivity connectivity ≡ true) × (x < width)
    × (y < height)
StepPasses width height (ClearBorder connectivity) = is_connectivity connectivity ≡ true
StepPasses width height (ErodeBySides connectivity sides n) =
    (is_connectivity connectivity ≡ true) × (sides ≤ all_sides)

-- the connectivity passes exactly if it is 4 or 8
pub connectivity_check-iff : (connectivity : ℕ) →
    (connectivity_check connectivity ≡ none) ↔ (is_connectivity connectivity ≡ true)
unfolding connectivity_check
connectivity_check-iff connectivity = (
  λ e. not-false (is_connectivity connectivity) ((refuse_if-none-iff _ _).0 e),
  λ e. (refuse_if-none-iff _ _).1 (ap not e),
)

-- a row of the connectivity alone
connectivity_row-iff : (connectivity : ℕ) →
    (first_refusal (connectivity_check connectivity ∷ []) ≡ none) ↔ (is_connectivity connectivity ≡ true)
connectivity_row-iff connectivity = (
  λ e. (connectivity_check-iff connectivity).0 ((first_refusal-none-iff (connectivity_check connectivity ∷ [])).0 e).0,
  λ e. (first_refusal-none-iff (connectivity_check connectivity ∷ [])).1
      ((connectivity_check-iff connectivity).1 e, tt),
)

-- a row of the connectivity and of a number with a greatest value
limit_row-iff : (connectivity limit n : ℕ) (refusal : Refusal) →
    (first_refusal (connectivity_check connectivity ∷ refuse_if (ltb limit n) refusal ∷ []) ≡ none)
    ↔ ((is_connectivity connectivity ≡ true) × (n ≤ limit))
limit_row-iff connectivity limit n refusal =
    let row = first_refusal-none-iff (connectivity_check connectivity ∷ refuse_if (ltb limit n) refusal ∷ []) in (
      λ e. let h = row.0 e in
          ((connectivity_check-iff connectivity).0 h.0, ltb-false limit n ((refuse_if-none-iff _ _).0 h.1.0)),
      λ p. row.1 (
        (connectivity_check-iff connectivity).1 p.0,
        ((refuse_if-none-iff _ _).1 (le-ltb limit n p.1), tt),
      ),
    )

-- the row "operation" passes exactly if the step has it
pub step_checks-iff : (width height : ℕ) (step : Step) →
    (first_refusal (step_checks width height step) ≡ none) ↔ StepPasses width height step
unfolding step_checks
step_checks-iff width height
    (Erode connectivity border_value n) = limit_row-iff connectivity 1 border_value BadBorderValue
step_checks-iff width height (Dilate connectivity n) = connectivity_row-iff connectivity
step_checks-iff width height (Propagate connectivity n) = connectivity_row-iff connectivity
step_checks-iff width height (FloodFill connectivity x y) =
    let row = first_refusal-none-iff (step_checks width height (FloodFill connectivity x y)) in (
      λ e. let h = row.0 e in
          let outside : leb width x || leb height y ≡ false = (refuse_if-none-iff _ _).0 h.1.0 in (
            (connectivity_check-iff connectivity).0 h.0,
            leb-false width x (or-false-left (leb width x) (leb height y) outside),
            leb-false height y (or-false-right (leb width x) (leb height y) outside),
          ),
      λ p. row.1 (
        (connectivity_check-iff connectivity).1 p.0,
        ((refuse_if-none-iff _ _).1 (rw (lt-leb width x p.1, lt-leb height y p.2)), tt),
      ),
    )
step_checks-iff width height (ClearBorder connectivity) = connectivity_row-iff connectivity
step_checks-iff width height (ErodeBySides connectivity sides n) =
    limit_row-iff connectivity all_sides sides BadBorderValue

-- what the row "contour handed in" asks of a start
abbrev pub StartPasses : ℕ → ℕ → List ℕ → List ℕ → Start → Type 0
StartPasses width height image queue Scan = Unit {0}
StartPasses width height image queue (Contour n) = is_contour width height image queue n ≡ true

-- the row "contour handed in" passes exactly if the start has it
pub start_checks-iff : (width height : ℕ) (image queue : List ℕ) (start : Start) →
    (first_refusal (start_checks width height image queue start) ≡ none) ↔ StartPasses width height image queue start
unfolding start_checks first_refusal
start_checks-iff width height image queue Scan = (λ e. tt, λ p. refl)
start_checks-iff width height image queue (Contour n) =
    let row = first_refusal-none-iff (start_checks width height image queue (Contour n)) in (
      λ e. not-false (is_contour width height image queue n) ((refuse_if-none-iff _ _).0 (row.0 e).0),
      λ p. row.1 ((refuse_if-none-iff _ _).1 (ap not p), tt),
    )

-- ---- each call

module _ (width height : ℕ) (image queue : List ℕ) where
  -- a scan is not refused exactly if the buffers pass
  pub scan_refusal-iff : (scan_refusal width height image queue ≡ none)
      ↔ BuffersPass width height (image ∷ []) queue (image ∷ [])
  unfolding scan_refusal
  scan_refusal-iff = buffer_checks-iff width height (image ∷ []) queue (image ∷ [])

  -- an operation is not refused exactly if its buffers, its step and its start pass
  pub operation_refusal-iff : (step : Step) (mask : List ℕ) (start : Start) →
      (operation_refusal width height image queue step mask start ≡ none)
      ↔ (BuffersPass width height (image ∷ mask_of step mask) queue (image ∷ mask_of step mask)
      × StepPasses width height step
      × StartPasses width height image queue start)
  unfolding operation_refusal
  operation_refusal-iff step mask start =
      let buffers = image ∷ mask_of step mask in
      let buffer_row = buffer_checks width height buffers queue buffers in
      let step_row = step_checks width height step in
      let start_row = start_checks width height image queue start in (
        λ e.
            let h = (first_refusal-append-iff (buffer_row ++ step_row) start_row).0 e in
            let k = (first_refusal-append-iff buffer_row step_row).0 h.0 in (
              (buffer_checks-iff width height buffers queue buffers).0 k.0,
              (step_checks-iff width height step).0 k.1,
              (start_checks-iff width height image queue start).0 h.1,
            ),
        λ p.
            (first_refusal-append-iff (buffer_row ++ step_row) start_row).1 (
              (first_refusal-append-iff buffer_row step_row).1 (
                (buffer_checks-iff width height buffers queue buffers).1 p.0,
                (step_checks-iff width height step).1 p.1,
              ),
              (start_checks-iff width height image queue start).1 p.2,
            ),
      )

  -- labelling is not refused before it is worked out exactly if its buffers and its connectivity pass
  pub label_refusal-iff : (connectivity : ℕ) (component_labels hole_labels : List ℕ) →
      (label_refusal width height image queue connectivity component_labels hole_labels ≡ none)
      ↔ (BuffersPass width height (image ∷ component_labels ∷ hole_labels ∷ []) queue (image ∷ [])
      × (is_connectivity connectivity ≡ true))
  unfolding label_refusal
  label_refusal-iff connectivity component_labels hole_labels =
      let buffers = image ∷ component_labels ∷ hole_labels ∷ [] in
      let buffer_row = buffer_checks width height buffers queue (image ∷ []) in
      let step_row = connectivity_check connectivity ∷ [] in (
        λ e.
            let h = (first_refusal-append-iff buffer_row step_row).0 e in (
              (buffer_checks-iff width height buffers queue (image ∷ [])).0 h.0,
              (connectivity_row-iff connectivity).0 h.1,
            ),
        λ p.
            (first_refusal-append-iff buffer_row step_row).1 (
              (buffer_checks-iff width height buffers queue (image ∷ [])).1 p.0,
              (connectivity_row-iff connectivity).1 p.1,
            ),
      )

-- ---- a contour handed in

-- no position is on the contour twice
pub occurrences-contour-le : (width height : ℕ) (image : List ℕ) (i : ℕ) →
    occurrences i (contour width height image) ≤ 1
occurrences-contour-le width height image i =
    by-lt i (width * height)
    (λ l. omega (arith, occurrences-contour width height image i l, bit_le (on_contour width height image i)))
    (λ l. omega (arith, occurrences-contour-out width height image i l))

-- the two tests of a contour handed in: every entry is on it, and every position of it is there once
once-each-iff : (positions handed : List ℕ) → ((i : ℕ) → occurrences i positions ≤ 1) →
    ((all (λ i. any (eqb i) positions) handed ≡ true) × (all (λ i. eqb (occurrences i handed) 1) positions ≡ true))
    ↔ ((i : ℕ) → occurrences i handed ≡ occurrences i positions)
once-each-iff positions handed most =
    let test : ℕ → Bool = λ i. eqb (occurrences i handed) 1 in (
      λ h i.
          by-test (any (eqb i) positions)
          (λ m.
          let once = eqb-true (occurrences i handed) 1 (all-member test positions h.1 i m) in
          omega (arith, once, member-occurs i positions m, most i))
          (λ m.
          by-test (any (eqb i) handed) (λ k. not-both (all-member (λ j. any (eqb j) positions) handed h.0 i k) m)
          (λ k. omega (arith, (occurrences-zero-iff i positions).1 m, (occurrences-zero-iff i handed).1 k))),
      λ h. (
        member-all (λ i. any (eqb i) positions) handed
            (λ i m. occurs-member i positions (omega (arith, h i, member-occurs i handed m))),
        member-all test positions
            (λ i m. eq-eqb (occurrences i handed) 1 (omega (arith, h i, member-occurs i positions m, most i))),
      ),
    )

-- a contour handed in passes exactly if the queue's front has each position of the image's contour once and no other
pub is_contour-iff : (width height : ℕ) (image queue : List ℕ) (n : ℕ) →
    (is_contour width height image queue n ≡ true)
    ↔ ((n ≤ length queue) × ((i : ℕ) → occurrences i (take n queue) ≡ occurrences i (contour width height image)))
unfolding is_contour
is_contour-iff width height image queue n =
    let positions = contour width height image in
    let within = leb n (length queue) in
    let only_these = all (λ i. any (eqb i) positions) (take n queue) in
    let each_once = all (λ i. eqb (occurrences i (take n queue)) 1) positions in
    let once = once-each-iff positions (take n queue) (occurrences-contour-le width height image) in (
      λ e.
          let h = and_left (within && only_these) each_once e in (
            leb-true n (length queue) (and_left within only_these h),
            once.0 (and_right within only_these h, and_right (within && only_these) each_once e),
          ),
      λ h.
          let k = once.1 h.1 in
          and_both (within && only_these) each_once
          (and_both within only_these (le-leb n (length queue) h.0) k.0) k.1,
    )

-- a check that does not give 8
abbrev NotEight : Option Refusal → Type 0
NotEight check = check ≡ some WrongContour → ⊥

-- a check by another reason
refuse_if-not-eight : (b : Bool) (refusal : Refusal) → (number refusal ≡ 8 → ⊥) → NotEight (refuse_if b refusal)
unfolding refuse_if
refuse_if-not-eight true refusal h e = h (ap number (some-injective refusal WrongContour e))
refuse_if-not-eight false refusal h e = none-ne-some WrongContour e

-- the rows "buffers" and "operation"
buffer_checks-not-eight : (width height : ℕ) (buffers : List (List ℕ)) (queue : List ℕ) (pixels : List (List ℕ)) →
    Each NotEight (buffer_checks width height buffers queue pixels)
unfolding buffer_checks
buffer_checks-not-eight width height buffers queue pixels = (
  refuse_if-not-eight _ _ (λ e. omega arith),
  (
    refuse_if-not-eight _ _ (λ e. omega arith),
    (refuse_if-not-eight _ _ (λ e. omega arith), (refuse_if-not-eight _ _ (λ e. omega arith), tt)),
  ),
)

step_checks-not-eight : (width height : ℕ) (step : Step) → Each NotEight (step_checks width height step)
unfolding step_checks connectivity_check
step_checks-not-eight width height (Erode connectivity border_value n) =
    (refuse_if-not-eight _ _ (λ e. omega arith), (refuse_if-not-eight _ _ (λ e. omega arith), tt))
step_checks-not-eight width height (Dilate connectivity n) = (refuse_if-not-eight _ _ (λ e. omega arith), tt)
step_checks-not-eight width height (Propagate connectivity n) = (refuse_if-not-eight _ _ (λ e. omega arith), tt)
step_checks-not-eight width height (FloodFill connectivity x y) =
    (refuse_if-not-eight _ _ (λ e. omega arith), (refuse_if-not-eight _ _ (λ e. omega arith), tt))
step_checks-not-eight width height (ClearBorder connectivity) = (refuse_if-not-eight _ _ (λ e. omega arith), tt)
step_checks-not-eight width height (ErodeBySides connectivity sides n) =
    (refuse_if-not-eight _ _ (λ e. omega arith), (refuse_if-not-eight _ _ (λ e. omega arith), tt))

-- only a contour handed in that is not exactly the image's gives 8
pub operation_refusal-eight : (width height : ℕ) (image queue : List ℕ) (step : Step) (mask : List ℕ) (n : ℕ) →
    operation_refusal width height image queue step mask (Contour n) ≡ some WrongContour →
    is_contour width height image queue n ≡ false
unfolding operation_refusal start_checks refuse_if
operation_refusal-eight width height image queue step mask n e =
    let buffers = image ∷ mask_of step mask in
    let buffer_row = buffer_checks width height buffers queue buffers in
    let step_row = step_checks width height step in
    let start_row = start_checks width height image queue (Contour n) in
    let not_buffers = buffer_checks-not-eight width height buffers queue buffers in
    let not_before = each_append NotEight buffer_row step_row not_buffers (step_checks-not-eight width height step) in
    by-test (is_contour width height image queue n)
    (λ c.
    absurd
    (first_refusal-never WrongContour (buffer_row ++ step_row ++ start_row)
    (each_append NotEight (buffer_row ++ step_row) start_row not_before
    (λ k. none-ne-some WrongContour (rw c at k), tt)) e))
    (λ c. c)
