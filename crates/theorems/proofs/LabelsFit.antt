-- Point 1 of document 02: the claims of `specs/Claims.antt` on labels of 16 bits.
--   labels-fit      labelling a crop of at most 65,536 pixels gives neither 9 nor 10
--   labels-narrow   what an accepted labelling counts, and writes into its maps, fits 16 bits
-- Assumes nothing.
use Prim.Native.Nat.{ℕ, ◌*◌, ◌≤◌, ◌<◌}
use mathlib.Core.Path.{◌≡◌, refl, sym, ap, ◌∙◌}
use mathlib.Core.Bool.{Bool, true, false}
use mathlib.Core.List.{List, [], ◌∷◌}
use mathlib.Core.Option.{Option, none, some}
use native.Mathlib.Nat.{mul-pos}
use native.Mathlib.Omega.{arith}
use lib.Dec.{ltb}
use lib.ListN.{length}
use borrow.Author.Tests.{le-ltb}
use Rattle.lists.proofs.BoolLaws.{by-test, by-lt}
use Rattle.neighbours.specs.Grid.{is_connectivity}
use Rattle.model.specs.Limits.{max_labels, record_length, u16_limit}
use Rattle.model.specs.Labelling.{Labels, components, holes}
use Rattle.model.specs.Refusals.{number, refuse_if, first_refusal, buffer_checks, connectivity_check, label_refusal}
use Rattle.model.specs.Refusals.{label_checks}
use Rattle.model.specs.Calls.{Reply, reply_number, lent, labels_unless, label_unless, call}
use Rattle.model.specs.Claims.{IsAccepted, LabelsFit, NarrowLabels, LabelsNarrow}
use Rattle.model.specs.declared.Refusal.{Refusal}
use Rattle.model.specs.declared.Refusal.TheVariants.{BadSize, BadLength, QueueTooShort, BadPixel, BadConnectivity}
use Rattle.theorems.proofs.CheckLaws.{first_refusal-nil}
use Rattle.theorems.proofs.RefusalLaws.{number_of, number-positive, label_refusal-iff}
use Rattle.theorems.proofs.LabellingLaws.{count-lt, holes-count-lt, first_pixel-lt, first_pixel-order, label-le}
use Rattle.theorems.proofs.LabellingLaws.{hole-label-le}
use Rattle.theorems.proofs.LimitLaws.{count_fits}

-- ---- the counts

-- a crop of at most 65,536 pixels has no more components than a map can hold
components-le : (width height connectivity : ℕ) (image : List ℕ) → is_connectivity connectivity ≡ true →
    width * height ≤ u16_limit → (components width height connectivity image).count ≤ max_labels
components-le width height connectivity image c small =
    let count = (components width height connectivity image).count in
    by-lt 1 (width * height) (λ two. omega (arith, count-lt width height connectivity image c two))
    (λ one.
    by-lt 1 count
    (λ many.
    let order = first_pixel-order width height connectivity image c 1 2 (omega arith) (omega arith) many in
    let inside = first_pixel-lt width height connectivity image c 2 (omega arith) many in
    absurd (omega arith))
    (λ few. omega arith))

-- ---- the number of a reply

-- checks that refuse with low numbers alone give a low number
first_refusal-le : (most : ℕ) (t : Bool) (refusal : Refusal) (checks : List (Option Refusal)) →
    number refusal ≤ most → number_of (first_refusal checks) ≤ most →
    number_of (first_refusal (refuse_if t refusal ∷ checks)) ≤ most
unfolding refuse_if first_refusal
first_refusal-le most true refusal checks low rest = low
first_refusal-le most false refusal checks low rest = rest

-- what is judged before labelling is worked out gives at most 5
label_refusal-le : (width height : ℕ) (image queue : List ℕ) (connectivity : ℕ)
    (component_labels hole_labels : List ℕ) →
    number_of (label_refusal width height image queue connectivity component_labels hole_labels) ≤ 5
unfolding label_refusal buffer_checks connectivity_check
label_refusal-le width height image queue connectivity component_labels hole_labels =
    first_refusal-le 5 _ BadSize _ (omega arith)
    (first_refusal-le 5 _ BadLength _ (omega arith)
    (first_refusal-le 5 _ QueueTooShort _ (omega arith)
    (first_refusal-le 5 _ BadPixel _ (omega arith)
    (first_refusal-le 5 _ BadConnectivity [] (omega arith) (rw first_refusal-nil (omega arith))))))

-- neither 9 nor 10
Neither : ℕ → Type 0
Neither n = (n ≡ 9 → ⊥) × (n ≡ 10 → ⊥)

module _ (width height connectivity : ℕ) (image queue component_labels hole_labels records : List ℕ) where
  abbrev cs : Labels
  cs = components width height connectivity image

  abbrev hs : Labels
  hs = holes width height connectivity image

  -- the answer by the counts, and by what is judged before
  abbrev counted : Option Refusal → Reply
  counted o = labels_unless width height o cs hs records

  abbrev answer : Option Refusal → Reply
  answer o =
      (label_unless width height o (lent image queue) cs hs component_labels hole_labels records).reply

  -- ---- neither 9 nor 10

  -- counts that a map can hold are refused for the records alone
  neither-counted : cs.count ≤ max_labels → hs.count ≤ max_labels →
      Neither (reply_number (counted (first_refusal (label_checks cs.count hs.count records))))
  unfolding label_checks refuse_if first_refusal labels_unless reply_number Neither
  neither-counted few few_holes =
      rw (le-ltb max_labels cs.count few, le-ltb max_labels hs.count few_holes)
      (by-test (ltb (length records) (record_length * cs.count))
      (λ short. rw short (λ e. omega arith, λ e. omega arith))
      (λ enough. rw enough (λ e. omega arith, λ e. omega arith)))

  -- so neither arises where a labelling is refused with at most 5, or else its counts are such
  neither-answer : (o : Option Refusal) → number_of o ≤ 5 →
      (o ≡ none → (cs.count ≤ max_labels) × (hs.count ≤ max_labels)) → Neither (reply_number (answer o))
  unfolding label_unless reply_number Neither
  neither-answer (some refusal) low fits = (λ e. omega arith, λ e. omega arith)
  neither-answer none low fits = neither-counted (fits refl).0 (fits refl).1

  -- ---- 16 bits

  -- counts that are accepted fit, and no label is above its count
  narrow-counted : (o : Option Refusal) → is_connectivity connectivity ≡ true →
      first_refusal (label_checks cs.count hs.count records) ≡ o →
      IsAccepted (counted o) → NarrowLabels (counted o)
  unfolding labels_unless reply_number
  narrow-counted (some refusal) c e accepted = absurd (omega (arith, number-positive refusal))
  narrow-counted none c e accepted =
      let (few, few_holes, room) = count_fits cs.count hs.count records e in (
        omega arith,
        omega arith,
        λ i. (
          omega (arith, label-le width height connectivity image c i),
          omega (arith, hole-label-le width height connectivity image i),
        ),
      )

  -- so those of an accepted labelling do
  narrow-answer : (o : Option Refusal) → (o ≡ none → is_connectivity connectivity ≡ true) →
      IsAccepted (answer o) → NarrowLabels (answer o)
  unfolding label_unless reply_number
  narrow-answer (some refusal) c accepted = absurd (omega (arith, number-positive refusal))
  narrow-answer none c accepted = narrow-counted _ (c refl) refl accepted

-- ---- the claims

-- neither 9 nor 10 arises
pub labels-fit : LabelsFit
unfolding call Neither
labels-fit width height image queue image' queue' connectivity component_labels hole_labels records r small m =
    rw m.replied
    (neither-answer width height connectivity image queue component_labels hole_labels records _
    (label_refusal-le width height image queue connectivity component_labels hole_labels)
    (λ passes.
    let (buffers, c) = (label_refusal-iff width height image queue connectivity component_labels hole_labels).0 passes
    in
    let valid = buffers.valid in
    let pos : 0 < width * height = mul-pos valid.wide valid.tall in (
      components-le width height connectivity image c small,
      omega (arith, holes-count-lt width height connectivity image pos),
    )))

-- an accepted labelling's numbers fit 16 bits
pub labels-narrow : LabelsNarrow
unfolding call
labels-narrow width height image queue image' queue' connectivity component_labels hole_labels records r m accepted =
    rw m.replied
    (narrow-answer width height connectivity image queue component_labels hole_labels records _
    (λ passes. ((label_refusal-iff width height image queue connectivity component_labels hole_labels).0 passes).1)
    (ap reply_number (sym m.replied) ∙ accepted))
