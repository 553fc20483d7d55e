-- Laws of `record_before` (`specs/Records.antt`): a component's record by one stretch, or one hole, more.
-- Assumes nothing.
--   record_before-other, -extended, -started     one stretch more: of another component, a further one, the first
--   record_before-apart, -enclosing              one hole more: in another component, in this one
--   record_before-all                            by all pixels and all holes
--   record_before-area-le, -holes-le             bounds of the two figures that are counted
use Prim.Native.Nat.{ℕ, suc, ◌+◌, ◌-◌, ◌*◌, ◌≤◌, ◌<◌, zero-le}
use mathlib.Core.Path.{◌≡◌, refl, ap, ◌∙◌}
use mathlib.Core.Bool.{Bool}
use mathlib.Core.List.{List, [], ◌∷◌}
use native.Mathlib.Omega.{arith}
use native.Mathlib.Numerals.{one-add, sub-one}
use lib.Dec.{eqb}
use lib.ListN.{length, get_or, length-append}
use borrow.Author.Tests.{eq-eqb, ne_eqb}
use Rattle.lists.specs.Lists.{range, count_from, select, Each}
use Rattle.lists.proofs.BoolLaws.{by-lt, not-both}
use Rattle.lists.proofs.ListLaws.{any-count_from-false, select-count_from-yes, select-count_from-no}
use Rattle.lists.proofs.ListLaws.{select-count_from-none}
use Rattle.lists.proofs.ListLaws.{select-range-yes, select-range-no, length-select-zero-iff}
use Rattle.lists.proofs.ListLaws.{length-select-count_from-le}
use Rattle.lists.proofs.ListLaws.{each-select-count_from}
use Rattle.neighbours.specs.Grid.{column, row, position}
use Rattle.neighbours.proofs.PositionLaws.{column-position, row-position, row-le}
use Rattle.model.specs.Labelling.{Labels, pixels_of, first_pixel, hole_parent, parent, holes_in, record_of}
use Rattle.component_records.specs.Records.{started_record, extended_record, enclosing_record, record_before}
use Rattle.component_records.proofs.RecordLaws.{extended-started, extended-extended}
use Rattle.component_records.proofs.SameLabelLaws.{stepwise, position-suc}
use Rattle.component_records.proofs.LeastLaws.{least-one, greatest-one, least-map-append, greatest-map-append}
use Rattle.component_records.proofs.LeastLaws.{least-map-above, greatest-map-above}

module _ (width height : ℕ) (cs hs : Labels) where
  abbrev label : ℕ → ℕ
  label i = get_or cs.labels i 0

  -- the tests that a record is written with: a pixel of component p, and a hole in it
  abbrev has : ℕ → ℕ → Bool
  has p i = eqb (label i) p

  abbrev encloses : ℕ → ℕ → Bool
  encloses p hole = eqb (hole_parent width height cs.labels hs.labels hole) p

  -- a pixel is a stretch of one column
  one-column : (x : ℕ) → suc x - x ≡ 1
  one-column x = omega arith

  module _ (n holes p : ℕ) where
    -- a pixel of another component, or of none
    other-pixel : (label n ≡ p → ⊥) →
        record_before width height cs hs (suc n) holes p ≡ record_before width height cs hs n holes p
    unfolding record_before
    other-pixel other = rw (select-range-no (has p) n (ne_eqb (label n) p other))

    -- a further pixel of the component
    further-pixel : 0 < width → label n ≡ p → first_pixel width height cs.labels p < n →
        label (first_pixel width height cs.labels p) ≡ p →
        record_before width height cs hs (suc n) holes p
        ≡ extended_record (column width n) (suc (column width n)) (row width n)
        (record_before width height cs hs n holes p)
    unfolding record_before extended_record
    further-pixel wide here before first =
        let is = select (has p) (range n) in
        let some : 1 ≤ length is =
        by-lt 0 (length is) (λ some. some)
        (λ none.
        let empty = (length-select-zero-iff (has p) (range n)).0 (omega arith) in
        not-both (eq-eqb _ p first) (any-count_from-false (has p) 0 n empty _ zero-le (omega arith))) in
        let rows : Each (λ j. row width j ≤ row width n) is =
        each-select-count_from _ (has p) 0 n (λ k from to. row-le width wide (omega arith)) in
        rw (
          select-range-yes (has p) n (eq-eqb (label n) p here),
          length-append is (n ∷ []),
          least-map-append (column width) is n some,
          greatest-map-append (column width) is n,
          least-map-above (row width) is n some rows,
          greatest-map-above (row width) is n rows,
          one-column (column width n),
          sub-one (suc (column width n)),
        )

    -- the component's first pixel, before which none of it stands, nor the first pixel of a hole in it
    first-pixel : first_pixel width height cs.labels p ≡ n → label n ≡ p →
        ((j : ℕ) → j < n → label j ≡ p → ⊥) →
        ((hole : ℕ) → 1 ≤ hole → hole ≤ holes → hole_parent width height cs.labels hs.labels hole ≡ p → ⊥) →
        record_before width height cs hs (suc n) holes p
        ≡ started_record p (column width n) (suc (column width n)) (row width n)
        (parent width height cs.labels hs.labels p)
    unfolding record_before started_record
    first-pixel first here before apart =
        rw (
          select-range-yes (has p) n (eq-eqb (label n) p here),
          select-count_from-none (has p) 0 n (λ k from to. ne_eqb (label k) p (before k (omega arith))),
          select-count_from-none (encloses p) 1 holes (λ k from to. ne_eqb _ p (apart k from (omega arith))),
          first,
          least-one (column width n),
          least-one (row width n),
          greatest-one (column width n),
          greatest-one (row width n),
          one-column (column width n),
          sub-one (suc (column width n)),
        )

    -- a hole that another component encloses
    pub record_before-apart : (hole_parent width height cs.labels hs.labels (suc holes) ≡ p → ⊥) →
        record_before width height cs hs n (suc holes) p ≡ record_before width height cs hs n holes p
    unfolding record_before
    record_before-apart apart =
        rw (select-count_from-no (encloses p) 1 holes (ap (encloses p) (one-add holes) ∙ ne_eqb _ p apart))

    -- a hole that this one encloses
    pub record_before-enclosing : hole_parent width height cs.labels hs.labels (suc holes) ≡ p →
        record_before width height cs hs n (suc holes) p ≡ enclosing_record (record_before width height cs hs n holes p)
    unfolding record_before enclosing_record
    record_before-enclosing within =
        rw (
          select-count_from-yes (encloses p) 1 holes (ap (encloses p) (one-add holes) ∙ eq-eqb _ p within),
          length-append (select (encloses p) (count_from 1 holes)) ((1 + holes) ∷ []),
        )

    -- the area is at most n, and so many holes are at most all
    pub record_before-area-le : get_or (record_before width height cs hs n holes p) 3 0 ≤ n
    unfolding record_before
    record_before-area-le = length-select-count_from-le (has p) 0 n

    pub record_before-holes-le : get_or (record_before width height cs hs n holes p) 8 0 ≤ holes
    unfolding record_before
    record_before-holes-le = length-select-count_from-le (encloses p) 1 holes

  -- ---- runs

  module _ (holes p : ℕ) where
    -- pixels of other components, or of none
    pub record_before-other : {n to : ℕ} → n ≤ to → ((i : ℕ) → n ≤ i → i < to → label i ≡ p → ⊥) →
        record_before width height cs hs to holes p ≡ record_before width height cs hs n holes p
    record_before-other {n} le other =
        stepwise (λ i. record_before width height cs hs i holes p ≡ record_before width height cs hs n holes p) le refl
        (λ i from upto e. other-pixel i holes p (other i from upto) ∙ e)

    module _ (x end y : ℕ) (some : x < end) (within : end ≤ width)
        (labels-are : (i : ℕ) → position width x y ≤ i → i < position width end y → label i ≡ p)
        (first : label (first_pixel width height cs.labels p) ≡ p) where
      -- the record before column k of the row
      abbrev before : ℕ → List ℕ
      before k = record_before width height cs hs (position width k y) holes p

      -- a further column
      further-column : (k : ℕ) → x ≤ k → k < end → first_pixel width height cs.labels p < position width k y →
          before (suc k) ≡ extended_record k (suc k) y (before k)
      further-column k from upto behind =
          let wide : 0 < width = omega arith in
          let inside : k < width = omega arith in
          let here = labels-are (position width k y) (omega arith) (omega arith) in
          let one = further-pixel (position width k y) holes p wide here behind first in
          rw (position-suc width k y) (rw (column-position width y inside, row-position width y inside) at one)

      -- a further stretch
      pub record_before-extended : first_pixel width height cs.labels p < position width x y →
          before end ≡ extended_record x end y (before x)
      record_before-extended behind =
          stepwise (λ k. before k ≡ extended_record x k y (before x)) {from = suc x} some
          (further-column x (omega arith) some behind)
          (λ k from upto e.
          further-column k (omega arith) upto (omega arith)
          ∙ ap (extended_record k (suc k) y) e
          ∙ extended-extended (omega arith) (omega arith) y (before x))

      -- the first stretch: no pixel of the component stands before it, nor the first pixel of a hole in it
      pub record_before-started : first_pixel width height cs.labels p ≡ position width x y →
          ((j : ℕ) → j < position width x y → label j ≡ p → ⊥) →
          ((hole : ℕ) → 1 ≤ hole → hole ≤ holes → hole_parent width height cs.labels hs.labels hole ≡ p → ⊥) →
          before end ≡ started_record p x end y (parent width height cs.labels hs.labels p)
      record_before-started here lower apart =
          let inside : x < width = omega arith in
          let above = parent width height cs.labels hs.labels p in
          let start = labels-are (position width x y) (omega arith) (omega arith) in
          let one = first-pixel (position width x y) holes p here start lower apart in
          stepwise (λ k. before k ≡ started_record p x k y above) {from = suc x} some
          (rw (position-suc width x y) (rw (column-position width y inside, row-position width y inside) at one))
          (λ k from upto e.
          further-column k (omega arith) upto (omega arith)
          ∙ ap (extended_record k (suc k) y) e
          ∙ extended-started (omega arith) (omega arith) p y above)

  -- by all pixels and all holes it is the component's record
  pub record_before-all : (p : ℕ) →
      record_before width height cs hs (width * height) hs.count p ≡ record_of width height cs.labels hs p
  unfolding record_before record_of pixels_of holes_in
  record_before-all p = refl
