-- Laws of pairs: a pixel and the one `apart` positions behind it are a pair if they add up to 1, so that one is an
-- object and the other a background pixel. Where they are 4-neighbours, one of them is on the contour.
--   is_pair, below_has_pair, row_has_pair   a pair; one among pixels one above the other; one among pixels of a row
--   found_none, found-suc                   a pass that keeps the larger number: none is tested yet, and one more
--   adjacent-ahead                          a 4-neighbour at a later position is the next in the row or one row below
--   below-has_contour, row-has_contour      where there is a pair, a position is on the contour
--   rows_none                               where no pixel and the next one are a pair, none are in a row
--   none-has_contour                        where there is none, no position is
-- Assumes nothing.
use Prim.Native.Nat.{ℕ, suc, ◌+◌, ◌-◌, ◌*◌, ◌≤◌, ◌<◌, max}
use mathlib.Core.Path.{◌≡◌, refl, ◌∙◌}
use mathlib.Core.Bool.{Bool, true, false, ◌||◌, or-false}
use mathlib.Core.Logic.{◌⊎◌, inl, inr, ⊎_elim}
use mathlib.Core.List.{List}
use native.Mathlib.Nat.{suc-mul, mul-sub, mul-one, mul-le-mul_right}
use native.Mathlib.Omega.{arith}
use lib.Dec.{eqb}
use lib.ListN.{get_or}
use borrow.Author.Tests.{eqb-false, ne_eqb}
use Rattle.lists.specs.Lists.{count_from, range, tabulate, any, bit}
use Rattle.lists.proofs.BoolLaws.{by-test, by-eq, by-lt, not-both}
use Rattle.lists.proofs.ListLaws.{some-any, lt-member-range, any-count_from-append, any-count_from-false}
use Rattle.lists.proofs.ListLaws.{false-any-count_from}
use Rattle.neighbours.specs.Grid.{directions, across, down, column, row, position, positions, neighbour}
use Rattle.neighbours.specs.Grid.{neighbour_at, Adjacent}
use Rattle.neighbours.specs.Contour.{on_contour}
use Rattle.neighbours.proofs.PositionLaws.{position-column-row, column-lt, row_lt, width-pos, placed_at}
use Rattle.neighbours.proofs.PositionLaws.{at-placed, row_within}
use Rattle.neighbours.proofs.PositionLaws.{neighbour-position}
use Rattle.neighbours.proofs.DirectionLaws.{across-le, down_le, straight}
use Rattle.neighbours.proofs.GridLaws.{adjacent-lt, adjacent-sym}
use Rattle.neighbours.proofs.ContourLaws.{on_contour-iff}

-- pixel i and the one `apart` positions behind it are an object and a background pixel
abbrev pub is_pair : List ℕ → ℕ → ℕ → Bool
is_pair image apart i = eqb (get_or image i 0 + get_or image (i + apart) 0) 1

-- two pixels one above the other are
abbrev pub below_has_pair : ℕ → ℕ → List ℕ → Bool
below_has_pair width height image = any (is_pair image width) (range (width * height - width))

-- two pixels side by side in row y are
abbrev pub row_has_pair : ℕ → List ℕ → ℕ → Bool
row_has_pair width image y = any (is_pair image 1) (count_from (y * width) (width - 1))

-- a position is on the contour
abbrev pub has_contour : ℕ → ℕ → List ℕ → Bool
has_contour width height image = any (on_contour width height image) (positions width height)

-- ---- a pass that keeps the larger number

-- the larger of two truths as numbers
bit-max : (a b : Bool) → max (bit a) (bit b) ≡ bit (a || b)
bit-max true true = refl
bit-max true false = refl
bit-max false true = refl
bit-max false false = refl

-- no number is tested yet
pub found_none : (f : ℕ → Bool) (from : ℕ) → 0 ≡ bit (any f (count_from from (from - from)))
unfolding any count_from
found_none f from = let e : from - from ≡ 0 = omega arith in rw e

-- one number more is tested
pub found-suc : (f : ℕ → Bool) {from at found found' : ℕ} → from ≤ at →
    found ≡ bit (any f (count_from from (at - from))) →
    found' ≡ max found (bit (f at)) → found' ≡ bit (any f (count_from from (at + 1 - from)))
unfolding any count_from
found-suc f {from} {at} {found} l e m =
    let n = at - from in
    let more : at + 1 - from ≡ n + 1 = omega arith in
    let here : from + n ≡ at = omega arith in
    m ∙ rw (e, bit-max, more, any-count_from-append f from n 1, here, or-false)

-- ---- 4-neighbours

module _ (width height : ℕ) where
  -- where one of the four directions leads to the right or down, and stays inside, is a 4-neighbour
  adjacent-lead : (d x y : ℕ) {i j : ℕ} → any (eqb d) (directions 4) ≡ true → 1 ≤ across d → x + across d ≤ width →
      1 ≤ down d →
      y + down d ≤ height → position width x y ≡ i → position width (x + across d - 1) (y + down d - 1) ≡ j →
      Adjacent width height 4 i j
  unfolding neighbour_at
  adjacent-lead d x y among right in_row below in_column here there =
      record {
        direction = d;
        among = among;
        there = rw (← here, ← there)
            (neighbour-position width height y d (omega arith)
            ∙ at-placed width height _ _ (omega arith) in_row (omega arith) in_column);
      }

  -- a 4-neighbour at a later position is the next in the row or one row below
  adjacent-ahead : {i j : ℕ} → Adjacent width height 4 i j → i < j →
      ((j ≡ i + 1) × (column width i + 1 < width)) ⊎ (j ≡ i + width)
  unfolding neighbour neighbour_at
  adjacent-ahead {i} {j} a l =
      let d = a.direction in
      let y = row width i in
      let p = placed_at width height (column width i + across d) (y + down d) a.there in
      let here = position-column-row width i in
      ⊎_elim
      (λ upright.
      by-lt (down d) 2
      (λ up.
      let above : y + down d - 1 ≤ y = omega arith in
      absurd (omega (arith, p.here, here, mul-le-mul_right width above)))
      (λ lower.
      let next : y + down d - 1 ≡ suc y = omega (arith, down_le d) in
      inr (omega (arith, rw (next, suc-mul) at p.here, here))))
      (λ level.
      let same : y + down d - 1 ≡ y = omega arith in
      let there = rw same at p.here in
      inl (omega (arith, there, here, across-le d), omega (arith, there, here, p.right)))
      (straight d a.among)

  module _ (image : List ℕ) where
    -- where a position of the crop is on the contour, one is
    on_contour-has_contour : (i : ℕ) → i < width * height → on_contour width height image i ≡ true →
        has_contour width height image ≡ true
    on_contour-has_contour i l = some-any (on_contour width height image) _ i (lt-member-range i (width * height) l)

    -- of two 4-neighbours that are an object and a background pixel one is on the contour
    adjacent-has_contour : {i j : ℕ} → i < width * height → Adjacent width height 4 i j →
        get_or image i 0 + get_or image j 0 ≡ 1 →
        has_contour width height image ≡ true
    adjacent-has_contour {i} {j} l a e =
        by-eq (get_or image i 0) 1
        (λ object. on_contour-has_contour i l ((on_contour-iff width height image i).1 (object, (j, a, omega arith))))
        (λ background.
        let back = adjacent-sym width height 4 refl l a in
        let on = (on_contour-iff width height image j).1 (omega arith, (i, back, omega arith)) in
        on_contour-has_contour j (adjacent-lt width height 4 a) on)

    -- so where there is a pair among pixels that each have a 4-neighbour so far apart, a position is on the contour
    pairs-has_contour : (apart from n : ℕ) →
        ((i : ℕ) → from ≤ i → i < from + n → (i < width * height) × Adjacent width height 4 i (i + apart)) →
        any (is_pair image apart) (count_from from n) ≡ true → has_contour width height image ≡ true
    pairs-has_contour apart from n beside e =
        by-test (has_contour width height image) (λ on. on)
        (λ off.
        not-both e
        (false-any-count_from (is_pair image apart) from n
        (λ i first last.
        let (l, a) = beside i first last in
        ne_eqb _ 1 (λ sum. not-both (adjacent-has_contour l a sum) off))))

    -- two pixels one above the other
    pub below-has_contour : below_has_pair width height image ≡ true → has_contour width height image ≡ true
    unfolding across down directions tabulate count_from any
    below-has_contour =
        pairs-has_contour width 0 (width * height - width)
        (λ i _ last.
        let x = column width i in
        let y = row width i in
        let l : i < width * height = omega arith in
        let pos = width-pos width height l in
        let size : width * (height - 1) ≡ width * height - width = mul-sub width height 1 ∙ rw mul-one in
        let bottom = row_lt width (height - 1) i pos (omega arith) in
        let right = column-lt width i pos in
        let here = position-column-row width i in
        let next : y + 2 - 1 ≡ suc y = omega arith in
        let there : position width (x + 1 - 1) (y + 2 - 1) ≡ i + width = rw (next, suc-mul) (omega (arith, here)) in
        (l, adjacent-lead 6 x y refl (omega arith) (omega arith) (omega arith) (omega arith) here there))

    -- two pixels side by side in a row
    pub row-has_contour : (y : ℕ) → y < height → row_has_pair width image y ≡ true →
        has_contour width height image ≡ true
    unfolding across down directions tabulate count_from any
    row-has_contour y ly =
        pairs-has_contour 1 (y * width) (width - 1)
        (λ i first last.
        let x = i - y * width in
        let l : i < width * height = omega (arith, row_within width ly) in
        let here : position width x y ≡ i = omega arith in
        let same : y + 1 - 1 ≡ y = omega arith in
        let there : position width (x + 2 - 1) (y + 1 - 1) ≡ i + 1 = rw same (omega arith) in
        (l, adjacent-lead 0 x y refl (omega arith) (omega arith) (omega arith) (omega arith) here there))

    -- where no pixel and the next one are a pair, none are in a row
    pub rows_none : any (is_pair image 1) (range (width * height - 1)) ≡ false →
        any (row_has_pair width image) (range height) ≡ false
    rows_none none =
        false-any-count_from (row_has_pair width image) 0 height
        (λ y _ last.
        false-any-count_from (is_pair image 1) (y * width) (width - 1)
        (λ i first end.
        any-count_from-false (is_pair image 1) 0 (width * height - 1) none i (omega arith)
        (omega (arith, row_within width {height = height} {y = y} (omega arith)))))

    module _ (below : below_has_pair width height image ≡ false)
        (beside : any (row_has_pair width image) (range height) ≡ false) where
      -- where none is found, a pixel and a 4-neighbour at a later position are no pair
      not-ahead : {i j : ℕ} → i < width * height → Adjacent width height 4 i j → i < j →
          get_or image i 0 + get_or image j 0 ≡ 1 → ⊥
      not-ahead {i} {j} l a later sum =
          let here = position-column-row width i in
          let y = row width i in
          ⊎_elim
          (λ h.
          let bottom = row_lt width height i (width-pos width height l) l in
          let none = any-count_from-false (row_has_pair width image) 0 height beside y (omega arith) (omega arith) in
          let off = any-count_from-false (is_pair image 1) (y * width) (width - 1) none i (omega arith)
          (omega (arith, h.1)) in
          eqb-false _ 1 off (rw h.0 at sum))
          (λ e.
          let inside = adjacent-lt width height 4 a in
          let off = any-count_from-false (is_pair image width) 0 _ below i (omega arith) (omega arith) in
          eqb-false _ 1 off (rw e at sum))
          (adjacent-ahead a later)

      -- nor are any two 4-neighbours
      not-adjacent : {i j : ℕ} → i < width * height → Adjacent width height 4 i j →
          get_or image i 0 + get_or image j 0 ≡ 1 → ⊥
      not-adjacent {i} {j} l a sum =
          by-lt i j (λ later. not-ahead l a later sum)
          (λ le.
          by-lt j i
          (λ later. not-ahead (adjacent-lt width height 4 a) (adjacent-sym width height 4 refl l a) later (omega arith))
          (λ ge. let e : j ≡ i = omega arith in let twice = rw e at sum in omega arith))

      -- so no position is on the contour
      pub none-has_contour : has_contour width height image ≡ false
      none-has_contour =
          false-any-count_from (on_contour width height image) 0 (width * height)
          (λ i _ last.
          by-test (on_contour width height image i)
          (λ on.
          let (object, (j, a, background)) = (on_contour-iff width height image i).0 on in
          absurd (not-adjacent (omega arith) a (omega arith)))
          (λ off. off))
