-- Laws of what lies beyond the edge (`specs/Grid.antt`), by the sides that count as object.
--   background                     a place is background for one side
--   beyond-one                     beyond one side it is object exactly if that one is named
--   beyond-two                     beyond two sides it is object exactly if both are
--   beyond-tests                   what lies outside is object unless it is background for a side
--   beyond-le                      it is one of the two
--   beyond-top .. beyond-left      it is background where it lies beyond a side that is not named
--   beyond-zero                    and what is background lies beyond such a side
--   NoneBeyond                     nothing outside has the value
--   beyond-all, all-object         where all sides are named, all that lies outside is object
--   beyond-none, none-object       where none is, all of it is background
--   neighbour_value-beyond         a neighbour outside is what lies beyond
--   has_neighbour-surrounded       where all that lies outside is the same, neighbours have that value outside
--   neighbour_value-at, -outside   the value of a neighbour by column and row: a pixel's, or what lies beyond
-- Assumes nothing.
use Prim.Native.Nat.{ℕ, ◌+◌, ◌≤◌, ◌<◌}
use mathlib.Core.Path.{◌≡◌, refl, ap, ◌∙◌}
use mathlib.Core.Bool.{Bool, true, false, cond, ◌&&◌, not, and-true, and-false}
use mathlib.Core.Logic.{◌⊎◌, inl, inr}
use mathlib.Core.List.{List, [], ◌∷◌}
use native.Mathlib.Omega.{arith}
use lib.Dec.{eqb, ltb}
use lib.ListN.{get_or}
use borrow.Author.Tests.{ltb-true, lt-ltb, not-true}
use Rattle.lists.specs.Lists.{any, all, bit}
use Rattle.lists.proofs.BoolLaws.{by-test, by-lt, and_left, and_right, bit_le}
use Rattle.lists.proofs.ListLaws.{any_same, all_append}
use Rattle.std.specs.Prelude.{Option, Some, None}
use Rattle.neighbours.specs.Grid.{top_side, right_side, bottom_side, left_side, no_side, all_sides, has_side, placed}
use Rattle.neighbours.specs.Grid.{passed_sides, beyond, across, down, position, neighbour_at, value_at}
use Rattle.neighbours.specs.Grid.{directions, column, row, neighbour, neighbour_value, has_neighbour}
use Rattle.neighbours.proofs.PositionLaws.{at-placed, neighbour-position, column-position, row-position}

-- a place is background for a side: it lies beyond the side, which does not count as object
abbrev pub background : Bool → ℕ → ℕ → Bool
background past sides side = past && not (has_side sides side)

-- of the sides that a place may lie beyond, one
all-passed : (past : Bool) (sides side : ℕ) →
    all (has_side sides) (cond past (side ∷ []) []) ≡ not (background past sides side)
unfolding all
all-passed true sides side = by-test (has_side sides side) (λ e. rw e) (λ e. rw e)
all-passed false sides side = refl

module _ (width height sides x y : ℕ) where
  -- beyond one side it is object exactly if that side is named
  pub beyond-one : (a : ℕ) → passed_sides width height x y ≡ a ∷ [] →
      beyond width height sides x y ≡ bit (has_side sides a)
  unfolding beyond any all
  beyond-one a e = rw e (ap bit (and-true (has_side sides a)))

  -- "A diagonal outside pixel beyond two sides is object only if both are"
  pub beyond-two : (a b : ℕ) → passed_sides width height x y ≡ a ∷ b ∷ [] →
      beyond width height sides x y ≡ bit (has_side sides a && has_side sides b)
  unfolding beyond any all
  beyond-two a b e = rw e (ap bit (ap (◌&&◌ (has_side sides a)) (and-true (has_side sides b))))

  -- what lies outside is object unless it is background for a side
  pub beyond-tests : beyond width height sides x y
      ≡ bit
      (not (background (ltb y 1) sides top_side)
      && not (background (ltb width x) sides right_side)
      && not (background (ltb height y) sides bottom_side)
      && not (background (ltb x 1) sides left_side))
  unfolding beyond passed_sides
  beyond-tests =
      rw (
        all_append,
        all_append,
        all_append,
        all-passed (ltb y 1) sides top_side,
        all-passed (ltb width x) sides right_side,
        all-passed (ltb height y) sides bottom_side,
        all-passed (ltb x 1) sides left_side,
      )

  -- it is one of the two
  pub beyond-le : beyond width height sides x y ≤ 1
  unfolding beyond
  beyond-le = bit_le (all (has_side sides) (passed_sides width height x y))

  -- it is background where it lies beyond a side that is not named
  pub beyond-top : y < 1 → has_side sides top_side ≡ false → beyond width height sides x y ≡ 0
  beyond-top past unnamed = beyond-tests ∙ rw (lt-ltb y 1 past, unnamed)

  pub beyond-right : width < x → has_side sides right_side ≡ false → beyond width height sides x y ≡ 0
  beyond-right past unnamed = beyond-tests ∙ rw (lt-ltb width x past, unnamed, and-false)

  pub beyond-bottom : height < y → has_side sides bottom_side ≡ false → beyond width height sides x y ≡ 0
  beyond-bottom past unnamed = beyond-tests ∙ rw (lt-ltb height y past, unnamed, and-false)

  pub beyond-left : x < 1 → has_side sides left_side ≡ false → beyond width height sides x y ≡ 0
  beyond-left past unnamed = beyond-tests ∙ rw (lt-ltb x 1 past, unnamed, and-false)

  -- what is background lies beyond such a side
  pub beyond-zero : beyond width height sides x y ≡ 0 →
      (((y < 1) × (has_side sides top_side ≡ false)) ⊎ ((width < x) × (has_side sides right_side ≡ false)))
      ⊎ (((height < y) × (has_side sides bottom_side ≡ false)) ⊎ ((x < 1) × (has_side sides left_side ≡ false)))
  beyond-zero e =
      let a = background (ltb y 1) sides top_side in
      let b = background (ltb width x) sides right_side in
      let c = background (ltb height y) sides bottom_side in
      let d = background (ltb x 1) sides left_side in
      by-test a (λ t. inl (inl (unnamed y 1 top_side t)))
      (λ f.
      by-test b (λ t. inl (inr (unnamed width x right_side t)))
      (λ g.
      by-test c (λ t. inr (inl (unnamed height y bottom_side t)))
      (λ h.
      by-test d (λ t. inr (inr (unnamed x 1 left_side t)))
      (λ i. absurd (omega (arith, e, rw (f, g, h, i) at beyond-tests))))))
    where
      unnamed : (n m side : ℕ) → background (ltb n m) sides side ≡ true →
          (n < m) × (has_side sides side ≡ false)
      unnamed n m side t = (
        ltb-true n m (and_left (ltb n m) (not (has_side sides side)) t),
        not-true (has_side sides side) (and_right (ltb n m) (not (has_side sides side)) t),
      )

module _ (width height : ℕ) where
  -- nothing outside has the value
  abbrev pub NoneBeyond : ℕ → ℕ → Type 0
  NoneBeyond sides value =
      (x y : ℕ) → placed width height x y ≡ None → beyond width height sides x y ≡ value → ⊥

  -- where all sides count as object, all that lies outside is object
  pub beyond-all : (x y : ℕ) → beyond width height all_sides x y ≡ 1
  unfolding has_side
  beyond-all x y = beyond-tests width height all_sides x y ∙ rw (and-false, and-false, and-false, and-false)

  pub all-object : NoneBeyond all_sides 0
  all-object x y out e = omega (arith, e, beyond-all x y)

  -- where none does, all of it is background
  pub beyond-none : (x y : ℕ) → placed width height x y ≡ None → beyond width height no_side x y ≡ 0
  unfolding has_side
  beyond-none x y out =
      by-lt y 1 (λ l. beyond-top width height no_side x y l refl)
      (λ top.
      by-lt width x (λ l. beyond-right width height no_side x y l refl)
      (λ right.
      by-lt height y (λ l. beyond-bottom width height no_side x y l refl)
      (λ bottom.
      by-lt x 1 (λ l. beyond-left width height no_side x y l refl)
      (λ left.
      let here = at-placed width height x y left right top bottom in
      let z : ◌≡◌ {A = ℕ} 0 1 = cc in
      absurd (omega arith)))))

  pub none-object : NoneBeyond no_side 1
  none-object x y out e = omega (arith, e, beyond-none x y out)

-- a place has the same value for two values of what lies outside, where it is inside or they are the same
value_at-same : (a b : ℕ) (image : List ℕ) (place : Option ℕ) → (place ≡ None → a ≡ b) →
    value_at a image place ≡ value_at b image place
unfolding value_at
value_at-same a b image (Some j) same = refl
value_at-same a b image None same = same refl

module _ (width height sides : ℕ) (image : List ℕ) where
  -- a neighbour outside is what lies beyond
  pub neighbour_value-beyond : (i d : ℕ) → neighbour width height i d ≡ None →
      neighbour_value width height sides image i d
      ≡ beyond width height sides (column width i + across d) (row width i + down d)
  unfolding neighbour_value value_at
  neighbour_value-beyond i d e = rw e

  -- where all that lies outside is the same, neighbours have that value outside
  pub has_neighbour-surrounded : (outside : ℕ) →
      ((x y : ℕ) → placed width height x y ≡ None → beyond width height sides x y ≡ outside) →
      (connectivity value i : ℕ) →
      has_neighbour width height connectivity sides value image i
      ≡ any (λ d. eqb (value_at outside image (neighbour width height i d)) value) (directions connectivity)
  unfolding has_neighbour neighbour_value neighbour neighbour_at
  has_neighbour-surrounded outside same connectivity value i =
      any_same _ _ (directions connectivity)
      (λ d.
      ap (λ (v : ℕ). eqb v value) (value_at-same _ outside image (neighbour width height i d) (same _ _)))

-- the value of a neighbour of column x and row y: a pixel's, or what lies beyond
pub neighbour_value-at : (width height sides : ℕ) (image : List ℕ) {x : ℕ} (y d : ℕ) {j : ℕ} → x < width →
    neighbour_at width height x y d ≡ Some j →
    neighbour_value width height sides image (position width x y) d ≡ get_or image j 0
unfolding neighbour_value value_at
neighbour_value-at width height sides image y d l e = rw (neighbour-position width height y d l, e)

pub neighbour_value-outside : (width height sides : ℕ) (image : List ℕ) {x : ℕ} (y d : ℕ) → x < width →
    neighbour_at width height x y d ≡ None →
    neighbour_value width height sides image (position width x y) d
    ≡ beyond width height sides (x + across d) (y + down d)
unfolding neighbour_value value_at
neighbour_value-outside width height sides image y d l e =
    rw (neighbour-position width height y d l, e, column-position width y l, row-position width y l)
