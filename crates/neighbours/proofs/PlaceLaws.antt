-- Laws of the values at places, by column and row counted from one (`specs/Words.antt`).
--   place_value-inside             the pixel's
--   place_value-top .. -left       beyond one side, whether it is named
--   place_value-corner             beyond a corner, object where both sides are
--   place_value-le                 all of them are 0 or 1
--   neighbour_value-place          a neighbour's value is the one at its place
-- Assumes nothing.
use Prim.Native.Nat.{ℕ, ◌+◌, ◌-◌, ◌≤◌, ◌<◌}
use mathlib.Core.Path.{◌≡◌, refl, ◌∙◌}
use mathlib.Core.Bool.{false}
use mathlib.Core.List.{List}
use mathlib.Core.Logic.{◌⊎◌, ⊎_elim}
use native.Mathlib.Omega.{arith}
use lib.ListN.{get_or}
use borrow.Author.Tests.{lt-ltb, le-ltb}
use Rattle.lists.specs.Lists.{bit}
use Rattle.lists.proofs.BoolLaws.{by-lt}
use Rattle.std.specs.Prelude.{Option, Some, None}
use Rattle.neighbours.specs.Grid.{top_side, right_side, bottom_side, left_side, has_side, position, placed, value_at}
use Rattle.neighbours.specs.Grid.{across, down, passed_sides, beyond, neighbour_at, neighbour_value}
use Rattle.neighbours.specs.Words.{place_value}
use Rattle.neighbours.proofs.PositionLaws.{column-position, row-position, neighbour-position}
use Rattle.neighbours.proofs.PositionLaws.{at-placed, placed-left, placed-right, placed-top, placed-bottom}
use Rattle.neighbours.proofs.SideLaws.{beyond-one, beyond-le, beyond-zero}
use Rattle.neighbours.proofs.SideLaws.{beyond-top, beyond-right, beyond-bottom, beyond-left}

module _ (width height sides : ℕ) (image : List ℕ) where
  -- inside the crop, the pixel's
  pub place_value-inside : (x y : ℕ) → x < width → y < height →
      place_value width height sides image (x + 1) (y + 1) ≡ get_or image (position width x y) 0
  unfolding place_value value_at
  place_value-inside x y lx ly =
      let ex : x + 1 - 1 ≡ x = omega arith in
      let ey : y + 1 - 1 ≡ y = omega arith in
      rw (at-placed width height (x + 1) (y + 1) (omega arith) (omega arith) (omega arith) (omega arith), ex, ey) refl

  place_value-outside : (x y : ℕ) → placed width height x y ≡ None →
      place_value width height sides image x y ≡ beyond width height sides x y
  unfolding place_value value_at
  place_value-outside x y out = rw out

  -- all of them are 0 or 1
  pub place_value-le : ((i : ℕ) → get_or image i 0 ≤ 1) → (x y : ℕ) →
      place_value width height sides image x y ≤ 1
  unfolding place_value value_at
  place_value-le bits x y = value-le (placed width height x y) (beyond-le width height sides x y)
    where
      value-le : (place : Option ℕ) {b : ℕ} → b ≤ 1 → value_at b image place ≤ 1
      value-le (Some j) l = bits j
      value-le None l = l

  -- ---- beyond one side

  pub place_value-top : (x : ℕ) → 1 ≤ x → x ≤ width →
      place_value width height sides image x 0 ≡ bit (has_side sides top_side)
  unfolding passed_sides
  place_value-top x left right =
      place_value-outside x 0 (placed-top width height x 0 left right (omega arith))
      ∙ beyond-one width height sides x 0 top_side
      (rw (le-ltb width x right, le-ltb height 0 (omega arith), le-ltb x 1 left) refl)

  pub place_value-right : (x y : ℕ) → 1 ≤ x → width < x → 1 ≤ y → y ≤ height →
      place_value width height sides image x y ≡ bit (has_side sides right_side)
  unfolding passed_sides
  place_value-right x y left right top low =
      place_value-outside x y (placed-right width height x y left right)
      ∙ beyond-one width height sides x y right_side
      (rw (le-ltb y 1 top, lt-ltb width x right, le-ltb height y low, le-ltb x 1 left) refl)

  pub place_value-bottom : (x y : ℕ) → 1 ≤ x → x ≤ width → 1 ≤ y → height < y →
      place_value width height sides image x y ≡ bit (has_side sides bottom_side)
  unfolding passed_sides
  place_value-bottom x y left right top low =
      place_value-outside x y (placed-bottom width height x y left right top low)
      ∙ beyond-one width height sides x y bottom_side
      (rw (le-ltb y 1 top, le-ltb width x right, lt-ltb height y low, le-ltb x 1 left) refl)

  pub place_value-left : (y : ℕ) → 1 ≤ y → y ≤ height →
      place_value width height sides image 0 y ≡ bit (has_side sides left_side)
  unfolding passed_sides
  place_value-left y top low =
      place_value-outside 0 y (placed-left width height 0 y (omega arith))
      ∙ beyond-one width height sides 0 y left_side
      (rw (le-ltb y 1 top, le-ltb width 0 (omega arith), le-ltb height y low) refl)

  -- ---- beyond a corner

  -- Column c is outside and column x inside. What lies beyond is object in column c and row r where it is in that
  -- column and a row inside, and in that row and a column inside
  pub place_value-corner : (c x y r : ℕ) → (c < 1) ⊎ ((1 ≤ c) × (width < c)) → 1 ≤ x → x ≤ width →
      y < height →
      1 ≤ place_value width height sides image c (y + 1) → 1 ≤ place_value width height sides image x r →
      1 ≤ place_value width height sides image c r
  place_value-corner c x y r out left right ly beside above =
      let there = place_value-outside c r (outside r) in
      let level = place_value-outside c (y + 1) (outside (y + 1)) in
      by-lt 0 (beyond width height sides c r) (λ l. omega (arith, there))
      (λ l.
      let none : beyond width height sides c r ≡ 0 = omega arith in
      ⊎_elim
      (⊎_elim
      (λ (p : (r < 1) × (has_side sides top_side ≡ false)).
      absurd
      (omega (
        arith,
        above,
        place_value-outside x r (placed-top width height x r left right p.0),
        beyond-top width height sides x r p.0 p.1,
      )))
      (λ (p : (width < c) × (has_side sides right_side ≡ false)).
      absurd (omega (arith, beside, level, beyond-right width height sides c (y + 1) p.0 p.1))))
      (⊎_elim
      (λ (p : (height < r) × (has_side sides bottom_side ≡ false)).
      absurd
      (omega (
        arith,
        above,
        place_value-outside x r (placed-bottom width height x r left right (omega (arith, p.0)) p.0),
        beyond-bottom width height sides x r p.0 p.1,
      )))
      (λ (p : (c < 1) × (has_side sides left_side ≡ false)).
      absurd (omega (arith, beside, level, beyond-left width height sides c (y + 1) p.0 p.1))))
      (beyond-zero width height sides c r none))
    where
      outside : (r : ℕ) → placed width height c r ≡ None
      outside r =
          ⊎_elim (λ (l : c < 1). placed-left width height c r l)
          (λ (l : (1 ≤ c) × (width < c)). placed-right width height c r l.0 l.1) out

  -- ---- neighbours

  pub neighbour_value-place : {x : ℕ} (y d : ℕ) → x < width →
      neighbour_value width height sides image (position width x y) d
      ≡ place_value width height sides image (x + across d) (y + down d)
  unfolding neighbour_value place_value neighbour_at
  neighbour_value-place y d l =
      rw (neighbour-position width height y d l, column-position width y l, row-position width y l) refl
