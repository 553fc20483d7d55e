-- The neighbours of a position are the places in its directions, in order: for loops over the directions, here and
-- in the crates above.
--   inside-at, inside-outside            the position at a place
--   neighbour-column-row                 the place in a direction, by the position's column and row
--   neighbour-lt                         which is inside, where it is a position
--   first_neighbours                     the neighbours in the first so many directions
--   first_neighbours-zero, -step, -all   in none, in one more, in all
-- Assumes nothing.
use Prim.Native.Nat.{ℕ, ◌+◌, ◌*◌, ◌<◌}
use mathlib.Core.Path.{◌≡◌, refl, ap, ◌∙◌}
use mathlib.Core.List.{List, [], ◌∷◌, ◌++◌, flat_map}
use native.Mathlib.Numerals.{add-one}
use native.Mathlib.Omega.{arith}
use lib.ListN.{take, get_or}
use lib.Seq.{take-suc, take_all}
use Rattle.lists.proofs.ListLaws.{flat_map-snoc}
use Rattle.std.specs.Prelude.{Option, Some, None}
use Rattle.neighbours.specs.Grid.{column, row, directions, neighbour, neighbour_at}
use Rattle.neighbours.specs.Crop.{inside, neighbours}
use Rattle.neighbours.proofs.PositionLaws.{neighbour_at-lt}
use Rattle.neighbours.proofs.DirectionLaws.{length-directions}

-- a place inside is its position alone, and outside there is none
pub inside-at : (j : ℕ) → inside (Some j) ≡ j ∷ []
unfolding inside
inside-at j = refl

pub inside-outside : inside None ≡ []
unfolding inside
inside-outside = refl

-- the place in a direction, by the position's column and row
pub neighbour-column-row : (width height i d : ℕ) →
    neighbour_at width height (column width i) (row width i) d ≡ neighbour width height i d
unfolding neighbour
neighbour-column-row width height i d = refl

-- which is inside, where it is a position
pub neighbour-lt : (width height i d : ℕ) {j : ℕ} → neighbour width height i d ≡ Some j → j < width * height
unfolding neighbour
neighbour-lt width height i d e = neighbour_at-lt width height _ _ d e

module _ (width height connectivity i : ℕ) where
  -- the neighbours in the first k directions
  unfoldable pub first_neighbours : ℕ → List ℕ
  first_neighbours k = flat_map (λ d. inside (neighbour width height i d)) (take k (directions connectivity))

  -- in none there are none
  pub first_neighbours-zero : first_neighbours 0 ≡ []
  unfolding first_neighbours flat_map
  first_neighbours-zero = refl

  -- one direction more
  pub first_neighbours-step : (k d : ℕ) (place : Option ℕ) → k < connectivity →
      d ≡ get_or (directions connectivity) k 0 →
      place ≡ neighbour width height i d → first_neighbours (k + 1) ≡ first_neighbours k ++ inside place
  unfolding first_neighbours
  first_neighbours-step k d place l ed ep =
      let f : ℕ → List ℕ = λ d. inside (neighbour width height i d) in
      ap (λ (n : ℕ). flat_map f (take n (directions connectivity))) (add-one k)
      ∙ ap (flat_map f) (take-suc (directions connectivity) k 0 (omega (arith, length-directions connectivity)))
      ∙ flat_map-snoc f (take k (directions connectivity)) (get_or (directions connectivity) k 0)
      ∙ rw (ep, ed)

  -- in all of them there are all
  pub first_neighbours-all : first_neighbours connectivity ≡ neighbours width height connectivity i
  unfolding first_neighbours neighbours
  first_neighbours-all =
      rw (take_all connectivity (directions connectivity) (omega (arith, length-directions connectivity)))
