-- The square that labelling looks at: a pixel, the one to its left, the one above it and the corner, which is
-- left of the one above. Only inner contracts, here and in the crates above, cite these. Definitions only; their
-- laws are in `proofs/SquareLaws.antt`.
--   left_of, above_of, corner_of   the positions of the other three
--   leftward, upward, cornerward   the directions that lead to them
--   HasSquare                      all four are inside the crop
use Rattle.std.specs.Prelude.{ℕ, ◌-◌, ◌*◌, ◌≤◌, ◌<◌}
use Rattle.neighbours.specs.Grid.{column}

-- the position to the left of position k, which is not in the first column
abbrev pub left_of : ℕ → ℕ
left_of k = k - 1

-- the position above position k, which is not in the first row
abbrev pub above_of : ℕ → ℕ → ℕ
above_of width k = k - width

-- the position to the left of that one
abbrev pub corner_of : ℕ → ℕ → ℕ
corner_of width k = k - width - 1

-- directions, as `Grid` numbers them
abbrev pub leftward : ℕ
leftward = 4

abbrev pub upward : ℕ
upward = 2

abbrev pub cornerward : ℕ
cornerward = 3

-- position k is in neither the first row nor the first column
pub record HasSquare (width height k : ℕ) : Type 0 where
  pub inside : k < width * height
  pub below : width < k
  pub far : 1 ≤ column width k
