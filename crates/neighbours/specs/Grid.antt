-- The grid of pixels, its neighbours and its border: document 01, "Crop, neighbours, edge".
-- Definitions only; their laws are in `proofs/GridLaws.antt`.
--
-- An image (01: picture, crop) is the list of its pixels, row by row from the top: 0 is background
-- and 1 is object. A position counts pixels in that order: y * width + x.
--   column, row, position     a position's x and y, and back
--   neighbour i d             the position next to i in direction d, or Outside
--   directions connectivity   the directions of 4- or 8-connectivity (01: linking)
--   has_side                  a side of the crop counts as object (02, Point 6)
--   beyond                    what lies outside the crop, by the sides beyond which it lies
--   neighbour_value           a neighbour's value, outside the crop what lies beyond
--   has_neighbour             at least one neighbour has a value
--   on_border                 in the first or last row or column
--   Adjacent i j              j is a neighbour of i inside the crop
use Rattle.std.specs.Prelude.{ℕ, ◌+◌, ◌-◌, ◌*◌, ◌/◌, ◌%◌, ◌≡◌, Bool, true, cond, ◌&&◌, ◌||◌, List, [], ◌∷◌, ◌++◌, eqb}
use Rattle.std.specs.Prelude.{leb, ltb, get_or}
use Rattle.lists.specs.Lists.{range, tabulate, any, all, bit}
use Rattle.std.specs.Prelude.{Option, Some, None}

-- the connectivity (01: linking number) is 4 or 8
abbrev pub is_connectivity : ℕ → Bool
is_connectivity connectivity = eqb connectivity 4 || eqb connectivity 8

-- The eight directions are numbered counter-clockwise, as in figure 1 of document 001: 0 right,
-- 1 upper right, 2 up, 3 upper left, 4 left, 5 lower left, 6 down, 7 lower right. So many of them
-- as the connectivity says, evenly spread: all eight, or 0, 2, 4 and 6
unfoldable pub directions : ℕ → List ℕ
directions connectivity = tabulate connectivity (λ k. k * (8 / connectivity))

-- Direction d leads from column x to column x + across d - 1 and from row y to row y + down d - 1:
-- counted from one, so that nothing is below zero
unfoldable pub across : ℕ → ℕ
across d = get_or (2 ∷ 2 ∷ 1 ∷ 0 ∷ 0 ∷ 0 ∷ 1 ∷ 2 ∷ []) d 0

unfoldable pub down : ℕ → ℕ
down d = get_or (1 ∷ 0 ∷ 0 ∷ 0 ∷ 1 ∷ 2 ∷ 2 ∷ 2 ∷ []) d 0

-- The sides of a crop. A sum of them names those that count as object (02, Point 6)
abbrev pub top_side : ℕ
top_side = 1

abbrev pub right_side : ℕ
right_side = 2

abbrev pub bottom_side : ℕ
bottom_side = 4

abbrev pub left_side : ℕ
left_side = 8

-- no side, and all four
abbrev pub no_side : ℕ
no_side = 0

abbrev pub all_sides : ℕ
all_sides = 15

-- the side is among those named: its binary digit in the sum is 1
unfoldable pub has_side : ℕ → ℕ → Bool
has_side sides side = eqb (sides / side % 2) 1

-- the column (01: x) and the row (01: y) of a position, and the position of a column and a row
abbrev pub column : ℕ → ℕ → ℕ
column width i = i % width

abbrev pub row : ℕ → ℕ → ℕ
row width i = i / width

abbrev pub position : ℕ → ℕ → ℕ → ℕ
position width x y = y * width + x

module _ (width height : ℕ) where
  -- all positions, row by row
  abbrev pub positions : List ℕ
  positions = range (width * height)

  -- the place in column x - 1 and row y - 1: inside the crop, or Outside
  unfoldable pub placed : ℕ → ℕ → Option ℕ
  placed x y =
      cond (leb 1 x && leb x width && leb 1 y && leb y height) (Some (position width (x - 1) (y - 1))) None

  -- the place next to column x and row y in direction d
  unfoldable pub neighbour_at : ℕ → ℕ → ℕ → Option ℕ
  neighbour_at x y d = placed (x + across d) (y + down d)

  -- the place next to position i in direction d
  unfoldable pub neighbour : ℕ → ℕ → Option ℕ
  neighbour i d = neighbour_at (column width i) (row width i) d

  -- in the first or last row or column
  unfoldable pub on_border : ℕ → Bool
  on_border i =
      eqb (column width i) 0 || eqb (column width i + 1) width || eqb (row width i) 0 || eqb (row width i + 1) height

-- the value at a place: the pixel's, or what lies outside
unfoldable pub value_at : ℕ → List ℕ → Option ℕ → ℕ
value_at outside image (Some j) = get_or image j 0
value_at outside image None = outside

module _ (width height : ℕ) where
  -- the sides beyond which the place in column x - 1 and row y - 1 lies: none inside the crop, two beyond a corner
  unfoldable pub passed_sides : ℕ → ℕ → List ℕ
  passed_sides x y =
      cond (ltb y 1) (top_side ∷ []) []
      ++ cond (ltb width x) (right_side ∷ []) []
      ++ cond (ltb height y) (bottom_side ∷ []) []
      ++ cond (ltb x 1) (left_side ∷ []) []

  -- What lies outside there: object where each side beyond which it lies counts as object
  unfoldable pub beyond : ℕ → ℕ → ℕ → ℕ
  beyond sides x y = bit (all (has_side sides) (passed_sides x y))

  -- the value of position i's neighbour in direction d
  unfoldable pub neighbour_value : ℕ → List ℕ → ℕ → ℕ → ℕ
  neighbour_value sides image i d =
      value_at (beyond sides (column width i + across d) (row width i + down d)) image (neighbour width height i d)

  -- at least one neighbour of position i has the value
  unfoldable pub has_neighbour : ℕ → ℕ → ℕ → List ℕ → ℕ → Bool
  has_neighbour connectivity sides value image i =
      any (λ d. eqb (neighbour_value sides image i d) value) (directions connectivity)

-- position j is a neighbour of position i inside the crop
pub record Adjacent (width height connectivity i j : ℕ) : Type 0 where
  pub direction : ℕ
  pub among : any (eqb direction) (directions connectivity) ≡ true
  pub there : neighbour width height i direction ≡ Some j
