-- What lies beyond the edge (`specs/Grid.antt`) and which rows are blank (`specs/BlankRows.antt`), computed: document
-- 02, Points 6 and 3. Assumes nothing.
--   Edge, edge     the rule place by place, in a crop of 3 by 3 background pixels and in one of a column
--   Blank, blank   how many rows have no object pixel
use Prim.Native.Nat.{ℕ}
use mathlib.Core.Path.{◌≡◌, refl}
use mathlib.Core.List.{[], ◌∷◌}
use lib.ListN.{replicate}
use Rattle.lists.specs.Lists.{count_from, select, any, all}
use Rattle.neighbours.specs.Grid.{top_side, right_side, bottom_side, left_side, no_side, all_sides, has_side}
use Rattle.neighbours.specs.Grid.{across, down, placed, neighbour_at, neighbour, value_at, passed_sides, beyond}
use Rattle.neighbours.specs.Grid.{neighbour_value}
use Rattle.neighbours.specs.BlankRows.{is_blank_row, blank_row_count}

-- the value of position i's neighbour in direction d, in a crop of 3 by 3 background pixels
abbrev at : ℕ → ℕ → ℕ → ℕ
at sides i d = neighbour_value 3 3 sides (replicate 9 0) i d

-- the same in a crop of 1 by 3
abbrev in_column : ℕ → ℕ → ℕ → ℕ
in_column sides i d = neighbour_value 1 3 sides (replicate 3 0) i d

-- Directions: 0 right, 1 upper right, 2 up, 3 upper left, 4 left, 5 lower left, 6 down, 7 lower right
record Edge : Type 0 where
  -- "A diagonal outside pixel beyond two sides is object only if both are": the first pixel's upper left
  corner-both : at 9 0 3 ≡ 1
  corner-top : at top_side 0 3 ≡ 0
  corner-left : at left_side 0 3 ≡ 0
  corner-none : at no_side 0 3 ≡ 0
  -- the other three corners
  upper-right : at 3 2 1 ≡ 1
  upper-right-one : at 13 2 1 ≡ 0
  lower-right : at 6 8 7 ≡ 1
  lower-right-one : at 11 8 7 ≡ 0
  lower-left : at 12 6 5 ≡ 1
  lower-left-one : at 7 6 5 ≡ 0
  -- what lies upper left of the top row's middle lies beyond the top alone
  above-middle : at top_side 1 3 ≡ 1
  above-middle-other : at 14 1 3 ≡ 0
  -- and what lies upper left of the left column's middle beyond the left alone
  beside-middle : at left_side 3 3 ≡ 1
  beside-middle-other : at 7 3 3 ≡ 0
  -- "1 top, 2 right, 4 bottom, 8 left"
  top : at 1 1 2 ≡ 1
  right : at 2 5 0 ≡ 1
  bottom : at 4 7 6 ≡ 1
  left : at 8 3 4 ≡ 1
  top-other : at 14 1 2 ≡ 0
  right-other : at 13 5 0 ≡ 0
  bottom-other : at 11 7 6 ≡ 0
  left_other : at 7 3 4 ≡ 0
  -- inside the crop the sides change nothing
  inside : at all_sides 4 0 ≡ 0
  -- in a crop of one column both the left and the right are next to each pixel, and are named apart
  column-left : in_column left_side 1 4 ≡ 1
  column-not-right : in_column left_side 1 0 ≡ 0
  column-right : in_column right_side 1 0 ≡ 1
  column-not-left : in_column right_side 1 4 ≡ 0
  column-bottom : in_column bottom_side 2 6 ≡ 1

edge : Edge
unfolding neighbour_value neighbour neighbour_at placed value_at beyond passed_sides has_side across down any all
edge =
    record {
      corner-both = refl;
      corner-top = refl;
      corner-left = refl;
      corner-none = refl;
      upper-right = refl;
      upper-right-one = refl;
      lower-right = refl;
      lower-right-one = refl;
      lower-left = refl;
      lower-left-one = refl;
      above-middle = refl;
      above-middle-other = refl;
      beside-middle = refl;
      beside-middle-other = refl;
      top = refl;
      right = refl;
      bottom = refl;
      left = refl;
      top-other = refl;
      right-other = refl;
      bottom-other = refl;
      left_other = refl;
      inside = refl;
      column-left = refl;
      column-not-right = refl;
      column-right = refl;
      column-not-left = refl;
      column-bottom = refl;
    }

record Blank : Type 0 where
  -- every row of a full image has an object pixel
  full : blank_row_count 3 3 (replicate 9 1) ≡ 0
  -- rows 000, 111, 000
  around : blank_row_count 3 3 (0 ∷ 0 ∷ 0 ∷ 1 ∷ 1 ∷ 1 ∷ 0 ∷ 0 ∷ 0 ∷ []) ≡ 2
  -- one background pixel
  one : blank_row_count 1 1 (0 ∷ []) ≡ 1
  -- rows 01, 00: a look that stops one pixel short would say 2
  last-pixel : blank_row_count 2 2 (0 ∷ 1 ∷ 0 ∷ 0 ∷ []) ≡ 1

blank : Blank
unfolding blank_row_count is_blank_row count_from select all
blank = record { full = refl; around = refl; one = refl; last-pixel = refl }
