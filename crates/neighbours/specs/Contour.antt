-- The contour of an image: document 01, "The contour handed on". Definitions only.
--   on_contour image i   position i is on the contour
--   contour image        the contour's positions, row by row
use Rattle.std.specs.Prelude.{ℕ, Bool, ◌&&◌, List, eqb, get_or}
use Rattle.lists.specs.Lists.{select}
use Rattle.neighbours.specs.Grid.{positions, all_sides, has_neighbour}

module _ (width height : ℕ) where
  -- an object pixel with a background 4-neighbour inside the crop: all sides count as object here, so
  -- only a neighbour inside can be background
  unfoldable pub on_contour : List ℕ → ℕ → Bool
  on_contour image i = eqb (get_or image i 0) 1 && has_neighbour width height 4 all_sides 0 image i

  -- all of them, row by row. 01 leaves the order of a contour free; this is the model's
  unfoldable pub contour : List ℕ → List ℕ
  contour image = select (on_contour image) (positions width height)
