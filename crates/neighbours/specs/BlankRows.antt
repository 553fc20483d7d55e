-- Rows without an object pixel: document 02, Point 3. Definitions only.
--   is_blank_row image y    row y has no object pixel
--   blank_row_count image   how many rows have none
use Rattle.std.specs.Prelude.{ℕ, Bool, List, eqb, length, get_or}
use Rattle.lists.specs.Lists.{range, select, all}
use Rattle.neighbours.specs.Grid.{position}

-- row y has no object pixel (02: a row of zeros)
unfoldable pub is_blank_row : ℕ → List ℕ → ℕ → Bool
is_blank_row width image y = all (λ x. eqb (get_or image (position width x y) 0) 0) (range width)

-- how many rows have none
unfoldable pub blank_row_count : ℕ → ℕ → List ℕ → ℕ
blank_row_count width height image = length (select (is_blank_row width image) (range height))
