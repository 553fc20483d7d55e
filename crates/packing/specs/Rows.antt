-- What the functions over one row of an image, packed or not, require and say. Only inner contracts cite these; a
-- packed image is defined in `Packed`, of the crate `neighbours`. Definitions only.
--   RowOf, PackedRowOf                          a row that is read pixel by pixel, and bit by bit
--   Packable, PackableRow                       an image that can be packed, and one of its rows
--   packed_row, row_unpacked, row_padding_set   a row's units, its pixels, whether a bit behind its end is set
use Rattle.std.specs.Prelude.{ℕ, ◌+◌, ◌-◌, ◌*◌, ◌≤◌, ◌<◌, Bool, List, eqb, length}
use Rattle.lists.specs.Lists.{count_from, tabulate, any}
use Rattle.neighbours.specs.Limits.{max_side}
use Rattle.neighbours.specs.Crop.{ValidSize, Binary}
use Rattle.neighbours.specs.Packed.{row_units, packed_unit, packed_pixel}

-- row y of an image whose rows have `width` pixels, within 01's limits
pub record RowOf (width : ℕ) (image : List ℕ) (y : ℕ) : Type 0 where
  pub narrow : width ≤ max_side
  pub low : y < max_side
  pub whole : y * width + width ≤ length image

-- the same of an image packed into units of so many bits
pub record PackedRowOf (unit width : ℕ) (packed : List ℕ) (y : ℕ) : Type 0 where
  pub wide : 1 ≤ width
  pub narrow : width ≤ max_side
  pub low : y < max_side
  pub whole : y * row_units unit width + row_units unit width ≤ length packed

-- an image of 0 and 1, within 01's limits
pub record Packable (width height : ℕ) (image : List ℕ) : Type 0 where
  pub valid : ValidSize width height
  pub binary : Binary width height image

-- and a row of it
pub record PackableRow (width height : ℕ) (image : List ℕ) (y : ℕ) : Type 0 where
  pub packable : Packable width height image
  pub row : y < height

module _ (unit width : ℕ) where
  -- the units of row y of an image
  unfoldable pub packed_row : List ℕ → ℕ → List ℕ
  packed_row image y = tabulate (row_units unit width) (λ k. packed_unit unit width image (unit * k) y)

  -- the pixels of row y of a packed image
  unfoldable pub row_unpacked : List ℕ → ℕ → List ℕ
  row_unpacked units y = tabulate width (λ x. packed_pixel unit width units x y)

  -- a bit behind the end of row y is set
  unfoldable pub row_padding_set : List ℕ → ℕ → Bool
  row_padding_set units y =
      any (λ x. eqb (packed_pixel unit width units x y) 1) (count_from width (unit * row_units unit width - width))
