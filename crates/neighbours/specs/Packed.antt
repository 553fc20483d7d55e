-- Images with their rows packed into units of so many bits, each row starting a unit, the first pixel in a unit's top
-- bit: bytes in a job (document 01, "Job and lane program"), words of 64 bits from the camera (document 02, Point 2).
-- Definitions only; their laws are in `proofs/PackedLaws.antt`.
--   row_units, packed_length   how many units a row has, and an image
--   bit_at                     a unit's bit, the top bit first
--   packed, unpacked           an image as packed rows, and back
--   padding_set                a bit behind the end of a row is set
use Rattle.std.specs.Prelude.{ℕ, ◌+◌, ◌-◌, ◌*◌, ◌/◌, ◌%◌, ◌^◌, Bool, cond, eqb, ltb, get_or}
use mathlib.Core.List.{List, foldr}
use Rattle.lists.specs.Lists.{range, count_from, tabulate, any}
use Rattle.neighbours.specs.Grid.{column, row, position}

-- the number that so many bits make, the first of them the top bit
unfoldable pub unit_of : ℕ → (ℕ → ℕ) → ℕ
unit_of unit bits = foldr ◌+◌ 0 (tabulate unit (λ k. bits k * 2 ^ (unit - 1 - k)))

-- the pixel in column x of row y, 0 behind the row's end
unfoldable pub padded_pixel : ℕ → List ℕ → ℕ → ℕ → ℕ
padded_pixel width image x y = cond (ltb x width) (get_or image (position width x y) 0) 0

module _ (unit : ℕ) where
  -- the units of a packed row, and of a packed image
  unfoldable pub row_units : ℕ → ℕ
  row_units width = (width + (unit - 1)) / unit

  unfoldable pub packed_length : ℕ → ℕ → ℕ
  packed_length width height = row_units width * height

  -- bit k of a unit, the top bit first
  abbrev pub bit_at : ℕ → ℕ → ℕ
  bit_at n k = n / 2 ^ (unit - 1 - k) % 2

  module _ (width : ℕ) where
    -- the pixels of row y from column x on, as many as a unit has bits: the first is the top bit
    unfoldable pub packed_unit : List ℕ → ℕ → ℕ → ℕ
    packed_unit image x y = unit_of unit (λ k. padded_pixel width image (x + k) y)

    -- the bit in column x of row y of a packed image
    unfoldable pub packed_pixel : List ℕ → ℕ → ℕ → ℕ
    packed_pixel units x y = bit_at (get_or units (y * row_units width + x / unit) 0) (x % unit)

  module _ (width height : ℕ) where
    -- an image as packed rows, each padded with zeros to a unit
    unfoldable pub packed : List ℕ → List ℕ
    packed image =
        tabulate (packed_length width height)
        (λ k. packed_unit width image (unit * (k % row_units width)) (k / row_units width))

    -- the image of packed rows
    unfoldable pub unpacked : List ℕ → List ℕ
    unpacked units = tabulate (width * height) (λ i. packed_pixel width units (column width i) (row width i))

    -- a padding bit is set: one behind the end of a row
    unfoldable pub padding_set : List ℕ → Bool
    padding_set units =
        any (λ y. any (λ x. eqb (packed_pixel width units x y) 1) (count_from width (unit * row_units width - width)))
        (range height)
