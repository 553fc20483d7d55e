-- A word's neighbours: 64 pixels of a row at once (document 02, Point 2), by the rules that hold for one pixel.
-- Columns and rows are counted from one, as in `placed`, so that nothing is below zero: word k of a row begins in
-- column 64 * k + 1. Definitions only; their laws are in `proofs/PlaceLaws.antt` and `proofs/WordLaws.antt`.
--   word_bits, full_word          the bits of a word; the word with all of them set
--   max_row_words, max_words      the words of the widest row, and of the largest crop
--   Holds, Flat                   the pixels that a word holds; a word of one value
--   RowMask                       the bits of a word inside the crop, and what lies behind them
--   place_value                   the value at a place: the pixel's, or outside what lies beyond
--   filled_value                  the same, rows filled up behind their end
--   beside_value                  what a column counts for those beside it
--   without_background            an object pixel without a background neighbour
--   LevelsRound                   what is asked of the words round a word
--   FilledBehind, Upright, Kept   what the functions make of words
use Rattle.std.specs.Prelude.{ℕ, ◌+◌, ◌*◌, ◌/◌, ◌≤◌, ◌<◌, min, max, ◌≡◌, Bool, true, cond, ◌&&◌, not, List, eqb, leb}
use Rattle.std.specs.Prelude.{ltb, get_or}
use Rattle.lists.specs.Lists.{bit}
use Rattle.neighbours.specs.Grid.{is_connectivity, right_side, has_side, position, placed, value_at, beyond}
use Rattle.neighbours.specs.Grid.{has_neighbour}
use Rattle.neighbours.specs.Packed.{bit_at}
use Rattle.neighbours.specs.Limits.{max_side}

abbrev pub word_bits : ℕ
word_bits = 64

-- the words of the widest row, and of the largest crop
abbrev pub max_row_words : ℕ
max_row_words = max_side / word_bits

abbrev pub max_words : ℕ
max_words = max_row_words * max_side

-- all bits set
abbrev pub full_word : ℕ
full_word = 18446744073709551615

-- the word's pixels are those from column x on
abbrev pub Holds : (ℕ → ℕ) → ℕ → ℕ → Type 0
Holds pixels x word = (j : ℕ) → j < word_bits → bit_at word_bits word j ≡ pixels (x + j)

-- all pixels of the word have the value
abbrev pub Flat : ℕ → ℕ → Type 0
Flat value word = (j : ℕ) → j < word_bits → bit_at word_bits word j ≡ value

-- of word k of a row: `keep` has the bits inside the crop set, `fill` those behind the row's end where what lies
-- beyond the right side is object
pub record RowMask (width sides k keep fill : ℕ) : Type 0 where
  pub is_keep : (j : ℕ) → j < word_bits → bit_at word_bits keep j ≡ bit (ltb (word_bits * k + j) width)
  pub is_fill : (j : ℕ) → j < word_bits →
      bit_at word_bits fill j ≡ cond (ltb (word_bits * k + j) width) 0 (bit (has_side sides right_side))

module _ (width height sides : ℕ) (image : List ℕ) where
  -- the value at the place in column x - 1 and row y - 1: the pixel's, or outside what lies beyond
  unfoldable pub place_value : ℕ → ℕ → ℕ
  place_value x y = value_at (beyond width height sides x y) image (placed width height x y)

  -- the same, but behind a row's end stands what lies beyond the right side, above and below the crop too
  unfoldable pub filled_value : ℕ → ℕ → ℕ
  filled_value y x = cond (leb x width) (place_value x y) (bit (has_side sides right_side))

  -- Of column x, the pixels above, in and below row y that are neighbours of the pixels beside it in that row: by 8
  -- all three, by 4 the one in the row. The least of them; outside the crop the one in the row stands for all three
  unfoldable pub beside_value : ℕ → ℕ → ℕ → ℕ
  beside_value connectivity y x =
      cond (leb 1 x && leb x width)
      (min (place_value x (y + 1)) (max (min (place_value x y) (place_value x (y + 2))) (bit (eqb connectivity 4))))
      (place_value x (y + 1))

  -- an object pixel without a background neighbour: an erosion keeps it
  unfoldable pub without_background : ℕ → ℕ → Bool
  without_background connectivity i =
      eqb (get_or image i 0) 1 && not (has_neighbour width height connectivity sides 0 image i)

  -- Word k of row y, counted from zero, and the words beside, above and below it, as what their columns count for
  -- those beside them. Of the words beside it the pixel next to it matters. By 8 those above and below count in the
  -- word already, and `eight` has all bits set; by 4 they are the rows above and below, and it has none
  pub record LevelsRound (connectivity k y left above here below right eight : ℕ) : Type 0 where
    pub linking : is_connectivity connectivity ≡ true
    pub bits : (i : ℕ) → get_or image i 0 ≤ 1
    pub row : y < height
    pub is_here : Holds (beside_value connectivity y) (word_bits * k + 1) here
    pub is_left : bit_at word_bits left 63 ≡ beside_value connectivity y (word_bits * k)
    pub is_right : bit_at word_bits right 0 ≡ beside_value connectivity y (word_bits * k + 1 + word_bits)
    pub is_upright : (j : ℕ) → j < word_bits → word_bits * k + j < width →
        max (min (bit_at word_bits above j) (bit_at word_bits below j)) (bit_at word_bits eight j)
        ≡ max (min (place_value (word_bits * k + 1 + j) y) (place_value (word_bits * k + 1 + j) (y + 2)))
        (bit (eqb connectivity 8))

-- ---- what the functions make of words, for every crop and image that the words are of

-- a word of a row, with what lies beyond the right side behind the row's end
abbrev pub FilledBehind : ℕ → ℕ → ℕ → ℕ → Type 0
FilledBehind word keep fill r =
    (width sides k : ℕ) → RowMask width sides k keep fill → (j : ℕ) → j < word_bits →
    bit_at word_bits r j
    ≡ cond (ltb (word_bits * k + j) width) (bit_at word_bits word j) (bit (has_side sides right_side))

-- the pixels of a word that are object with those above and below; where the bit of `alone` is set, by themselves
abbrev pub Upright : ℕ → ℕ → ℕ → ℕ → ℕ → Type 0
Upright above here below alone r =
    (j : ℕ) →
    bit_at word_bits r j
    ≡ min (bit_at word_bits here j)
    (max (min (bit_at word_bits above j) (bit_at word_bits below j)) (bit_at word_bits alone j))

-- the object pixels of a word that have no background neighbour
abbrev pub Kept : ℕ → ℕ → ℕ → ℕ → ℕ → ℕ → ℕ → Type 0
Kept left above here below right eight r =
    (width height sides : ℕ) (image : List ℕ) (connectivity k y : ℕ) →
    LevelsRound width height sides image connectivity k y left above here below right eight →
    (j : ℕ) → j < word_bits → word_bits * k + j < width →
    bit_at word_bits r j
    ≡ bit (without_background width height sides image connectivity (position width (word_bits * k + j) y))
