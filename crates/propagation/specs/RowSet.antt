-- Sets of rows as words that have a bit for each, the first in the top bit. The rows are counted from one, so that the
-- row above the first is 0 and the one below the last has a bit too. Only inner contracts cite these. Definitions only;
-- their laws are in `proofs/RowSetLaws.antt`.
--   set_words   the words of a set
--   row_bit     1 for a row of the set, 0 for any other
--   LastRow     the last row of the set up to a row
--   RowsAdded   rows are added to a set
use Rattle.std.specs.Prelude.{ℕ, ◌+◌, ◌/◌, ◌%◌, ◌≤◌, ◌<◌, max, ◌≡◌, Bool, List, length, get_or}
use Rattle.lists.specs.Lists.{bit}
use Rattle.neighbours.specs.Limits.{max_side}
use Rattle.neighbours.specs.Packed.{bit_at}
use Rattle.neighbours.specs.Words.{word_bits}

-- the words of a set
abbrev pub set_words : ℕ
set_words = (max_side + 2) / word_bits + 1

-- 1 for a row of the set, 0 for any other
unfoldable pub row_bit : List ℕ → ℕ → ℕ
row_bit set n = bit_at word_bits (get_or set (n / word_bits) 0) (n % word_bits)

-- the last row of the set up to row n, or 0 if there is none
pub record LastRow (set : List ℕ) (n r : ℕ) : Type 0 where
  pub before : r ≤ n
  pub among : 0 < r → row_bit set r ≡ 1
  pub none : (z : ℕ) → r < z → z ≤ n → row_bit set z ≡ 0

-- from set to set': the rows that pass the test are added
pub record RowsAdded (test : ℕ → Bool) (set set' : List ℕ) : Type 0 where
  pub size : length set' ≡ length set
  pub bits : (z : ℕ) → row_bit set' z ≡ max (row_bit set z) (bit (test z))
