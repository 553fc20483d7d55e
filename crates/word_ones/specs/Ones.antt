-- The positions of the ones of a unit of bits, the first pixel in the top bit. Only inner contracts cite these.
-- Definitions only; their laws are in `proofs/OnesLaws.antt`.
--   ones_of, ones_from   the positions of a unit's ones, and of a word's
--   ListableWord         what listing a word's ones asks
--   Compared             positions compared with those in a queue
--   ComparableWord       what comparing a word's ones asks
use Rattle.std.specs.Prelude.{ℕ, ◌+◌, ◌-◌, ◌<◌, ◌≤◌, List, length, nat_eq, Option, Some, None}
use Rattle.lists.specs.Lists.{select, count_from, Each}
use Rattle.neighbours.specs.Limits.{max_pixels}
use Rattle.neighbours.specs.Crop.{Extended}
use Rattle.neighbours.specs.Packed.{bit_at}
use Rattle.neighbours.specs.Words.{word_bits}

-- the positions of a unit's ones, where its first pixel has position `at`
unfoldable pub ones_of : ℕ → ℕ → ℕ → List ℕ
ones_of unit at n = select (λ i. nat_eq (bit_at unit n (i - at)) 1) (count_from at unit)

-- of a word's
unfoldable pub ones_from : ℕ → ℕ → List ℕ
ones_from at word = ones_of word_bits at word

-- a word whose ones have positions that fit an entry, and room for them
pub record ListableWord (at word : ℕ) (queue : List ℕ) (len : ℕ) : Type 0 where
  pub small : Each (λ i. i < max_pixels) (ones_from at word)
  pub room : len + length (ones_from at word) ≤ length queue

-- The positions stand in the queue behind its first `len` entries, among its first n, and the answer is the entry
-- behind them; or they do not stand there, and there is none
unfoldable pub Compared : List ℕ → ℕ → ℕ → List ℕ → Option ℕ → Type 0
Compared queue n len positions (Some end) = Extended queue len positions queue end × (end ≤ n)
Compared queue n len positions None = (end : ℕ) → end ≤ n → Extended queue len positions queue end → ⊥

-- a word whose ones have positions that fit an entry, and n entries of a queue that are to be compared from entry `len`
-- on
pub record ComparableWord (at word : ℕ) (queue : List ℕ) (len n : ℕ) : Type 0 where
  pub small : Each (λ i. i < max_pixels) (ones_from at word)
  pub before : len ≤ n
  pub within : n ≤ length queue
