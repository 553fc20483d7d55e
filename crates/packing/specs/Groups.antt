-- Pixels that are packed into a word or unpacked from one, eight at a time and one by one. Only inner contracts cite
-- these. Definitions only; their laws are in `proofs/GroupLaws.antt`.
--   Pixels, pixel_bits   pixels that are read in a row, and the number that they make
--   pixel_bytes          the number whose bytes are eight pixels
--   spread, gathered     a byte's bits as eight bytes, and back
--   bytes                the bytes of a number
--   flipped              a word of a number whose bits are woven
--   word_pixels          bits of a word as pixels
use Rattle.std.specs.Prelude.{ℕ, ◌+◌, ◌*◌, ◌/◌, ◌%◌, ◌^◌, ◌≤◌, length, get_or}
use mathlib.Core.List.{List, foldr}
use Rattle.lists.specs.Lists.{tabulate}
use Rattle.neighbours.specs.Packed.{unit_of, bit_at}
use Rattle.neighbours.specs.Words.{word_bits}

-- so many pixels of an image, each 0 or 1, stand from a position on
pub record Pixels (image : List ℕ) (at count : ℕ) : Type 0 where
  pub bits : (i : ℕ) → get_or image i 0 ≤ 1
  pub whole : at + count ≤ length image

-- the number that they make, the first of them the top bit
unfoldable pub pixel_bits : List ℕ → ℕ → ℕ → ℕ
pixel_bits image at count = unit_of count (λ k. get_or image (at + k) 0)

-- the number whose eight bytes are the pixels from a position on, the first in the lowest byte
unfoldable pub pixel_bytes : List ℕ → ℕ → ℕ
pixel_bytes image at = foldr ◌+◌ 0 (tabulate 8 (λ k. get_or image (at + k) 0 * 2 ^ (8 * k)))

-- the number whose eight bytes are the bits of a byte, the top bit in the lowest byte
unfoldable pub spread : ℕ → ℕ
spread byte = foldr ◌+◌ 0 (tabulate 8 (λ k. bit_at 8 byte k * 2 ^ (8 * k)))

-- the byte whose bits are the lowest bits of eight bytes, that of the lowest byte in the top bit
unfoldable pub gathered : ℕ → ℕ
gathered x = unit_of 8 (λ k. x / 2 ^ (8 * k) % 2)

-- the eight bytes of a number, the lowest first
unfoldable pub bytes : ℕ → List ℕ
bytes x = tabulate 8 (λ k. x / 2 ^ (8 * k) % 256)

-- the word whose bit 8g + j, the top bit first, is bit g of byte j of a number, the lowest first
unfoldable pub flipped : ℕ → ℕ
flipped x = unit_of word_bits (λ k. x / 2 ^ (8 * (k % 8) + k / 8) % 2)

-- so many bits of a word, from bit `from` on, the top bit first
unfoldable pub word_pixels : ℕ → ℕ → ℕ → List ℕ
word_pixels word from count = tabulate count (λ k. bit_at word_bits word (from + k))
