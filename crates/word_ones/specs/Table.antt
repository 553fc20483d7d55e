-- The table of a byte's ones (`src/inner/bytes.rt`). Only inner contracts cite these. Definitions only; their laws are
-- in `proofs/TableLaws.antt`.
--   offset, four_offsets   the offset of a byte's one, and four of them in a number
--   entry_of               the table's entry of a byte
--   lanes                  the four 16-bit numbers of a number
use Rattle.std.specs.Prelude.{ℕ, ◌+◌, ◌*◌, ◌/◌, ◌%◌, ◌^◌, List, length, slice_index}
use Rattle.lists.specs.Lists.{tabulate}
use Rattle.word_ones.specs.Ones.{ones_of}

-- the offset of a byte's one j, 0 where there are not so many
unfoldable pub offset : ℕ → ℕ → ℕ
offset byte j = slice_index (ones_of 8 0 byte) j

-- the offsets of the ones from `from` up to the fourth, 16 bits for each
unfoldable pub four_offsets : ℕ → ℕ → ℕ
four_offsets byte from =
    offset byte from + offset byte (from + 1) * 2 ^ 16 + offset byte (from + 2) * 2 ^ 32
    + offset byte (from + 3) * 2 ^ 48

-- the first four, the others eight bits above them, and how many there are
unfoldable pub entry_of : ℕ → ℕ
entry_of byte = four_offsets byte 0 + four_offsets byte 4 * 2 ^ 8 + length (ones_of 8 0 byte) * 2 ^ 59

-- the four 16-bit numbers of a number, the lowest first
unfoldable pub lanes : ℕ → List ℕ
lanes x = tabulate 4 (λ j. x / 2 ^ (16 * j) % 2 ^ 16)
