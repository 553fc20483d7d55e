-- Packed rows at the front of a buffer that has room for their frame: while a run goes on, its levels stand there.
-- Only inner contracts cite these. Definitions only.
--   front_rows   the packed rows of a crop at a buffer's front
--   InRoom       two buffers with room for a crop's frame
--   HeldRows     packed rows at the front of one of them
--   Lent         lent packed rows, and such buffers
use Rattle.std.specs.Prelude.{ℕ, ◌≤◌, ◌≡◌, List, length, take}
use Rattle.neighbours.specs.Crop.{ValidSize}
use Rattle.model.specs.Words.{row_words, words_length}
use Rattle.words.specs.Frame.{frame_room, max_entries, Clean, Operable}

-- the packed rows of a crop at a buffer's front
abbrev pub front_rows : ℕ → ℕ → List ℕ → List ℕ
front_rows width height rows = take (words_length width height) rows

-- two buffers with room for a crop's frame
pub record InRoom (width height : ℕ) (rows entries : List ℕ) : Type 0 where
  pub valid : ValidSize width height
  pub room : frame_room (row_words width) height ≤ length entries
  pub few : length entries ≤ max_entries
  pub size : length rows ≡ length entries

-- and packed rows at the front of the first
pub record HeldRows (width height : ℕ) (rows entries : List ℕ) : Type 0 where
  pub in_room : InRoom width height rows entries
  pub clean : Clean width height (front_rows width height rows)

-- lent packed rows, an operation's connectivity, and room to work in
pub record Lent (width height : ℕ) (words rows entries : List ℕ) (connectivity : ℕ) : Type 0 where
  pub operable : Operable width height words connectivity
  pub in_room : InRoom width height rows entries
