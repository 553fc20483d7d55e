-- Propagation of packed rows, row by row. The rows are turned: object and background are exchanged, and the unused bits
-- are set, as what lies beyond the sides. Only inner contracts cite these. Definitions only; their laws are in
-- `proofs/GrownLaws.antt`, `proofs/PropagationLaws.antt`, `proofs/BeginLaws.antt` and `proofs/PropagateLaws.antt`.
--   above_at, here_at, row_at   word k of the row above a row, of the row itself, and of a row or of what lies below
--   LevelAt                     what a word counts for those beside it, counted from one
--   GrownWord, GrownAt          what an iteration makes of a word; of word k of a row
--   RowsGrown                   what an iteration makes of the rows of a set
--   SameRow, SameRows           no word of a row changed; no word of any row did
--   Noted                       a set has the rows next to those that changed
--   TurnedRows                  the rows of an image, turned
--   PropagationOf, once         what a run of iterations is of, and one of them
--   Propagated                  a run of iterations
--   shared_area                 the object pixels that two images share
--   Began                       the iterations that a propagation goes on words
--   RowIn .. Reportable         what the functions of a row, of all rows and of a report ask
use Rattle.std.specs.Prelude.{ℕ, suc, ◌+◌, ◌-◌, ◌*◌, ◌≤◌, ◌<◌, max, ◌≡◌, true, cond, ◌&&◌, List, ◌⊎◌, eqb, ltb, length}
use Rattle.std.specs.Prelude.{get_or}
use Rattle.std.specs.Int.Bits.{differ}
use Rattle.lists.specs.Lists.{range, select, iterate, bit}
use Rattle.neighbours.specs.Limits.{max_pixels}
use Rattle.neighbours.specs.Crop.{Binary}
use Rattle.neighbours.specs.Grid.{is_connectivity, all_sides, position}
use Rattle.neighbours.specs.Packed.{bit_at, padded_pixel}
use Rattle.neighbours.specs.Words.{word_bits, full_word, max_row_words, max_words, Flat, Upright, LevelsRound}
use Rattle.neighbours.specs.Words.{without_background}
use Rattle.model.specs.Limits.{u16_limit}
use Rattle.model.specs.Steps.{propagate_once}
use Rattle.model.specs.Operations.{least_iterations}
use Rattle.model.specs.Words.{row_words, unpacked_words}
use Rattle.words.specs.Frame.{FrameOf, Small, Clean}
use Rattle.words.specs.Room.{HeldRows}
use Rattle.words.specs.declared.Frame.{Frame}
use Rattle.propagation.specs.declared.Begun.{Begun}
use Rattle.propagation.specs.RowSet.{row_bit}

-- ---- the words of three rows

-- word k of the row above row y, all bits set above the first row; and of row y
unfoldable pub above_at : ℕ → List ℕ → ℕ → ℕ → ℕ
above_at columns words y k = cond (eqb y 0) full_word (get_or words ((y - 1) * columns + k) 0)

abbrev pub here_at : ℕ → List ℕ → ℕ → ℕ → ℕ
here_at columns words y k = get_or words (y * columns + k) 0

-- word k of row y, all bits set below the last row
unfoldable pub row_at : ℕ → ℕ → List ℕ → ℕ → ℕ → ℕ
row_at columns rows words y k = cond (ltb y rows) (here_at columns words y k) full_word

-- ---- one word

-- What word i of a row counts for the words beside it, counted from one: all bits are set in front of the row and
-- behind it. The words of the row, of the one above and of the one below are counted from zero
pub record LevelAt (columns : ℕ) (above here below : ℕ → ℕ) (four i level : ℕ) : Type 0 where
  pub outside : (i ≡ 0) ⊎ (columns < i) → Flat 1 level
  pub inside : (k : ℕ) → i ≡ k + 1 → k < columns → Upright (above k) (here k) (below k) four level

-- what an iteration makes of a word: its object pixels without a background neighbour, and what is not in the mask
pub record GrownWord (left above here below right eight mask word : ℕ) : Type 0 where
  pub inside : (width height : ℕ) (image : List ℕ) (connectivity k y : ℕ) →
      LevelsRound width height all_sides image connectivity k y left above here below right eight →
      (j : ℕ) → j < word_bits → word_bits * k + j < width →
      bit_at word_bits word j
      ≡ max (bit (without_background width height all_sides image connectivity (position width (word_bits * k + j) y)))
      (differ (bit_at word_bits mask j) 1)
  pub behind : (j : ℕ) → j < word_bits → bit_at word_bits mask j ≡ 0 → bit_at word_bits word j ≡ 1

-- of word k of a row, with the words of the row, of the one above and of the one below
pub record GrownAt (columns : ℕ) (above here below mask : ℕ → ℕ) (four eight k word : ℕ) : Type 0 where
  pub left : ℕ
  pub level : ℕ
  pub right : ℕ
  pub is_left : LevelAt columns above here below four k left
  pub is_level : LevelAt columns above here below four (k + 1) level
  pub is_right : LevelAt columns above here below four (k + 2) right
  pub grown : GrownWord left (above k) level (below k) right eight (mask k) word

-- ---- all rows

-- From words to words': the rows of the set are grown, and the others are as they were
pub record RowsGrown (set : List ℕ) (columns rows : ℕ) (words mask : List ℕ) (four eight : ℕ)
    (words' : List ℕ) : Type 0 where
  pub size : length words' ≡ length words
  pub grown : (y k : ℕ) → y < rows → k < columns → row_bit set (y + 1) ≡ 1 →
      GrownAt columns (above_at columns words y) (here_at columns words y) (row_at columns rows words (y + 1))
      (here_at columns mask y) four eight k (here_at columns words' y k)
  pub kept : (y k : ℕ) → y < rows → k < columns → row_bit set (y + 1) ≡ 0 →
      here_at columns words' y k ≡ here_at columns words y k

-- no word of a row changed; no word of any row did
abbrev pub SameRow : ℕ → List ℕ → List ℕ → ℕ → Type 0
SameRow columns words words' y =
    (k : ℕ) → k < columns → here_at columns words' y k ≡ here_at columns words y k

abbrev pub SameRows : ℕ → ℕ → List ℕ → List ℕ → Type 0
SameRows columns rows words words' = (y : ℕ) → y < rows → SameRow columns words words' y

-- of each row, no word changed, or it and the rows next to it are in the set
abbrev pub Noted : ℕ → ℕ → List ℕ → List ℕ → List ℕ → Type 0
Noted columns rows words words' set =
    (y : ℕ) → y < rows →
    SameRow columns words words' y ⊎ ((n : ℕ) → y ≤ n → n ≤ y + 2 → row_bit set n ≡ 1)

-- the packed rows of an image, turned: each bit says that the pixel is background, and those behind a row's end are set
pub record TurnedRows (width height : ℕ) (image words : List ℕ) : Type 0 where
  pub background : (k y : ℕ) → k < row_words width → y < height → (j : ℕ) → j < word_bits →
      bit_at word_bits (here_at (row_words width) words y k) j ≡ 1 - padded_pixel width image (word_bits * k + j) y

-- a crop's frame and mask, and an image whose rows, turned, the words are
pub record PropagationOf (frame : Frame) (mask words : List ℕ) : Type 0 where
  pub width : ℕ
  pub height : ℕ
  pub connectivity : ℕ
  pub flip : ℕ
  pub image : List ℕ
  pub of : FrameOf width height connectivity all_sides flip frame
  pub clean : Clean width height mask
  pub binary : Binary width height image
  pub rows : TurnedRows width height image words

-- one iteration of it
abbrev pub once : {frame : Frame} {mask words : List ℕ} → PropagationOf frame mask words → List ℕ → List ℕ
once {mask = mask} p =
    propagate_once p.width p.height p.connectivity (unpacked_words p.width p.height mask)

-- n iterations, or fewer if one changes nothing: the turned rows of the image after n, and how many changed anything
abbrev pub Propagated : Frame → ℕ → List ℕ → List ℕ → List ℕ → ℕ → Type 0
Propagated frame n mask words words' count =
    (p : PropagationOf frame mask words) →
    TurnedRows p.width p.height (iterate (once p) n p.image) words'
    × (count ≡ least_iterations (once p) n p.image)

-- how many pixels are object in both images
unfoldable pub shared_area : List ℕ → List ℕ → ℕ
shared_area image mask =
    length (select (λ i. eqb (get_or image i 0) 1 && eqb (get_or mask i 0) 1) (range (length image)))

-- The first iterations of n: how many there were, each of which changed something, the image after them, and whether it
-- is the image after all n
pub record Began (f : List ℕ → List ℕ) (n : ℕ) (image image' : List ℕ) (begun : Begun) : Type 0 where
  pub within : begun.used ≤ n
  pub pictured : image' ≡ iterate f begun.used image
  pub moving : (j : ℕ) → j < begun.used → iterate f (suc j) image ≡ iterate f j image → ⊥
  pub ended : begun.ended ≡ true → image' ≡ iterate f n image

-- ---- what the functions ask

-- row y of so many words
pub record RowIn (columns y : ℕ) (words : List ℕ) : Type 0 where
  pub narrow : columns ≤ max_row_words
  pub within : y * columns + columns ≤ length words
  pub few : length words ≤ max_words

-- row y of words and of a mask, and a row below it
pub record GrowableRow (columns y : ℕ) (words mask below : List ℕ) : Type 0 where
  pub row : RowIn columns y words
  pub masked : length mask ≡ length words
  pub room : columns ≤ length below

-- row y of words and room for it, where it is row `last` or before it
pub record LoadableRow (columns y last : ℕ) (words below : List ℕ) : Type 0 where
  pub ordered : y ≤ last
  pub narrow : columns ≤ max_row_words
  pub within : last * columns ≤ length words
  pub few : length words ≤ max_words
  pub room : columns ≤ length below

-- rows and a mask of as many
pub record Growable (frame : Frame) (words mask : List ℕ) : Type 0 where
  pub small : Small frame
  pub size : length words ≡ frame.columns * frame.rows
  pub masked : length mask ≡ length words

-- packed rows of a crop and of a mask
pub record Propagatable (width height : ℕ) (words mask : List ℕ) (connectivity : ℕ) : Type 0 where
  pub clean : Clean width height words
  pub masked : Clean width height mask
  pub linking : is_connectivity connectivity ≡ true

-- packed rows in their room, a mask, and an image and a queue to work in
pub record Spreadable (width height : ℕ) (image mask queue rows entries : List ℕ)
    (connectivity : ℕ) : Type 0 where
  pub held : HeldRows width height rows entries
  pub masked : Binary width height mask
  pub sized : length image ≡ width * height
  pub room : width * height ≤ length queue
  pub linking : is_connectivity connectivity ≡ true

-- the areas before and after a propagation, the pixels that are object both times, and how many iterations changed
-- anything
pub record Reportable (before kept used after : ℕ) : Type 0 where
  pub few_before : before ≤ max_pixels
  pub few_after : after ≤ max_pixels
  pub both : 2 * kept ≤ before + after
  pub within : used < u16_limit
