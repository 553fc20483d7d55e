-- Positions listed from words that have a bit for each pixel, such as the words of a contour. The words stand as in a
-- frame (`Frame.antt`). Only inner contracts cite these. Definitions only.
--   row_ones, ones_above      the positions of the ones of a row's first words, and of the first rows
--   WordAt, WordOf, WordsOf   words that say which pixels pass a test
--   ContourOf, ContourAt      words that say which pixels are on the contour
--   Listable, ListableRow     what listing asks
--   Lists                     a function value that lists a word's ones
--   ComparableRow             what comparing asks
use Rattle.std.specs.Prelude.{ℕ, zero, suc, ◌+◌, ◌-◌, ◌*◌, ◌≤◌, ◌<◌, ◌≡◌, Bool, ◌&&◌, List, [], ◌++◌, ltb, length}
use Rattle.std.specs.Prelude.{get_or}
use Rattle.std.specs.Borrow.{MutBor}
use Rattle.lists.specs.Lists.{bit}
use Rattle.neighbours.specs.Limits.{max_pixels}
use Rattle.neighbours.specs.Crop.{ValidSize, Extended}
use Rattle.neighbours.specs.Grid.{all_sides}
use Rattle.neighbours.specs.Contour.{on_contour}
use Rattle.neighbours.specs.Packed.{bit_at}
use Rattle.neighbours.specs.Words.{word_bits, LevelsRound}
use Rattle.model.specs.Words.{row_words}
use Rattle.word_ones.specs.Ones.{ones_from, ListableWord}
use Rattle.words.specs.Frame.{stride, frame_room, max_entries}

-- the positions of the ones of row y's first k words, one behind the other, where its first pixel has position `at`
unfoldable pub row_ones : ℕ → List ℕ → ℕ → ℕ → ℕ → List ℕ
row_ones height words y at zero = []
row_ones height words y at (suc k) =
    row_ones height words y at k ++ ones_from (at + word_bits * k) (get_or words ((k + 1) * stride height + 1 + y) 0)

-- of the first y rows
unfoldable pub ones_above : ℕ → ℕ → List ℕ → ℕ → List ℕ
ones_above width height words zero = []
ones_above width height words (suc y) =
    ones_above width height words y ++ row_ones height words y (y * width) (row_words width)

-- the bits of word k of a row, whose first pixel has position `at`, say which of its pixels pass the test; those behind
-- the row's end are 0
abbrev pub WordAt : ℕ → ℕ → (ℕ → Bool) → ℕ → ℕ → Type 0
WordAt at width test k word =
    (j : ℕ) → j < word_bits →
    bit_at word_bits word j ≡ bit (ltb (word_bits * k + j) width && test (at + (word_bits * k + j)))

-- the same of row y, and of all words of a crop
abbrev pub WordOf : ℕ → (ℕ → Bool) → ℕ → ℕ → ℕ → Type 0
WordOf width test k y word = WordAt (y * width) width test k word

abbrev pub WordsOf : ℕ → ℕ → (ℕ → Bool) → List ℕ → Type 0
WordsOf width height test words =
    (k y : ℕ) → k < row_words width → y < height →
    WordOf width test k y (get_or words ((k + 1) * stride height + 1 + y) 0)

-- from the words round a word, which of its pixels are on the contour; `keep` has its bits inside the crop set
abbrev pub ContourOf : ℕ → ℕ → ℕ → ℕ → ℕ → ℕ → ℕ → Type 0
ContourOf left above here below right keep word =
    (width height : ℕ) (image : List ℕ) (k y : ℕ) →
    LevelsRound width height all_sides image 4 k y left above here below right 0 →
    ((j : ℕ) → j < word_bits → bit_at word_bits keep j ≡ bit (ltb (word_bits * k + j) width)) →
    WordOf width (on_contour width height image) k y word

-- the same of entry y of a column, where the column before it stands from `from` on
abbrev pub ContourAt : List ℕ → ℕ → ℕ → ℕ → ℕ → ℕ → Type 0
ContourAt entries from apart keep y word =
    ContourOf (get_or entries (from + y) 0) (get_or entries (from + y + apart - 1) 0)
    (get_or entries (from + y + apart) 0)
    (get_or entries (from + y + apart + 1) 0) (get_or entries (from + y + apart + apart) 0) keep word

-- words of a crop, no bit behind a row's end set
pub record Listable (width height : ℕ) (words : List ℕ) : Type 0 where
  pub valid : ValidSize width height
  pub room : frame_room (row_words width) height ≤ length words
  pub few : length words ≤ max_entries
  pub clear : (k y j : ℕ) → k < row_words width → y < height → j < word_bits → width ≤ word_bits * k + j →
      bit_at word_bits (get_or words ((k + 1) * stride height + 1 + y) 0) j ≡ 0

-- row y of them, whose positions from `at` on fit an entry, and room for a row behind `len` entries of the queue
pub record ListableRow (width height : ℕ) (words : List ℕ) (y at : ℕ) (queue : List ℕ) (len : ℕ)
    : Type 0 where
  pub listable : Listable width height words
  pub row : y < height
  pub small : at + width ≤ max_pixels
  pub room : len + width ≤ length queue

-- a function value that lists the ones of a word
pub record Lists (pre : ℕ → ℕ → MutBor (List ℕ) → ℕ → Type 0)
    (post : ℕ → ℕ → MutBor (List ℕ) → ℕ → ℕ → MutBor (List ℕ) → Type 0) : Type 0 where
  pub callable : (word at : ℕ) (queue : MutBor (List ℕ)) (len : ℕ) → ListableWord at word queue.now len →
      pre word at queue len
  pub lists : (word at : ℕ) (queue queue' : MutBor (List ℕ)) (len end : ℕ) → ListableWord at word queue.now len →
      post word at queue len end queue' → Extended queue.now len (ones_from at word) queue'.now end

-- row y of words, and n entries of a queue that are to be compared from entry `len` on
pub record ComparableRow (width height : ℕ) (words : List ℕ) (y : ℕ)
    (queue : List ℕ) (len n : ℕ) : Type 0 where
  pub listable : Listable width height words
  pub row : y < height
  pub before : len ≤ n
  pub within : n ≤ length queue
