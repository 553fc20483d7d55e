-- What the functions of the packed engine say. Only inner contracts cite these. Definitions only.
--
-- The frame has a column for each word of a row, one before and one behind them, and in each column an entry for each
-- row, one above and one below: word k of row y, counted from zero, is entry y + 1 of column k + 1.
--   stride, frame_room      the entries of a column, and of the frame
--   turned                  an image, or the image with object and background exchanged
--   Written                 entries that a loop writes, and those that it leaves
--   FrameOf, Room, Filled   the numbers of a run; buffers that have room; words made into a frame
--   Framed                  the frame of an image
--   Eroded, Stepped, Ran    one word, one iteration and a run
--   ones_sum                the ones of the first words
--   step_of, Operated       the operation that a run is, and what it leaves and tells
use Rattle.std.specs.Prelude.{ℕ, zero, suc, ◌+◌, ◌-◌, ◌*◌, ◌≤◌, ◌<◌, ◌≡◌, Bool, true, false, cond, List, ◌↔◌, eqb, ltb}
use Rattle.std.specs.Prelude.{length, get_or}
use Rattle.std.specs.Int.Bits.{bit_and, bit_xor, differ}
use Rattle.std.specs.Int.Count.{ones}
use Rattle.lists.specs.Lists.{tabulate, iterate, occurrences, bit}
use Rattle.neighbours.specs.Limits.{max_side}
use Rattle.neighbours.specs.Crop.{ValidSize}
use Rattle.neighbours.specs.Grid.{is_connectivity, top_side, right_side, bottom_side, left_side, has_side, position}
use Rattle.neighbours.specs.Packed.{bit_at}
use Rattle.neighbours.specs.Words.{word_bits, Holds, Flat, RowMask, filled_value, without_background, LevelsRound}
use Rattle.neighbours.specs.Words.{max_row_words, full_word, FilledBehind}
use Rattle.model.specs.Steps.{erode_once}
use Rattle.model.specs.Operations.{least_iterations, apply, changed, used}
use Rattle.model.specs.Words.{row_words, words_length, packed_words, unpacked_words, unused_set}
use Rattle.model.specs.declared.Step.{Step}
use Rattle.model.specs.declared.Step.TheVariants.{Dilate, ErodeBySides}
use Rattle.model.specs.declared.WordsReport.{WordsReport}
use Rattle.words.specs.declared.Frame.{Frame}

-- the entries of a column, and of all columns
abbrev pub stride : ℕ → ℕ
stride height = height + 2

abbrev pub frame_room : ℕ → ℕ → ℕ
frame_room columns height = (columns + 2) * stride height

-- the entries of a small room, and of the largest frame
abbrev pub small_room : ℕ
small_room = 320

abbrev pub max_entries : ℕ
max_entries = frame_room max_row_words max_side

-- an image where `flip` is 0; where it is 1, the image with object and background exchanged
unfoldable pub turned : ℕ → List ℕ → List ℕ
turned flip image = tabulate (length image) (λ i. differ (get_or image i 0) flip)

-- From entries to entries': the n entries from `from` on by `step` have the property, counted from zero, and the
-- others are as they were
pub record Written (P : ℕ → ℕ → Type 0) (from step n : ℕ) (entries entries' : List ℕ) : Type 0 where
  pub size : length entries' ≡ length entries
  pub written : (i : ℕ) → i < n → P i (get_or entries' (from + i * step) 0)
  pub others : (at : ℕ) → ((i : ℕ) → i < n → at ≡ from + i * step → ⊥) →
      get_or entries' at 0 ≡ get_or entries at 0

-- n entries from `from` on are inside a list that is not too long to count
pub record Inside (from n : ℕ) (entries : List ℕ) : Type 0 where
  pub within : from + n ≤ length entries
  pub few : length entries ≤ max_entries

-- the numbers of a run: those of the crop, and words that hold what lies beyond the sides
pub record FrameOf (width height connectivity sides flip : ℕ) (frame : Frame) : Type 0 where
  pub valid : ValidSize width height
  pub linking : is_connectivity connectivity ≡ true
  pub turns : flip ≤ 1
  pub columns : frame.columns ≡ row_words width
  pub rows : frame.rows ≡ height
  pub is_four : Flat (bit (eqb connectivity 4)) frame.four
  pub is_eight : Flat (bit (eqb connectivity 8)) frame.eight
  pub is_flip : Flat flip frame.flip
  pub is_top : Flat (bit (has_side sides top_side)) frame.top
  pub is_bottom : Flat (bit (has_side sides bottom_side)) frame.bottom
  pub is_left : Flat (bit (has_side sides left_side)) frame.left
  pub is_right : Flat (bit (has_side sides right_side)) frame.right
  pub is_mask : RowMask width sides (row_words width - 1) frame.keep frame.fill

-- the frame's numbers are within the limits
pub record Small (frame : Frame) : Type 0 where
  pub wide : 1 ≤ frame.columns
  pub narrow : frame.columns ≤ max_row_words
  pub tall : 1 ≤ frame.rows
  pub low : frame.rows ≤ max_side

-- and the entries have room for the frame
pub record Room (frame : Frame) (entries : List ℕ) : Type 0 where
  pub small : Small frame
  pub room : frame_room frame.columns frame.rows ≤ length entries
  pub few : length entries ≤ max_entries

-- what word k of the row above the first, of a row and of the row below the last is made of
unfoldable pub frame_word : Frame → List ℕ → ℕ → ℕ → ℕ
frame_word frame words k y =
    cond (eqb y 0) frame.top
    (cond (eqb y (frame.rows + 1)) frame.bottom
    (bit_xor (get_or words ((y - 1) * frame.columns + k) 0) frame.flip))

-- the bits of word k inside the crop, and what fills it up behind them
unfoldable pub keep_at : Frame → ℕ → ℕ
keep_at frame k = cond (eqb (k + 1) frame.columns) frame.keep full_word

unfoldable pub fill_at : Frame → ℕ → ℕ
fill_at frame k = cond (eqb (k + 1) frame.columns) frame.fill 0

-- column k of words, filled up behind the rows' ends
abbrev pub LoadedAt : Frame → List ℕ → ℕ → ℕ → ℕ → Type 0
LoadedAt frame words k y w = FilledBehind (frame_word frame words k y) (keep_at frame k) (fill_at frame k) w

-- what an iteration makes of a word: its object pixels without a background neighbour, filled up behind the row's end
abbrev pub Eroded : ℕ → ℕ → ℕ → ℕ → ℕ → ℕ → ℕ → ℕ → ℕ → Type 0
Eroded left above here below right eight keep fill r =
    (width height sides : ℕ) (image : List ℕ) (connectivity k y : ℕ) →
    LevelsRound width height sides image connectivity k y left above here below right eight →
    RowMask width sides k keep fill →
    (j : ℕ) → j < word_bits →
    bit_at word_bits r j
    ≡ cond (ltb (word_bits * k + j) width)
    (bit (without_background width height sides image connectivity (position width (word_bits * k + j) y)))
    (bit (has_side sides right_side))

-- the same of entry y of a column, where the levels stand in `levels` and those of the column before it from `from` on
abbrev pub ErodedAt : List ℕ → ℕ → ℕ → ℕ → ℕ → ℕ → ℕ → ℕ → Type 0
ErodedAt levels from apart eight keep fill y w =
    Eroded (get_or levels (from + y) 0) (get_or levels (from + y + apart - 1) 0) (get_or levels (from + y + apart) 0)
    (get_or levels (from + y + apart + 1) 0) (get_or levels (from + y + apart + apart) 0) eight keep fill w

-- none of the n entries from `from` on changed
abbrev pub Same : ℕ → ℕ → List ℕ → List ℕ → Type 0
Same from n entries entries' = (y : ℕ) → y < n → get_or entries' (from + y) 0 ≡ get_or entries (from + y) 0

module _ (width height sides : ℕ) (image : List ℕ) where
  -- the frame of an image: its rows, with the rows above and below, and the columns before and behind
  pub record Framed (entries : List ℕ) : Type 0 where
    pub inside : (k y : ℕ) → k < row_words width → y < stride height →
        Holds (filled_value width height sides image y) (word_bits * k + 1)
        (get_or entries ((k + 1) * stride height + y) 0)
    pub left : (y : ℕ) → y < stride height → Flat (bit (has_side sides left_side)) (get_or entries y 0)
    pub right : (y : ℕ) → y < stride height →
        Flat (bit (has_side sides right_side)) (get_or entries ((row_words width + 1) * stride height + y) 0)

-- an iteration: the frame of an image becomes that of the image after it, and the answer is 0 exactly if they are equal
abbrev pub Stepped : Frame → List ℕ → List ℕ → ℕ → Type 0
Stepped frame entries entries' moved =
    (width height connectivity sides flip : ℕ) (image : List ℕ) →
    FrameOf width height connectivity sides flip frame → length image ≡ width * height →
    ((i : ℕ) → get_or image i 0 ≤ 1) → Framed width height sides image entries →
    Framed width height sides (erode_once width height connectivity sides image) entries'
    × ((moved ≡ 0) ↔ (erode_once width height connectivity sides image ≡ image))

-- n iterations, or fewer if one changes nothing: the frame of the image after n, and how many changed anything
abbrev pub Iterated : Frame → ℕ → List ℕ → List ℕ → ℕ → Type 0
Iterated frame n entries entries' count =
    (width height connectivity sides flip : ℕ) (image : List ℕ) →
    FrameOf width height connectivity sides flip frame → length image ≡ width * height →
    ((i : ℕ) → get_or image i 0 ≤ 1) → Framed width height sides image entries →
    Framed width height sides (iterate (erode_once width height connectivity sides) n image) entries'
    × (count ≡ least_iterations (erode_once width height connectivity sides) n image)

-- a run of n iterations, of the image or of the one with object and background exchanged: the rows after it, and
-- how many iterations changed anything
pub record Ran (width height connectivity sides flip n : ℕ) (words words' : List ℕ) (count : ℕ) : Type 0 where
  pub rows : words'
      ≡ packed_words width height
      (turned flip
      (iterate (erode_once width height connectivity sides) n (turned flip (unpacked_words width height words))))
  pub counted : count
      ≡ least_iterations (erode_once width height connectivity sides) n
      (turned flip (unpacked_words width height words))

-- the ones of the first n words
unfoldable pub ones_sum : ℕ → List ℕ → ℕ
ones_sum zero words = 0
ones_sum (suc n) words = ones_sum n words + ones (get_or words n 0)

-- the operation that a run is: an erosion by sides or, with object and background exchanged, a dilation
abbrev pub step_of : ℕ → ℕ → Bool → ℕ → Step
step_of connectivity sides turn n = cond turn (Dilate connectivity n) (ErodeBySides connectivity sides n)

-- an operation on packed rows: the rows are those of the image after it, and its numbers are the operation's
pub record Operated (width height : ℕ) (step : Step) (mask words words' : List ℕ) (report : WordsReport)
    : Type 0 where
  pub rows : words' ≡ packed_words width height (apply width height step mask (unpacked_words width height words))
  pub is_changed : report.changed
      ≡ changed width height (unpacked_words width height words)
      (apply width height step mask (unpacked_words width height words))
  pub is_used : report.used ≡ used width height step mask (unpacked_words width height words)
  pub is_area : report.area ≡ occurrences 1 (apply width height step mask (unpacked_words width height words))

-- packed rows of a crop, no unused bit set
pub record Clean (width height : ℕ) (words : List ℕ) : Type 0 where
  pub valid : ValidSize width height
  pub size : length words ≡ words_length width height
  pub clear : unused_set width height words ≡ false

-- ---- what the functions ask

-- word k of a row and entry y of the frame's column
pub record FrameIndex (frame : Frame) (words : List ℕ) (k y : ℕ) : Type 0 where
  pub size : length words ≡ frame.columns * frame.rows
  pub column : k < frame.columns
  pub entry : y < stride frame.rows

-- the column of word k of packed rows, and the entries that it is written to from `from` on
pub record LoadableColumn (frame : Frame) (words entries : List ℕ) (k from : ℕ) : Type 0 where
  pub small : Small frame
  pub size : length words ≡ frame.columns * frame.rows
  pub column : k < frame.columns
  pub inside : Inside from (stride frame.rows) entries

-- packed rows, and entries with room for their frame
pub record Loadable (frame : Frame) (words entries : List ℕ) : Type 0 where
  pub room : Room frame entries
  pub size : length words ≡ frame.columns * frame.rows

-- a column of entries that an iteration writes, and the levels of the columns before, of and behind it
pub record SteppableColumn (levels entries : List ℕ) (from apart rows : ℕ) : Type 0 where
  pub distant : rows + 2 ≡ apart
  pub within : from + rows + apart + apart ≤ length levels
  pub size : length levels ≡ length entries
  pub few : length entries ≤ max_entries

-- a frame's entries, and as many levels
pub record Steppable (frame : Frame) (levels entries : List ℕ) : Type 0 where
  pub room : Room frame entries
  pub size : length levels ≡ length entries

-- packed rows of a crop and an operation's numbers
pub record Operable (width height : ℕ) (words : List ℕ) (connectivity : ℕ) : Type 0 where
  pub clean : Clean width height words
  pub linking : is_connectivity connectivity ≡ true

-- entries up to `end`, and as many levels
pub record LevelsIn (entries levels : List ℕ) (end : ℕ) : Type 0 where
  pub within : end ≤ length entries
  pub size : length levels ≡ length entries
  pub few : length entries ≤ max_entries

-- ---- the frame made and written back

-- word y of a column as it is written back, where the column's entries stand from `from` on
abbrev pub StoredAt : Frame → List ℕ → ℕ → ℕ → ℕ → ℕ → Type 0
StoredAt frame entries k from y w =
    w ≡ bit_and (bit_xor (get_or entries (from + y) 0) frame.flip) (keep_at frame k)

-- every column of words, and the columns before and behind them
pub record Loaded (frame : Frame) (words entries' : List ℕ) : Type 0 where
  pub inside : (k y : ℕ) → k < frame.columns → y < stride frame.rows →
      LoadedAt frame words k y (get_or entries' ((k + 1) * stride frame.rows + y) 0)
  pub left : (y : ℕ) → y < stride frame.rows → get_or entries' y 0 ≡ frame.left
  pub right : (y : ℕ) → y < stride frame.rows →
      get_or entries' ((frame.columns + 1) * stride frame.rows + y) 0 ≡ frame.right

-- every word of every row
pub record Stored (frame : Frame) (entries words words' : List ℕ) : Type 0 where
  pub size : length words' ≡ length words
  pub each : (k y : ℕ) → k < frame.columns → y < frame.rows →
      StoredAt frame entries k ((k + 1) * stride frame.rows + 1) y (get_or words' (k + y * frame.columns) 0)
