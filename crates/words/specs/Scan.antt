-- The scan of an image that stands in a frame, beside the words of its contour. Only inner contracts cite these.
-- Definitions only.
--   Seen                                   an image, its frame and the words of its contour
--   row_contour                            the contour in a row, moved on
--   RowScanned                             a row is passed over, or its contour is listed
--   RowsScanned                            the first rows
--   Placeable                              positions that fit the queue's entries, and a queue that has room for them
--   LookableRow, ScannableRow, Scannable   what a look along a row asks, and the scan of a row and of all rows
use Rattle.std.specs.Prelude.{ℕ, ◌+◌, ◌-◌, ◌*◌, ◌≤◌, ◌<◌, ◌≡◌, List, length}
use Rattle.lists.specs.Lists.{count_from, range, select, bit}
use Rattle.neighbours.specs.Limits.{max_pixels}
use Rattle.neighbours.specs.Grid.{all_sides}
use Rattle.neighbours.specs.Crop.{Extended}
use Rattle.neighbours.specs.Contour.{on_contour}
use Rattle.neighbours.specs.BlankRows.{is_blank_row}
use Rattle.words.specs.Frame.{FrameOf, Room, Framed}
use Rattle.words.specs.Positions.{WordsOf, Listable}
use Rattle.words.specs.declared.Frame.{Frame}
use Rattle.words.specs.declared.Found.{Found}

module _ (width height : ℕ) (image : List ℕ) where
  -- the image's frame, in which object lies beyond every side, and the words of its contour
  pub record Seen (entries words : List ℕ) : Type 0 where
    pub framed : Framed width height all_sides image entries
    pub said : WordsOf width height (on_contour width height image) words

  -- the contour in row y, moved on by `base`
  unfoldable pub row_contour : ℕ → ℕ → List ℕ
  row_contour base y = select (λ i. on_contour width height image (i - base)) (count_from (base + y * width) width)

  -- row y is passed over if it has no object pixel, and counted; else its contour is listed
  pub record RowScanned (base y : ℕ) (queue : List ℕ) (found : Found) (queue' : List ℕ) (found' : Found)
      : Type 0 where
    pub listed : Extended queue found.len (row_contour base y) queue' found'.len
    pub counted : found'.blank ≡ found.blank + bit (is_blank_row width image y)

  -- the first y rows, from a queue with nothing at its front
  pub record RowsScanned (base y : ℕ) (queue queue' : List ℕ) (found : Found) : Type 0 where
    pub listed : Extended queue 0
        (select (λ i. on_contour width height image (i - base)) (count_from base (y * width))) queue' found.len
    pub counted : found.blank ≡ length (select (is_blank_row width image) (range y))

-- the positions of a crop, moved on by `base`, fit an entry, and the queue has an entry for each
pub record Placeable (width height base : ℕ) (queue : List ℕ) : Type 0 where
  pub small : base + width * height ≤ max_pixels
  pub fits : width * height ≤ length queue

-- row y of a frame
pub record LookableRow (frame : Frame) (entries : List ℕ) (y : ℕ) : Type 0 where
  pub room : Room frame entries
  pub row : y < frame.rows

-- row y of a crop's frame and of the words of its contour, positions that fit an entry, and room for a row
pub record ScannableRow (width height : ℕ) (frame : Frame) (entries words : List ℕ) (base y : ℕ)
    (queue : List ℕ) (found : Found) : Type 0 where
  pub of : FrameOf width height 4 all_sides 0 frame
  pub room : Room frame entries
  pub listable : Listable width height words
  pub row : y < height
  pub small : base + width * height ≤ max_pixels
  pub fits : found.len + width ≤ length queue
  pub few : found.blank ≤ y

-- all rows
pub record Scannable (width height : ℕ) (frame : Frame) (entries words : List ℕ) (base : ℕ)
    (queue : List ℕ) : Type 0 where
  pub of : FrameOf width height 4 all_sides 0 frame
  pub room : Room frame entries
  pub listable : Listable width height words
  pub place : Placeable width height base queue
