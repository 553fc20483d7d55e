-- What the small functions over an image and a queue say. Only inner contracts cite these. Definitions only.
--   Positions         a stretch of the queue that holds positions of an image
--   Painted           some pixels get a value, all others keep theirs
--   Marked            the entries of a contour handed in that were found right
use Rattle.std.specs.Prelude.{ℕ, suc, ◌*◌, ◌≤◌, ◌<◌, ◌≡◌, Bool, cond, ◌&&◌, List, eqb, ltb, length, get_or, take}
use Rattle.lists.specs.Lists.{any, occurrences, bit}
use Rattle.neighbours.specs.Contour.{on_contour}
use Rattle.neighbours.specs.Crop.{mark}

-- the queue's entries from `from` up to `to` are positions of an image of so many pixels
pub record Positions (queue : List ℕ) (from to pixels : ℕ) : Type 0 where
  pub ordered : from ≤ to
  pub within : to ≤ length queue
  pub entries : (k : ℕ) → from ≤ k → k < to → get_or queue k 0 < pixels

-- the pixels at the positions get the value, all others keep theirs
pub record Painted (image positions : List ℕ) (value : ℕ) (image' : List ℕ) : Type 0 where
  pub size : length image' ≡ length image
  pub pixel : (k : ℕ) → k < length image → get_or image' k 0 ≡ cond (any (eqb k) positions) value (get_or image k 0)

module _ (width height : ℕ) where
  -- position i of the crop is on the contour; any other number is not
  unfoldable pub is_on_contour : List ℕ → ℕ → Bool
  is_on_contour image i = ltb i (width * height) && on_contour width height image i

-- Of the n entries at a queue's front the first `count` are positions of the contour, each once, and are
-- painted with the mark; the next, where there is one, is no position of the contour or is there already
pub record Marked (width height : ℕ) (image queue : List ℕ) (n : ℕ) (image' : List ℕ) (count : ℕ) : Type 0 where
  pub within : count ≤ n
  pub right : (i : ℕ) → occurrences i (take count queue) ≤ bit (is_on_contour width height image i)
  pub wrong : count < n →
      bit (is_on_contour width height image (get_or queue count 0))
      < occurrences (get_or queue count 0) (take (suc count) queue)
  pub painted : Painted image (take count queue) mark image'
