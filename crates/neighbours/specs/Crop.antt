-- What the inner functions say of a crop and of a queue. Only their contracts, here and in the crates
-- above, cite these. Definitions only.
--   ValidSize, Sized, Binary     a crop within 01's limits; an image of that size; one of 0 and 1
--   Ready                        such an image, and a queue with an entry for each pixel
--   InCrop, PixelOf, OffBorder   a column and a row of the crop; the pixel there; a position not on the border
--   Band                         the rows of an image beyond which there is no object pixel
--   PairsIn                      what the passes over pairs ask
--   Appended, Extended           positions written behind a queue's front
--   moved                        positions moved on by so many
--   inside, neighbours           the position at a place; a position's neighbours inside the crop
use Rattle.std.specs.Prelude.{ℕ, suc, ◌+◌, ◌-◌, ◌*◌, ◌≤◌, ◌<◌, ◌≡◌, false, length, get_or, take, drop}
use mathlib.Core.List.{List, [], ◌∷◌, ◌++◌, map, flat_map}
use Rattle.std.proofs.Math.Seq.{slice}
use Rattle.std.specs.Prelude.{Option, Some, None}
use Rattle.neighbours.specs.Limits.{max_side}
use Rattle.neighbours.specs.Grid.{directions, neighbour, on_border}

-- what a pixel that was seen holds while others are looked for; no image that a caller lends holds it
abbrev pub mark : ℕ
mark = 2

-- both sides are within 01's limits
pub record ValidSize (width height : ℕ) : Type 0 where
  pub wide : 1 ≤ width
  pub narrow : width ≤ max_side
  pub tall : 1 ≤ height
  pub low : height ≤ max_side

-- an image of that size
pub record Sized (width height : ℕ) (image : List ℕ) : Type 0 where
  pub valid : ValidSize width height
  pub pixels : length image ≡ width * height

-- an image with as many pixels as the crop, each background or object
pub record Binary (width height : ℕ) (image : List ℕ) : Type 0 where
  pub pixels : length image ≡ width * height
  pub bits : (i : ℕ) → get_or image i 0 ≤ 1

-- sides within the limits, an image of that size of 0 and 1, a queue with an entry for each pixel
pub record Ready (width height : ℕ) (image queue : List ℕ) : Type 0 where
  pub valid : ValidSize width height
  pub binary : Binary width height image
  pub room : width * height ≤ length queue

-- column x and row y are in a crop within 01's limits
pub record InCrop (width height x y : ℕ) : Type 0 where
  pub valid : ValidSize width height
  pub column : x < width
  pub row : y < height

-- and the image has that size
pub record PixelOf (width height : ℕ) (image : List ℕ) (x y : ℕ) : Type 0 where
  pub sized : Sized width height image
  pub column : x < width
  pub row : y < height

-- position i is in a crop within 01's limits and not on its border
pub record OffBorder (width height i : ℕ) : Type 0 where
  pub valid : ValidSize width height
  pub inside : i < width * height
  pub off : on_border width height i ≡ false

-- Rows from `top` up to `end`, in which all object pixels stand. Where rows are left out above or below, the first or
-- the last row of the band has no object pixel either
pub record Band (width height : ℕ) (image : List ℕ) (top end : ℕ) : Type 0 where
  pub ordered : top < end
  pub within : end ≤ height
  pub above : 0 < top → (i : ℕ) → i < suc top * width → get_or image i 0 ≡ 0
  pub below : end < height → (i : ℕ) → (end - 1) * width ≤ i → get_or image i 0 ≡ 0

-- the image of the band
abbrev pub band_image : ℕ → ℕ → ℕ → List ℕ → List ℕ
band_image width top end image = slice (top * width) (end * width) image

-- the pixels from `from` up to `to` and those `apart` positions behind them are inside an image of 0, 1 and marks
pub record PairsIn (image : List ℕ) (from to apart : ℕ) : Type 0 where
  pub ordered : from ≤ to
  pub within : to + apart ≤ length image
  pub values : (k : ℕ) → get_or image k 0 ≤ mark

-- From a queue with `len` entries at its front to queue' with len': the positions are written behind
-- the front, and what stands behind them is as it was
pub record Appended (queue : List ℕ) (len : ℕ) (positions queue' : List ℕ) (len' : ℕ) : Type 0 where
  pub counted : len' ≡ len + length positions
  pub written : queue' ≡ take len queue ++ positions ++ drop len' queue

-- From a queue with `len` entries at its front to queue' with len': the positions are written behind
-- the front. What stands behind them may be anything
pub record Extended (queue : List ℕ) (len : ℕ) (positions queue' : List ℕ) (len' : ℕ) : Type 0 where
  pub counted : len' ≡ len + length positions
  pub size : length queue' ≡ length queue
  pub front : take len' queue' ≡ take len queue ++ positions

-- positions moved on by n, as those of a band are to be those of its image
abbrev pub moved : ℕ → List ℕ → List ℕ
moved n positions = map (λ i. n + i) positions

-- the position at a place, where it is inside the crop
unfoldable pub inside : Option ℕ → List ℕ
inside (Some j) = j ∷ []
inside None = []

-- the neighbours of position i inside the crop, direction by direction
unfoldable pub neighbours : ℕ → ℕ → ℕ → ℕ → List ℕ
neighbours width height connectivity i = flat_map (λ d. inside (neighbour width height i d)) (directions connectivity)
