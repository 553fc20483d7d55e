-- Connected pixels, flood fill and clear border: document 01, "Crop, neighbours, edge" (linked, part)
-- and "The five operations" (fill, drop). Definitions only; their laws are in `theorems/proofs/ConnectivityLaws.antt`.
--   Connected      a path of neighbours of one value joins two pixels (01: linked)
--   reachable      the pixels of a mask that are connected to a seed, computed
--   component      the whole connected set of a pixel (01, of an object pixel: its part)
--   flood_fill     01: fill
--   clear_border   01: drop
use Rattle.std.specs.Prelude.{ℕ, ◌*◌, ◌<◌, ◌≡◌, cond, ◌&&◌, List, eqb, get_or}
use Rattle.lists.specs.Lists.{tabulate, iterate, bit}
use Rattle.neighbours.specs.Grid.{Adjacent, on_border}
use Rattle.model.specs.Steps.{propagate_once}

-- A path of neighbours inside the crop, all of the value, joins position i to another: i itself, or a
-- pixel of the value next to the end of such a path
pub data Connected (width height connectivity value : ℕ) (image : List ℕ) (i : ℕ) : ℕ → Type 0 where
  here : i < width * height → get_or image i 0 ≡ value → Connected width height connectivity value image i i
  next : {j k : ℕ} → Connected width height connectivity value image i k → Adjacent width height connectivity j k →
      j < width * height → get_or image j 0 ≡ value → Connected width height connectivity value image i j

module _ (width height : ℕ) where
  -- the pixels of a value, as an image
  unfoldable pub of_value : ℕ → List ℕ → List ℕ
  of_value value image = tabulate (width * height) (λ i. bit (eqb (get_or image i 0) value))

  -- the one pixel at position i, as an image
  unfoldable pub only : ℕ → List ℕ
  only i = tabulate (width * height) (λ j. bit (eqb j i))

  -- the object pixels in the first or last row or column, as an image
  unfoldable pub border_objects : List ℕ → List ℕ
  border_objects image = tabulate (width * height) (λ i. bit (eqb (get_or image i 0) 1 && on_border width height i))

module _ (width height connectivity : ℕ) where
  -- The pixels of the mask that are connected inside it to a seed. No path needs more iterations than
  -- there are pixels
  unfoldable pub reachable : List ℕ → List ℕ → List ℕ
  reachable mask seeds = iterate (propagate_once width height connectivity mask) (width * height) seeds

  -- the pixels that are connected to position i, all of its value, as an image
  unfoldable pub component : List ℕ → ℕ → List ℕ
  component image i = reachable (of_value width height (get_or image i 0) image) (only width height i)

  -- if position i is background, every background pixel connected to it becomes 1; if it is object,
  -- nothing changes
  unfoldable pub flood_fill : List ℕ → ℕ → List ℕ
  flood_fill image i =
      let filled = component image i in
      tabulate (width * height) (λ j. cond (eqb (get_or image i 0) 0 && eqb (get_or filled j 0) 1) 1 (get_or image j 0))

  -- every component with a pixel in the first or last row or column becomes 0
  unfoldable pub clear_border : List ℕ → List ℕ
  clear_border image =
      let cleared = reachable image (border_objects width height image) in
      tabulate (width * height) (λ j. cond (eqb (get_or cleared j 0) 1) 0 (get_or image j 0))
