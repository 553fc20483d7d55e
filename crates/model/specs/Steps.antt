-- The whole-image steps of erosion, dilation and propagation: document 01, "The five operations",
-- and document 02, Point 6.
-- Definitions only; their laws are in `theorems/proofs/StepLaws.antt`.
--
-- Each is a map over all positions that goes by the values before it. 01 calls one of them a step;
-- here it is an iteration, since a `Step` is an operation of a list.
use Rattle.std.specs.Prelude.{ℕ, ◌*◌, cond, ◌&&◌, List, eqb, get_or}
use Rattle.lists.specs.Lists.{tabulate}
use Rattle.neighbours.specs.Grid.{no_side, has_neighbour}

module _ (width height connectivity : ℕ) where
  -- an object pixel with at least one background neighbour becomes 0. Outside neighbours are object where each
  -- side beyond which they lie is named
  unfoldable pub erode_once : ℕ → List ℕ → List ℕ
  erode_once sides image =
      tabulate (width * height)
      (λ i. cond (eqb (get_or image i 0) 1 && has_neighbour width height connectivity sides 0 image i)
      0 (get_or image i 0))

  -- a background pixel with at least one object neighbour becomes 1. No side is named: outside neighbours are 0
  unfoldable pub dilate_once : List ℕ → List ℕ
  dilate_once image =
      tabulate (width * height)
      (λ i. cond (eqb (get_or image i 0) 0 && has_neighbour width height connectivity no_side 1 image i) 1
      (get_or image i 0))

  -- dilation, then AND with the mask
  unfoldable pub propagate_once : List ℕ → List ℕ → List ℕ
  propagate_once mask image =
      let dilated = dilate_once image in
      tabulate (width * height) (λ i. cond (eqb (get_or mask i 0) 1) (get_or dilated i 0) 0)
