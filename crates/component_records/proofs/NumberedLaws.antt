-- The components and the holes of an image are `Numbered` (`specs/Records.antt`). Assumes nothing.
use Prim.Native.Nat.{ℕ}
use mathlib.Core.Path.{◌≡◌}
use mathlib.Core.Bool.{true}
use mathlib.Core.List.{List}
use Rattle.neighbours.specs.Grid.{is_connectivity}
use Rattle.model.specs.Labelling.{components, holes}
use Rattle.theorems.proofs.LabellingLaws.{length-components, label-le, first_pixel-lt, first_pixel-label, label-lt}
use Rattle.theorems.proofs.LabellingLaws.{hole_connectivity-is, hole_pixels, holes-components}
use Rattle.component_records.specs.Records.{Numbered}

-- components are numbered by their first pixels
pub numbered-components : (width height connectivity : ℕ) (image : List ℕ) → is_connectivity connectivity ≡ true →
    Numbered width height (components width height connectivity image)
numbered-components width height connectivity image c =
    record {
      pixels = length-components width height connectivity image c;
      most = label-le width height connectivity image c;
      inside = first_pixel-lt width height connectivity image c;
      label = first_pixel-label width height connectivity image c;
      lower = λ a j one most. label-lt width height connectivity image c a one most j;
    }

-- and so are holes
pub numbered-holes : (width height connectivity : ℕ) (image : List ℕ) →
    Numbered width height (holes width height connectivity image)
numbered-holes width height connectivity image =
    rw (holes-components width height connectivity image)
    (numbered-components width height _ (hole_pixels width height connectivity image)
    (hole_connectivity-is connectivity))
