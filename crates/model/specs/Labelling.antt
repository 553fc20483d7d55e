-- Labelling (01: numbering): components (01: parts), holes and their records. Document 01, "Parts,
-- holes, depth", and Point 4 of document 02. Definitions only; their laws are in
-- `theorems/proofs/LabellingLaws.antt`.
--   components    the component labels of an image (01: part map)
--   holes         its hole labels (01: hole map), and `holes_by` those by a connectivity
--   hole_parent   the component that encloses a hole
--   parent        the component that encloses a component (01: enclosing part)
--   records       the component statistics, ten numbers each
use Rattle.std.specs.Prelude.{ℕ, suc, ◌-◌, ◌*◌, min, max, Bool, true, false, cond, ◌&&◌, ◌||◌, eqb, length, get_or}
use Rattle.std.specs.Prelude.{replicate}
use mathlib.Core.List.{List, [], ◌∷◌, map, foldr, flat_map}
use Rattle.lists.specs.Lists.{count_from, tabulate, select}
use Rattle.neighbours.specs.Grid.{positions, column, row}
use Rattle.model.specs.Connectivity.{of_value, component, clear_border}

-- a map of labels, 0 where there is none, and how many labels it has
pub record Labels : Type 0 where
  pub count : ℕ
  pub labels : List ℕ

-- Holes are taken by the other connectivity (02: the other linking): by 4 round 8-connected components, by 8
-- round 4-connected ones
unfoldable pub hole_connectivity : ℕ → ℕ
hole_connectivity connectivity = cond (eqb connectivity 4) 8 4

module _ (width height : ℕ) where
  -- the object pixels of an image get the next label
  unfoldable pub paint : List ℕ → Labels → Labels
  paint pixels l =
      record {
        count = suc l.count;
        labels = tabulate (width * height)
            (λ j. cond (eqb (get_or pixels j 0) 1) (suc l.count) (get_or l.labels j 0));
      }

  -- no label yet
  unfoldable pub unlabelled : Labels
  unlabelled = record { count = 0; labels = replicate (width * height) 0 }

module _ (width height connectivity : ℕ) where
  -- where position i starts a component, that component gets the next label
  unfoldable pub start_if : Bool → List ℕ → ℕ → Labels → Labels
  start_if true image i l = paint width height (component width height connectivity image i) l
  start_if false image i l = l

  -- the positions are looked at in turn: an object pixel without a label starts the next component
  unfoldable pub label_from : List ℕ → List ℕ → Labels → Labels
  label_from image [] l = l
  label_from image (i ∷ is) l =
      label_from image is (start_if (eqb (get_or image i 0) 1 && eqb (get_or l.labels i 0) 0) image i l)

  -- the components, labelled from 1 in the order of their first pixels, row by row; background is 0
  unfoldable pub components : List ℕ → Labels
  components image = label_from image (positions width height) (unlabelled width height)

-- The holes by a connectivity, labelled the same way: the whole connected sets of background pixels with no pixel
-- in the first or last row or column. All else is 0
unfoldable pub holes_by : ℕ → ℕ → ℕ → List ℕ → Labels
holes_by width height by image =
    components width height by (clear_border width height by (of_value width height 0 image))

-- the holes round the components of a connectivity
unfoldable pub holes : ℕ → ℕ → ℕ → List ℕ → Labels
holes width height connectivity image = holes_by width height (hole_connectivity connectivity) image

-- ---- records

-- the least and the greatest of a list that is not empty
unfoldable pub least : List ℕ → ℕ
least xs = foldr min (get_or xs 0 0) xs

unfoldable pub greatest : List ℕ → ℕ
greatest xs = foldr max 0 xs

module _ (width height : ℕ) where
  -- the positions that have a label, row by row
  unfoldable pub pixels_of : List ℕ → ℕ → List ℕ
  pixels_of labels label = select (λ i. eqb (get_or labels i 0) label) (positions width height)

  -- the first of them
  unfoldable pub first_pixel : List ℕ → ℕ → ℕ
  first_pixel labels label = get_or (pixels_of labels label) 0 0

  -- a hole's enclosing component holds the pixel left of the hole's first pixel
  unfoldable pub hole_parent : List ℕ → List ℕ → ℕ → ℕ
  hole_parent component_labels hole_labels hole = get_or component_labels (first_pixel hole_labels hole - 1) 0

  -- A component's enclosing component is that of the hole holding the pixel left of the component's
  -- first pixel; 0 if that is outside or in no hole
  unfoldable pub parent : List ℕ → List ℕ → ℕ → ℕ
  parent component_labels hole_labels label =
      let first = first_pixel component_labels label in
      let hole = get_or hole_labels (first - 1) 0 in
      cond (eqb (column width first) 0 || eqb hole 0) 0 (hole_parent component_labels hole_labels hole)

  -- how many holes a component encloses
  unfoldable pub holes_in : List ℕ → Labels → ℕ → ℕ
  holes_in component_labels hs label =
      length (select (λ hole. eqb (hole_parent component_labels hs.labels hole) label) (count_from 1 hs.count))

  -- a component's record: its number, first x, first y, area, box left, top, right, bottom, holes it
  -- encloses, enclosing component
  unfoldable pub record_of : List ℕ → Labels → ℕ → List ℕ
  record_of component_labels hs label =
      let pixels = pixels_of component_labels label in
      let xs = map (column width) pixels in
      let ys = map (row width) pixels in
      let first = first_pixel component_labels label in
      label ∷ column width first ∷ row width first ∷ length pixels
      ∷ least xs ∷ least ys ∷ greatest xs ∷ greatest ys
      ∷ holes_in component_labels hs label
      ∷ parent component_labels hs.labels label
      ∷ []

  -- the records of all components
  unfoldable pub records : Labels → Labels → List ℕ
  records cs hs = flat_map (record_of cs.labels hs) (count_from 1 cs.count)
