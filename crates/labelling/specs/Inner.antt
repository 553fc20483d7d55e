-- What the inner functions that label require and promise. Only inner contracts cite these; the entry
-- point's contract is `Meets`, of the crate `model`. Definitions only.
--   HasEntries, Hanging   what is asked of a position that is tested, and that is passed
--   Searchable            what the search for pixels that start a component asks for
--   Passed                the labels of pixels that start nothing
--   NextStart             what the search for the next pixel that starts a component answers
--   Guided                a forest and the labels that are asked for agree
--   Labellable            what labelling components, or holes, asks for
--   labels_up_to          a map with so many labels
--   Labelled              the labels that were asked for, or that they are too many
use Rattle.std.specs.Prelude.{ℕ, suc, ◌*◌, ◌≤◌, ◌<◌, min, ◌≡◌, Bool, true, false, ◌&&◌, eqb, Option, Some, None}
use Rattle.std.specs.Prelude.{List, length, get_or}
use Rattle.neighbours.specs.Crop.{Sized, Ready}
use Rattle.neighbours.specs.Grid.{is_connectivity}
use Rattle.model.specs.Limits.{max_labels}
use Rattle.model.specs.Labelling.{Labels}
use Rattle.union_find.specs.Forest.{Forest}
use Rattle.union_find.specs.Regions.{Regions}
use Rattle.component_records.specs.Records.{Numbered}

-- the pixel at position i has the value, and no label yet
unfoldable pub is_unlabelled : ℕ → List ℕ → List ℕ → ℕ → Bool
is_unlabelled value image labels i = eqb (get_or image i 0) value && eqb (get_or labels i 0) 0

-- position k has a pixel, an entry and a label
pub record HasEntries (image queue labels : List ℕ) (k : ℕ) : Type 0 where
  pub pixel : k < length image
  pub entry : k < length queue
  pub label : k < length labels

-- position k has a label and an entry, which is not above it
pub record Hanging (queue labels : List ℕ) (k : ℕ) : Type 0 where
  pub entry : k < length queue
  pub label : k < length labels
  pub lower : get_or queue k 0 ≤ k

-- an image of the crop's size, a forest of its pixels, and a map with a label for each
pub record Searchable (width height : ℕ) (image queue labels : List ℕ) : Type 0 where
  pub sized : Sized width height image
  pub forest : Forest (width * height) queue
  pub size : length labels ≡ width * height

-- The positions from `from` up to `to` are passed: one that hangs on another has that one's label, and a root
-- that starts nothing has 0. The labels before and behind are as they were
pub record Passed (value : ℕ) (image queue labels : List ℕ) (from to : ℕ) (labels' : List ℕ) : Type 0 where
  pub size : length labels' ≡ length labels
  pub before : (k : ℕ) → k < from → get_or labels' k 0 ≡ get_or labels k 0
  pub hung : (k : ℕ) → from ≤ k → k < to → (get_or queue k 0 ≡ k → ⊥) →
      get_or labels' k 0 ≡ get_or labels' (get_or queue k 0) 0
  pub other : (k : ℕ) → from ≤ k → k < to → get_or queue k 0 ≡ k → is_unlabelled value image labels k ≡ false
  pub none : (k : ℕ) → from ≤ k → k < to → get_or queue k 0 ≡ k → get_or labels' k 0 ≡ 0
  pub behind : (k : ℕ) → to ≤ k → get_or labels' k 0 ≡ get_or labels k 0

-- the next pixel that starts a component from `from` on, with all before it passed; or none, with all passed
unfoldable pub NextStart : ℕ → ℕ → List ℕ → List ℕ → List ℕ → ℕ → List ℕ → Option ℕ → Type 0
NextStart size value image queue labels from labels' (Some at) =
    (from ≤ at) × (at < size) × (get_or queue at 0 ≡ at) × (is_unlabelled value image labels at ≡ true)
    × Passed value image queue labels from at labels'
NextStart size value image queue labels from labels' None = Passed value image queue labels from size labels'

-- A forest and the labels that are asked for agree: positions have the label of the one they hang on, a root
-- that starts a component is its first pixel, and no other root has a label
pub record Guided (width height : ℕ) (queue : List ℕ) (starts : ℕ → Bool) (asked : Labels) : Type 0 where
  pub numbered : Numbered width height asked
  pub hung : (k : ℕ) → k < width * height → get_or asked.labels k 0 ≡ get_or asked.labels (get_or queue k 0) 0
  pub none : (k : ℕ) → k < width * height → get_or queue k 0 ≡ k → starts k ≡ false → get_or asked.labels k 0 ≡ 0
  pub some : (k : ℕ) → k < width * height → get_or queue k 0 ≡ k → starts k ≡ true → 1 ≤ get_or asked.labels k 0
  pub first : (k j : ℕ) → k < width * height → get_or queue k 0 ≡ k → starts k ≡ true → j < k →
      get_or asked.labels j 0 ≡ get_or asked.labels k 0 → ⊥

-- an image, a forest of its connected sets, and a map with a label for each pixel
pub record Labellable (width height connectivity : ℕ) (image queue labels : List ℕ) : Type 0 where
  pub ready : Ready width height image queue
  pub known : is_connectivity connectivity ≡ true
  pub regions : Regions width height connectivity image (width * height) queue
  pub size : length labels ≡ width * height

-- a map with labels up to a number
abbrev pub labels_up_to : ℕ → List ℕ → Labels
labels_up_to count labels = record { count = count; labels = labels }

-- A map of the crop's size holds the labels that were asked for, `count` in all; where they are more than
-- a map can number, the count is one too large and the map is of no use
pub record Labelled (width height : ℕ) (asked : Labels) (labels : List ℕ) (count : ℕ) : Type 0 where
  pub size : length labels ≡ width * height
  pub counted : count ≡ min asked.count (suc max_labels)
  pub same : count ≤ max_labels → labels ≡ asked.labels
