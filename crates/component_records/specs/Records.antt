-- What the functions that write records require and promise. Only inner contracts cite these; what a
-- record is stands in `Labelling`, of the crate `model`. Definitions only.
--   counted         a map whose greatest label is their number
--   Maps            what holds of the labels of components and of holes, and is needed here
--   SameLabel       positions one after the other that have one label, and `InRow` columns of a row that have one
--   record_at       a component's ten entries among the records, and `with_record` other ones in their place
--   HasRecord       a component has ten entries among the records, and `TakesIn` those can take in columns
--   HoleBeside      what the enclosing component of a component's first pixel is read from
--   record_before   a component's record as far as the pixels before a position tell
--   Recorded        what stands in the records and in the queue on the way
--   Kept            the entries behind the records that were started are as they were
--   Writable        the maps, and room for their records; `Recording`, with what has been written so far
use Rattle.std.specs.Prelude.{ℕ, ◌+◌, ◌-◌, ◌*◌, ◌≤◌, ◌<◌, min, max, ◌≡◌, ◌↔◌, List, [], ◌∷◌, ◌++◌, map, eqb, length}
use Rattle.std.specs.Prelude.{get_or, take, drop}
use Rattle.std.proofs.Math.Seq.{slice}
use Rattle.lists.specs.Lists.{range, count_from, select}
use Rattle.neighbours.specs.Crop.{ValidSize}
use Rattle.neighbours.specs.Limits.{max_side}
use Rattle.neighbours.specs.Grid.{column, row, position}
use Rattle.model.specs.Limits.{max_labels, record_length}
use Rattle.model.specs.Labelling.{Labels, least, greatest, first_pixel, hole_parent, parent}
use Rattle.component_records.specs.declared.Seen.{Seen}

-- a map and its greatest label
abbrev pub counted : List ℕ → Labels
counted labels = record { count = greatest labels; labels = labels }

-- A map of the crop's size, numbered by first pixels: each label from 1 to the count has one, and only
-- lower labels stand before it
pub record Numbered (width height : ℕ) (l : Labels) : Type 0 where
  pub pixels : length l.labels ≡ width * height
  pub most : (i : ℕ) → get_or l.labels i 0 ≤ l.count
  pub inside : (a : ℕ) → 1 ≤ a → a ≤ l.count → first_pixel width height l.labels a < width * height
  pub label : (a : ℕ) → 1 ≤ a → a ≤ l.count → get_or l.labels (first_pixel width height l.labels a) 0 ≡ a
  pub lower : (a j : ℕ) → 1 ≤ a → a ≤ l.count → j < first_pixel width height l.labels a → get_or l.labels j 0 < a

-- the maps of components and of holes, which are not too many: a hole's first pixel is in no component, and
-- the pixel left of it is there, and in one
pub record Maps (width height : ℕ) (cs hs : Labels) : Type 0 where
  pub valid : ValidSize width height
  pub few_components : cs.count ≤ max_labels
  pub few_holes : hs.count ≤ max_labels
  pub components : Numbered width height cs
  pub holes : Numbered width height hs
  pub apart : (hole : ℕ) → 1 ≤ hole → hole ≤ hs.count →
      get_or cs.labels (first_pixel width height hs.labels hole) 0 ≡ 0
  pub left : (hole : ℕ) → 1 ≤ hole → hole ≤ hs.count → 1 ≤ first_pixel width height hs.labels hole
  pub enclosed : (hole : ℕ) → 1 ≤ hole → hole ≤ hs.count → 1 ≤ hole_parent width height cs.labels hs.labels hole

-- the positions from `from` up to `to` have one label
pub record SameLabel (labels : List ℕ) (from to : ℕ) : Type 0 where
  pub some : from < to
  pub same : (i : ℕ) → from ≤ i → i < to → get_or labels i 0 ≡ get_or labels from 0

-- the columns from x up to `end` of row y are inside the crop and have one label
pub record InRow (width height : ℕ) (labels : List ℕ) (x end y : ℕ) : Type 0 where
  pub stretch : SameLabel labels (position width x y) (position width end y)
  pub within : end ≤ width
  pub low : y < height

-- ---- one record among the records

-- the p-th ten entries
unfoldable pub record_at : ℕ → List ℕ → List ℕ
record_at p records = slice (record_length * (p - 1)) (record_length * p) records

-- the records with other entries in their place
unfoldable pub with_record : ℕ → List ℕ → List ℕ → List ℕ
with_record p entries records = take (record_length * (p - 1)) records ++ entries ++ drop (record_length * p) records

-- component p has ten entries among the records
pub record HasRecord (p : ℕ) (records : List ℕ) : Type 0 where
  pub one : 1 ≤ p
  pub most : p ≤ max_labels
  pub room : record_length * p ≤ length records

-- and they can take in the columns from x up to `end` of row y, of a crop within the limits
pub record TakesIn (p x end y : ℕ) (records : List ℕ) : Type 0 where
  pub slot : HasRecord p records
  pub some : x < end
  pub narrow : end ≤ max_side
  pub low : y < max_side

-- a record by the columns that its component starts with: those from x up to `end` of row y
unfoldable pub started_record : ℕ → ℕ → ℕ → ℕ → ℕ → List ℕ
started_record p x end y parent = p ∷ x ∷ y ∷ (end - x) ∷ x ∷ y ∷ (end - 1) ∷ y ∷ 0 ∷ parent ∷ []

-- a record with more columns, in a row that is not above the others
unfoldable pub extended_record : ℕ → ℕ → ℕ → List ℕ → List ℕ
extended_record x end y entries =
    get_or entries 0 0 ∷ get_or entries 1 0 ∷ get_or entries 2 0 ∷ (get_or entries 3 0 + (end - x))
    ∷ min (get_or entries 4 0) x ∷ get_or entries 5 0 ∷ max (get_or entries 6 0) (end - 1) ∷ y
    ∷ get_or entries 8 0 ∷ get_or entries 9 0 ∷ []

-- a record with one more hole
unfoldable pub enclosing_record : List ℕ → List ℕ
enclosing_record entries =
    get_or entries 0 0 ∷ get_or entries 1 0 ∷ get_or entries 2 0 ∷ get_or entries 3 0 ∷ get_or entries 4 0
    ∷ get_or entries 5 0 ∷ get_or entries 6 0 ∷ get_or entries 7 0 ∷ (get_or entries 8 0 + 1) ∷ get_or entries 9 0 ∷ []

-- the map of holes has the pixel left of position `at`, which is in column x, and the queue a place for its hole
pub record HoleBeside (holes queue : List ℕ) (at x : ℕ) : Type 0 where
  pub column : x ≤ at
  pub inside : at ≤ length holes
  pub room : get_or holes (at - 1) 0 ≤ length queue

-- ---- on the way

-- the labels up to `seen` are those whose first pixel stands before position n
pub record SeenBefore (width height : ℕ) (l : Labels) (n seen : ℕ) : Type 0 where
  pub most : seen ≤ l.count
  pub exact : (a : ℕ) → 1 ≤ a → a ≤ l.count → (a ≤ seen) ↔ (first_pixel width height l.labels a < n)

module _ (width height : ℕ) where
  -- a component's record by its pixels before position n and by the first holes
  unfoldable pub record_before : Labels → Labels → ℕ → ℕ → ℕ → List ℕ
  record_before cs hs n holes p =
      let pixels = select (λ i. eqb (get_or cs.labels i 0) p) (range n) in
      let xs = map (column width) pixels in
      let ys = map (row width) pixels in
      let first = first_pixel width height cs.labels p in
      p ∷ column width first ∷ row width first ∷ length pixels
      ∷ least xs ∷ least ys ∷ greatest xs ∷ greatest ys
      ∷ length (select (λ hole. eqb (hole_parent width height cs.labels hs.labels hole) p) (count_from 1 holes))
      ∷ parent width height cs.labels hs.labels p
      ∷ []

-- The components that start before position n have their records by the pixels before it, and the holes
-- that start before position m are counted in and have their enclosing components in the queue
pub record Recorded (width height : ℕ) (cs hs : Labels) (n m : ℕ) (seen : Seen) (queue records : List ℕ) : Type 0 where
  pub components : SeenBefore width height cs n seen.components
  pub holes : SeenBefore width height hs m seen.holes
  pub parents : (hole : ℕ) → 1 ≤ hole → hole ≤ seen.holes →
      get_or queue (hole - 1) 0 ≡ hole_parent width height cs.labels hs.labels hole
  pub started : (p : ℕ) → 1 ≤ p → p ≤ seen.components →
      record_at p records ≡ record_before width height cs hs n seen.holes p

-- the entries behind the first records are as they were
pub record Kept (started : ℕ) (records records' : List ℕ) : Type 0 where
  pub size : length records' ≡ length records
  pub behind : drop (record_length * started) records' ≡ drop (record_length * started) records

-- the maps, room for a record of each component, and for the enclosing component of each hole
pub record Writable (width height : ℕ) (cs hs : Labels) (queue records : List ℕ) : Type 0 where
  pub maps : Maps width height cs hs
  pub room : record_length * cs.count ≤ length records
  pub slots : width * height ≤ length queue

-- and what has been written so far
pub record Recording (width height : ℕ) (cs hs : Labels) (n m : ℕ) (seen : Seen) (queue records : List ℕ) : Type 0 where
  pub writable : Writable width height cs hs queue records
  pub recorded : Recorded width height cs hs n m seen queue records
