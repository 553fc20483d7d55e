-- The connected sets of an image as a forest of its positions. Only inner contracts cite these. Definitions
-- only; their laws are in `proofs/RegionLaws.antt`.
--   diagonal_value    the value whose pixels also connect diagonally
--   connectivity_of   by which connectivity the pixels of a value are taken
--   Regions          the roots are those of the connected sets, as far as a position
--   Unjoined, RowToChain, SquareOf, RowToList, SquareIn, RowToJoin   what joining asks, function by function
--   needs_join        whether a square of four pixels needs a join
--   Chained          the pixels of a row hang on the first pixels of their runs
--   Chains           what holds then
--   ListedColumns    the flagged columns of a row, listed
--   Coarser          linked positions were joined
--   SquareJoined     the pixels of a square are joined as far as they touch
--   Met              they were joined
--   RootFlags        what flagging the roots of background pixels asks, and `RootFlag` of one pixel
--   RootsFlagged     they are flagged
use Rattle.std.specs.Prelude.{ℕ, suc, ◌+◌, ◌*◌, ◌≤◌, ◌<◌, ◌≡◌, ◌⊎◌, Bool, true, cond, not, List, eqb, leb, length}
use Rattle.std.specs.Prelude.{get_or}
use Rattle.lists.specs.Lists.{bit}
use Rattle.neighbours.specs.Limits.{max_side, max_pixels}
use Rattle.neighbours.specs.Grid.{column}
use Rattle.neighbours.specs.Crop.{Sized}
use Rattle.neighbours.specs.Square.{left_of, above_of, corner_of, HasSquare}
use Rattle.model.specs.Connectivity.{Connected}
use Rattle.union_find.specs.Forest.{root, Forest}

-- the value whose pixels also connect diagonally: object by 8, background by 4
unfoldable pub diagonal_value : ℕ → ℕ
diagonal_value connectivity = cond (eqb connectivity 8) 1 0

-- Its pixels are taken by 8, all others by 4. So object pixels are taken by the connectivity, and background by
-- that of holes (`connectivity_of-values`)
unfoldable pub connectivity_of : ℕ → ℕ → ℕ
connectivity_of connectivity value = cond (eqb value (diagonal_value connectivity)) 8 4

-- a path of pixels of one value, by the connectivity of that value, joins position i to position j
abbrev pub Linked : ℕ → ℕ → ℕ → List ℕ → ℕ → ℕ → Type 0
Linked width height connectivity image i j =
    Connected width height (connectivity_of connectivity (get_or image i 0)) (get_or image i 0) image i j

-- Position k is joined to its neighbours before it that have its value, and the other two pixels of its
-- square are joined where they connect diagonally
pub record Settled (width connectivity : ℕ) (image queue : List ℕ) (k : ℕ) : Type 0 where
  pub left : 1 ≤ column width k → get_or image (left_of k) 0 ≡ get_or image k 0 → root queue (left_of k) ≡ root queue k
  pub above : width ≤ k → get_or image (above_of width k) 0 ≡ get_or image k 0 →
      root queue (above_of width k) ≡ root queue k
  pub falling : 1 ≤ column width k → width ≤ k →
      get_or image (corner_of width k) 0 ≡ diagonal_value connectivity →
      get_or image k 0 ≡ diagonal_value connectivity → root queue (corner_of width k) ≡ root queue k
  pub rising : 1 ≤ column width k → width ≤ k → get_or image (left_of k) 0 ≡ diagonal_value connectivity →
      get_or image (above_of width k) 0 ≡ diagonal_value connectivity →
      root queue (left_of k) ≡ root queue (above_of width k)

-- The first n positions are a forest of the connected sets, as far as these positions join them: each is
-- linked to its root, and neighbours of one value have one root
pub record Regions (width height connectivity : ℕ) (image : List ℕ) (n : ℕ) (queue : List ℕ) : Type 0 where
  pub forest : Forest n queue
  pub linked : (k : ℕ) → k < n → Linked width height connectivity image k (root queue k)
  pub settled : (k : ℕ) → k < n → Settled width connectivity image queue k

-- ---- what the functions below ask

-- an image, two maps and a queue of the crop's size
pub record Unjoined (width height : ℕ) (image flags found queue : List ℕ) : Type 0 where
  pub sized : Sized width height image
  pub flag_size : length flags ≡ width * height
  pub found_size : length found ≡ width * height
  pub room : width * height ≤ length queue

-- row y of an image, and a queue with an entry for each pixel
pub record RowToChain (width height : ℕ) (image : List ℕ) (y : ℕ) (queue : List ℕ) : Type 0 where
  pub sized : Sized width height image
  pub row : y < height
  pub room : width * height ≤ length queue

-- position k is below the first row, so that its square is inside the image
pub record SquareOf (width height : ℕ) (image : List ℕ) (k : ℕ) : Type 0 where
  pub sized : Sized width height image
  pub below : width < k
  pub inside : k < width * height

-- the flags of a row stand from `start` on, and its columns can be listed
pub record RowToList (width : ℕ) (flags : List ℕ) (start : ℕ) (found : List ℕ) : Type 0 where
  pub narrow : width ≤ max_side
  pub whole : start + width ≤ length flags
  pub room : width ≤ length found
  pub bits : (x : ℕ) → 1 ≤ x → x < width → get_or flags (start + x) 0 ≤ 1

-- position k has a square, and all of it is in the forest
pub record SquareIn (width height : ℕ) (image queue : List ℕ) (k : ℕ) : Type 0 where
  pub sized : Sized width height image
  pub square : HasSquare width height k
  pub forest : Forest (suc k) queue

-- ---- row by row

-- Two of three hold of the square of position k: a run starts there, a run starts above it, the two pixels
-- are alike
unfoldable pub needs_join : ℕ → List ℕ → ℕ → Bool
needs_join width image k =
    leb 2 (
    bit (not (eqb (get_or image k 0) (get_or image (left_of k) 0)))
    + bit (not (eqb (get_or image (above_of width k) 0) (get_or image (corner_of width k) 0)))
    + bit (eqb (get_or image k 0) (get_or image (above_of width k) 0)))

-- The entries of row y are the first pixels of their runs, those of the rows above are as they were
pub record Chained (width : ℕ) (image : List ℕ) (y : ℕ) (queue queue' : List ℕ) : Type 0 where
  pub size : length queue' ≡ length queue
  pub before : (k : ℕ) → k < y * width → get_or queue' k 0 ≡ get_or queue k 0
  pub first : get_or queue' (y * width) 0 ≡ y * width
  pub further : (k : ℕ) → y * width < k → k < suc y * width →
      get_or queue' k 0 ≡ cond (eqb (get_or image k 0) (get_or image (left_of k) 0)) (get_or queue' (left_of k) 0) k

-- the rows above row y are regions, and row y is chained
pub record Chains (width height connectivity : ℕ) (image : List ℕ) (y : ℕ) (queue : List ℕ) : Type 0 where
  pub forest : Forest (suc y * width) queue
  pub linked : (k : ℕ) → k < suc y * width → Linked width height connectivity image k (root queue k)
  pub settled : (k : ℕ) → k < y * width → Settled width connectivity image queue k
  pub left : (k : ℕ) → y * width < k → k < suc y * width → get_or image (left_of k) 0 ≡ get_or image k 0 →
      root queue (left_of k) ≡ root queue k

-- the columns whose flags, from `start` on, are 1 stand at the front of found', `count` in all
pub record ListedColumns (width : ℕ) (flags : List ℕ) (start : ℕ) (found found' : List ℕ) (count : ℕ) : Type 0 where
  pub size : length found' ≡ length found
  pub few : count ≤ width
  pub inside : (i : ℕ) → i < count → (1 ≤ get_or found' i 0) × (get_or found' i 0 < width)
  pub each : (x : ℕ) → 1 ≤ x → x < width → get_or flags (start + x) 0 ≡ 1 →
      (i : ℕ) × (i < count) × (get_or found' i 0 ≡ x)

-- row y, which is not the first, is chained, and the columns that need a join stand at the front of `found`
pub record RowToJoin (width height connectivity : ℕ) (image : List ℕ) (y : ℕ) (found : List ℕ) (count : ℕ)
    (queue : List ℕ) : Type 0 where
  pub sized : Sized width height image
  pub below : 1 ≤ y
  pub row : y < height
  pub few : count ≤ length found
  pub inside : (i : ℕ) → i < count → (1 ≤ get_or found i 0) × (get_or found i 0 < width)
  pub each : (x : ℕ) → 1 ≤ x → x < width → needs_join width image (y * width + x) ≡ true →
      (i : ℕ) × (i < count) × (get_or found i 0 ≡ x)
  pub chains : Chains width height connectivity image y queue

-- From a forest of n positions to one in which linked positions were joined: positions of one set are still
-- in one
pub record Coarser (width height connectivity : ℕ) (image : List ℕ) (n : ℕ) (queue queue' : List ℕ) : Type 0 where
  pub size : length queue' ≡ length queue
  pub forest : Forest n queue'
  pub linked : ((k : ℕ) → k < n → Linked width height connectivity image k (root queue k)) →
      (k : ℕ) → k < n → Linked width height connectivity image k (root queue' k)
  pub kept : (i j : ℕ) → i < n → j < n → root queue i ≡ root queue j → root queue' i ≡ root queue' j

-- The pixel at position k and the one above are joined where they are alike, and else those of its square that
-- connect diagonally
pub record SquareJoined (width connectivity : ℕ) (image queue : List ℕ) (k : ℕ) : Type 0 where
  pub above : get_or image (above_of width k) 0 ≡ get_or image k 0 → root queue (above_of width k) ≡ root queue k
  pub falling : (get_or image (above_of width k) 0 ≡ get_or image k 0 → ⊥) →
      get_or image (corner_of width k) 0 ≡ diagonal_value connectivity →
      get_or image k 0 ≡ diagonal_value connectivity → root queue (corner_of width k) ≡ root queue k
  pub rising : (get_or image (above_of width k) 0 ≡ get_or image k 0 → ⊥) →
      get_or image (left_of k) 0 ≡ diagonal_value connectivity →
      get_or image (above_of width k) 0 ≡ diagonal_value connectivity →
      root queue (left_of k) ≡ root queue (above_of width k)

-- from a forest of n positions to one in which those of the square of position k were joined
pub record Met (width height connectivity : ℕ) (image : List ℕ) (n k : ℕ) (queue queue' : List ℕ) : Type 0 where
  pub coarser : Coarser width height connectivity image n queue queue'
  pub square : SquareJoined width connectivity image queue' k

-- ---- the background outside

-- an image, a map with a flag for each pixel, and a forest of the pixels
pub record RootFlags (width height : ℕ) (image queue flags : List ℕ) : Type 0 where
  pub sized : Sized width height image
  pub size : length flags ≡ width * height
  pub forest : Forest (width * height) queue

-- position k has a pixel, a flag, and a root in the forest
pub record RootFlag (image queue flags : List ℕ) (k : ℕ) : Type 0 where
  pub fits : k < max_pixels
  pub pixel : k < length image
  pub flag : k < length flags
  pub forest : Forest (suc k) queue

-- the roots of the background pixels among those visited are flagged, and nothing else is
pub record RootsFlagged (image queue : List ℕ) (visited : ℕ → Type 0) (flags flags' : List ℕ) : Type 0 where
  pub size : length flags' ≡ length flags
  pub kept : (k : ℕ) → (get_or flags k 0 ≡ 0 → ⊥) → get_or flags' k 0 ≡ 0 → ⊥
  pub only : (k : ℕ) → (get_or flags' k 0 ≡ 0 → ⊥) →
      (get_or flags k 0 ≡ 0 → ⊥) ⊎ ((j : ℕ) × visited j × (get_or image j 0 ≡ 0) × (root queue j ≡ k))
  pub each : (j : ℕ) → visited j → get_or image j 0 ≡ 0 → get_or flags' (root queue j) 0 ≡ 0 → ⊥
