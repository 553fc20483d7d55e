-- A forest of positions in a queue, as union-find keeps it. Only inner contracts cite these. Definitions
-- only; their laws are in `proofs/ForestLaws.antt`.
--   root        where the entries lead
--   Forest      no entry is above its own position
--   SameRoots   every position keeps its root
--   Joinable    what joining two sets asks
--   Joined      two sets are one
use Rattle.std.specs.Prelude.{ℕ, zero, suc, ◌≤◌, ◌<◌, min, max, ◌≡◌, cond, List, eqb, length, get_or}
use Rattle.neighbours.specs.Limits.{max_pixels}

-- where so many entries lead from position k
unfoldable pub climb : List ℕ → ℕ → ℕ → ℕ
climb queue zero k = k
climb queue (suc n) k = climb queue n (get_or queue k 0)

-- The root of position k. No entry is above its own position, so k moves come to one that is its own
unfoldable pub root : List ℕ → ℕ → ℕ
root queue k = climb queue k k

-- the first n entries of a queue are a forest: none is above its own position
pub record Forest (n : ℕ) (queue : List ℕ) : Type 0 where
  pub room : n ≤ length queue
  pub lower : (k : ℕ) → k < n → get_or queue k 0 ≤ k

-- from a forest of n positions to one in which every position has the same root
pub record SameRoots (n : ℕ) (queue queue' : List ℕ) : Type 0 where
  pub size : length queue' ≡ length queue
  pub forest : Forest n queue'
  pub roots : (k : ℕ) → k < n → root queue' k ≡ root queue k

-- positions a and b fit a queue's entry and are in its forest
pub record Joinable (a b : ℕ) (queue : List ℕ) : Type 0 where
  pub first : a < max_pixels
  pub second : b < max_pixels
  pub forest : Forest (suc (max a b)) queue

-- root r, where the sets of the roots a and b are made one
unfoldable pub merged : ℕ → ℕ → ℕ → ℕ
merged a b r = cond (eqb r (max a b)) (min a b) r

-- from a forest of n positions to one in which the sets of positions a and b are one
pub record Joined (n : ℕ) (queue : List ℕ) (a b : ℕ) (queue' : List ℕ) : Type 0 where
  pub size : length queue' ≡ length queue
  pub forest : Forest n queue'
  pub roots : (k : ℕ) → k < n → root queue' k ≡ merged (root queue a) (root queue b) (root queue k)
