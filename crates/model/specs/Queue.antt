-- The queue of positions that a caller lends: document 01, "The contour handed on".
-- Definitions only; their laws are in `theorems/proofs/QueueLaws.antt`.
--   front n queue            the first n entries, or none where n is beyond the end (01: the stretch)
--   filled positions queue   the positions, then zeros to the queue's end
--   HoldsContour             each contour position once at the front and no other, zeros behind
use Rattle.std.specs.Prelude.{ℕ, ◌-◌, ◌*◌, ◌≤◌, ◌<◌, ◌≡◌, cond, List, [], ◌++◌, leb, length, take, drop, replicate}
use Rattle.lists.specs.Lists.{occurrences, bit}
use Rattle.neighbours.specs.Contour.{on_contour}

-- the first n entries, or none where n is beyond the end
unfoldable pub front : ℕ → List ℕ → List ℕ
front n queue = cond (leb n (length queue)) (take n queue) []

-- the positions, then zeros to the queue's end
unfoldable pub filled : List ℕ → List ℕ → List ℕ
filled positions queue = positions ++ replicate (length queue - length positions) 0

-- all zeros, as long as the queue
abbrev pub cleared : List ℕ → List ℕ
cleared queue = replicate (length queue) 0

-- The queue holds the contour of the image at its front, n positions in a free order: each position of
-- the contour once and no other, zeros behind to the queue's end
pub record HoldsContour (width height : ℕ) (image queue : List ℕ) (n : ℕ) : Type 0 where
  pub within : n ≤ length queue
  pub once : (i : ℕ) → i < width * height → occurrences i (front n queue) ≡ bit (on_contour width height image i)
  pub no_other : (i : ℕ) → width * height ≤ i → occurrences i (front n queue) ≡ 0
  pub zeros : drop n queue ≡ replicate (length queue - n) 0
