-- The border of a crop, strip by strip. Document 01, "Crop, neighbours, edge". Definitions only; their laws are in
-- `proofs/BorderLaws.antt`.
--   strip_positions     the positions of a strip
--   first_strips        those of the first n strips
--   border_strip k      the border's k-th strip
--   border_positions    the positions of all four
--   strip_side k        the side that it lies along
--   exposed_strip k     the same strip, or none, by what lies beyond it
--   exposed_positions   the positions of all four, by the sides that count as object
use Rattle.std.specs.Prelude.{ℕ, zero, suc, ◌+◌, ◌-◌, ◌*◌, cond, get_or}
use mathlib.Core.List.{List, [], ◌∷◌, flat_map}
use Rattle.lists.specs.Lists.{range, tabulate}
use Rattle.neighbours.specs.declared.Strip.{Strip}
use Rattle.neighbours.specs.Grid.{top_side, right_side, bottom_side, left_side, has_side}

-- so many positions from position `from` on by `step`
unfoldable pub strip_positions : Strip → List ℕ
strip_positions strip = tabulate strip.count (λ i. strip.from + i * strip.step)

-- the positions of the first n strips, one strip behind the other
unfoldable pub first_strips : (ℕ → Strip) → ℕ → List ℕ
first_strips strips n = flat_map (λ k. strip_positions (strips k)) (range n)

-- no positions
abbrev pub no_strip : Strip
no_strip = record { from = 0; step = 0; count = 0 }

-- the side that the border's k-th strip lies along
unfoldable pub strip_side : ℕ → ℕ
strip_side k = get_or (top_side ∷ bottom_side ∷ left_side ∷ []) k right_side

module _ (width height : ℕ) where
  -- the border's k-th strip: the first row, the last row, the first column, the last column
  unfoldable pub border_strip : ℕ → Strip
  border_strip zero = record { from = 0; step = 1; count = width }
  border_strip (suc zero) = record { from = (height - 1) * width; step = 1; count = width }
  border_strip (suc (suc zero)) = record { from = 0; step = width; count = height }
  border_strip (suc (suc (suc k))) = record { from = width - 1; step = width; count = height }

  -- the positions in the first and last row and column; those in the corners twice or more
  unfoldable pub border_positions : List ℕ
  border_positions = first_strips border_strip 4

  -- the border's k-th strip where its side counts as background, and else none
  unfoldable pub exposed_strip : ℕ → ℕ → Strip
  exposed_strip sides k = cond (has_side sides (strip_side k)) no_strip (border_strip k)

  -- the positions of all four: background lies beyond them, so an erosion takes them in its first iteration
  unfoldable pub exposed_positions : ℕ → List ℕ
  exposed_positions sides = first_strips (exposed_strip sides) 4
