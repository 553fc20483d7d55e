-- An operation as a whole and its three numbers: document 01, "The five operations", and document 02, Point 6.
-- Definitions only; their laws are in `theorems/proofs/OperationLaws.antt`.
--   kind           the kind of an operation, by its number
--   border_sides   the sides that a border value names
--   effect         what an operation does: an iteration repeated, or one change of the whole image
--   apply          the image after an operation
--   changed        pixels that differ before and after
--   used           the least number of iterations that gives the same image
use Rattle.std.specs.Prelude.{ℕ, zero, suc, true, false, cond, not, List, eqb, length, get_or}
use Rattle.lists.specs.Lists.{select, same, iterate, bit}
use Rattle.neighbours.specs.Grid.{positions, position, no_side, all_sides}
use Rattle.model.specs.Steps.{erode_once, dilate_once, propagate_once}
use Rattle.model.specs.Connectivity.{flood_fill, clear_border}
use Rattle.model.specs.declared.Step.{Step}
use Rattle.model.specs.declared.Step.TheVariants.{Erode, Dilate, Propagate, FloodFill, ClearBorder}
use Rattle.model.specs.declared.Step.TheVariants.{ErodeBySides}

-- The least number of iterations of f that leads from one image to the other, of at most n more, k
-- having been tried: 0, 1, 2 and so on until the one after comes
unfoldable pub least_from : (List ℕ → List ℕ) → ℕ → ℕ → List ℕ → List ℕ → ℕ
least_from f zero k before after = k
least_from f (suc n) k before after =
    elim (same before after) [ true ↦ k | false ↦ least_from f n (suc k) (f before) after ]

-- used, of an operation that iterates f n times
unfoldable pub least_iterations : (List ℕ → List ℕ) → ℕ → List ℕ → ℕ
least_iterations f n before = least_from f n 0 before (iterate f n before)

-- used, of the others: 1 if anything changed, else 0
unfoldable pub used_once : List ℕ → List ℕ → ℕ
used_once before after = bit (not (same before after))

-- ---- what an operation does

-- the kind of an operation, by its number in 01's table and in 02
abbrev pub kind : Step → ℕ
kind (Erode connectivity border_value n) = 1
kind (Dilate connectivity n) = 2
kind (Propagate connectivity n) = 3
kind (FloodFill connectivity x y) = 4
kind (ClearBorder connectivity) = 5
kind (ErodeBySides connectivity sides n) = 7

-- The sides that a border value (01: surround) names: none, or all. "Kind 1 means 0 or 15 here"
unfoldable pub border_sides : ℕ → ℕ
border_sides border_value = cond (eqb border_value 0) no_side all_sides

-- An operation repeats an iteration so many times, or changes the whole image once
pub data Effect : Type 0 where
  iterated : (List ℕ → List ℕ) → ℕ → Effect
  whole : (List ℕ → List ℕ) → Effect

-- the image after it
unfoldable pub applied : Effect → List ℕ → List ℕ
applied (iterated f n) image = iterate f n image
applied (whole f) image = f image

-- the least number of iterations that gives that image; for a change of the whole image 1 if anything
-- changed, else 0
unfoldable pub used_by : Effect → List ℕ → ℕ
used_by (iterated f n) image = least_iterations f n image
used_by (whole f) image = used_once image (f image)

module _ (width height : ℕ) where
  -- what each operation does. The mask is propagation's; 0 iterations do not apply it
  unfoldable pub effect : Step → List ℕ → Effect
  effect (Erode connectivity border_value n) mask =
      iterated (erode_once width height connectivity (border_sides border_value)) n
  effect (Dilate connectivity n) mask = iterated (dilate_once width height connectivity) n
  effect (Propagate connectivity n) mask = iterated (propagate_once width height connectivity mask) n
  effect (FloodFill connectivity x y) mask =
      whole (λ image. flood_fill width height connectivity image (position width x y))
  effect (ClearBorder connectivity) mask = whole (clear_border width height connectivity)
  effect (ErodeBySides connectivity sides n) mask = iterated (erode_once width height connectivity sides) n

  -- the image after an operation
  unfoldable pub apply : Step → List ℕ → List ℕ → List ℕ
  apply step mask image = applied (effect step mask) image

  -- how many pixels differ in the two images
  unfoldable pub changed : List ℕ → List ℕ → ℕ
  changed before after =
      length (select (λ i. not (eqb (get_or before i 0) (get_or after i 0))) (positions width height))

  -- its used number
  unfoldable pub used : Step → List ℕ → List ℕ → ℕ
  used step mask image = used_by (effect step mask) image
