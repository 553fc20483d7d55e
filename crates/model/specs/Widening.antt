-- A map of byte labels carried over into a map of 16-bit labels. Document 02, Point 1: "A map holding byte
-- numbers can be carried over, and each pixel keeps its number." Definitions only.
--   Widened     what carrying over gives: 01's number, and both maps as they are left
--   widen_map   from both maps as they are lent
use Rattle.std.specs.Prelude.{ℕ, ◌*◌, List, [], ◌∷◌}
use Rattle.std.proofs.Math.Option.{Option, none, some}
use Rattle.neighbours.specs.Limits.{max_side}
use Rattle.model.specs.Refusals.{number, first_refusal, size_check, length_check}
use Rattle.model.specs.declared.Refusal.{Refusal}

-- 01's number or 0, the byte map and the 16-bit map
pub record Widened : Type 0 where
  pub number : ℕ
  pub bytes : List ℕ
  pub labels : List ℕ

-- 1 for the sides, 2 for either map; a byte is never refused
unfoldable pub widen_refusal : ℕ → ℕ → List ℕ → List ℕ → Option Refusal
widen_refusal width height bytes labels =
    first_refusal (size_check max_side width height ∷ length_check (width * height) (bytes ∷ labels ∷ []) ∷ [])

-- a refusal leaves both maps as lent; else each pixel keeps its number, whatever it is
unfoldable pub widen_unless : Option Refusal → List ℕ → List ℕ → Widened
widen_unless (some refusal) bytes labels = record { number = number refusal; bytes = bytes; labels = labels }
widen_unless none bytes labels = record { number = 0; bytes = bytes; labels = bytes }

unfoldable pub widen_map : ℕ → ℕ → List ℕ → List ℕ → Widened
widen_map width height bytes labels = widen_unless (widen_refusal width height bytes labels) bytes labels
