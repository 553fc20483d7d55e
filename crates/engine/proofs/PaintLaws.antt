-- Laws of `Painted` (`specs/Leaves.antt`). Assumes nothing.
--   painted-none, painted-one       nothing, or one position more, is painted
--   painted-next                    the same for the next entry of a list
--   painted-member, painted-other   a painted pixel holds the value, another holds what it held
use Prim.Native.Nat.{ℕ, ◌+◌, ◌<◌}
use mathlib.Core.Path.{◌≡◌, refl, ◌∙◌}
use mathlib.Core.Bool.{true, false, or-false}
use mathlib.Core.List.{List, [], ◌∷◌, ◌++◌}
use native.Mathlib.Omega.{arith}
use lib.Dec.{eqb}
use lib.ListN.{length, get_or, set, take, length-set}
use lib.Seq.{get_or-set_same, get_or-set_other}
use Rattle.std.proofs.lemmas.List.{take_more}
use borrow.Author.Tests.{eq-eqb, ne_eqb}
use Rattle.lists.specs.Lists.{any}
use Rattle.lists.proofs.BoolLaws.{by-eq, or_right, cond-true, cond-false}
use Rattle.lists.proofs.ListLaws.{any_snoc}
use Rattle.engine.specs.Leaves.{Painted}

-- nothing is painted
pub painted-none : (image : List ℕ) (value : ℕ) → Painted image [] value image
unfolding any
painted-none image value = record { size = refl; pixel = λ k l. refl }

module _ {image positions : List ℕ} {value : ℕ} {image' : List ℕ} (p : Painted image positions value image') where
  -- one position more
  pub painted-one : (at : ℕ) → at < length image → Painted image (positions ++ at ∷ []) value (set image' at value)
  painted-one at inside =
      record {
        size = length-set image' at value ∙ p.size;
        pixel = λ k l.
            by-eq k at
            (λ e.
            let member = or_right (any (eqb k) positions) (eqb k at) (eq-eqb k at e) in
            rw (any_snoc (eqb k) positions at, member, e) (get_or-set_same image' at value 0 (omega (arith, p.size))))
            (λ d.
            rw (any_snoc (eqb k) positions at, ne_eqb k at d, or-false)
            (get_or-set_other image' at k value 0 d ∙ p.pixel k l));
      }

-- the next entry of a list
pub painted-next : (list : List ℕ) (k : ℕ) {image : List ℕ} {value : ℕ} {image' : List ℕ} →
    Painted image (take k list) value image' → k < length list → get_or list k 0 < length image →
    Painted image (take (k + 1) list) value (set image' (get_or list k 0) value)
painted-next list k p l inside = rw (take_more list k 0 l) (painted-one p (get_or list k 0) inside)

module _ {image positions : List ℕ} {value : ℕ} {image' : List ℕ} (p : Painted image positions value image') where
  -- a painted pixel holds the value
  pub painted-member : (k : ℕ) → k < length image → any (eqb k) positions ≡ true → get_or image' k 0 ≡ value
  painted-member k l m = p.pixel k l ∙ cond-true value (get_or image k 0) m

  -- another holds what it held
  pub painted-other : (k : ℕ) → k < length image → any (eqb k) positions ≡ false → get_or image' k 0 ≡ get_or image k 0
  painted-other k l m = p.pixel k l ∙ cond-false value (get_or image k 0) m
