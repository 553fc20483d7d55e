-- Laws of `least` and `greatest`, of the model's `Labelling`: of one number, and of the values of f at one number
-- more. Assumes nothing.
--   least-one, greatest-one                   of a list of one
--   least-map-append, greatest-map-append     one number more at the end
--   least-map-above, greatest-map-above       whose value none of the others exceeds
use Prim.Native.Nat.{ℕ, ◌≤◌, min, max, zero-le}
use mathlib.Core.Path.{◌≡◌, ap, ◌∙◌}
use mathlib.Core.List.{List, [], ◌∷◌, ◌++◌, map, map-append, foldr}
use native.Mathlib.Omega.{arith}
use lib.ListN.{length}
use Rattle.lists.specs.Lists.{Each}
use Rattle.model.specs.Labelling.{least, greatest}

pub least-one : (x : ℕ) → least (x ∷ []) ≡ x
unfolding least
least-one x = omega arith

pub greatest-one : (x : ℕ) → greatest (x ∷ []) ≡ x
unfolding greatest
greatest-one x = omega arith

foldr-min-append : (start : ℕ) (xs : List ℕ) (y : ℕ) → foldr min start (xs ++ y ∷ []) ≡ min (foldr min start xs) y
foldr-min-append start [] y = omega arith
foldr-min-append start (x ∷ xs) y = rw (foldr-min-append start xs y) (omega arith)

greatest-append : (xs : List ℕ) (y : ℕ) → greatest (xs ++ y ∷ []) ≡ max (greatest xs) y
unfolding greatest
greatest-append [] y = omega arith
greatest-append (x ∷ xs) y = rw (greatest-append xs y) (omega arith)

module _ (f : ℕ → ℕ) where
  -- one number more at the end
  pub least-map-append : (is : List ℕ) (i : ℕ) → 1 ≤ length is →
      least (map f (is ++ i ∷ [])) ≡ min (least (map f is)) (f i)
  unfolding least
  least-map-append [] i some = absurd (omega arith)
  least-map-append (j ∷ js) i some =
      ap (foldr min (f j)) (map-append f (j ∷ js) (i ∷ [])) ∙ foldr-min-append (f j) (map f (j ∷ js)) (f i)

  pub greatest-map-append : (is : List ℕ) (i : ℕ) → greatest (map f (is ++ i ∷ [])) ≡ max (greatest (map f is)) (f i)
  greatest-map-append is i = ap greatest (map-append f is (i ∷ [])) ∙ greatest-append (map f is) (f i)

  -- the greatest value is at most what each is at most
  greatest-map-le : (is : List ℕ) (most : ℕ) → Each (λ j. f j ≤ most) is → greatest (map f is) ≤ most
  unfolding greatest
  greatest-map-le [] most h = zero-le
  greatest-map-le (j ∷ js) most h = omega (arith, h.0, greatest-map-le js most h.1)

  -- one that none of the others exceeds: it does not lower the least value, and its value is the greatest
  pub least-map-above : (is : List ℕ) (i : ℕ) → 1 ≤ length is → Each (λ j. f j ≤ f i) is →
      least (map f (is ++ i ∷ [])) ≡ least (map f is)
  unfolding least
  least-map-above [] i some h = absurd (omega arith)
  least-map-above (j ∷ js) i some h = least-map-append (j ∷ js) i some ∙ omega (arith, h.0)

  pub greatest-map-above : (is : List ℕ) (i : ℕ) → Each (λ j. f j ≤ f i) is → greatest (map f (is ++ i ∷ [])) ≡ f i
  greatest-map-above is i h = greatest-map-append is i ∙ omega (arith, greatest-map-le is (f i) h)
