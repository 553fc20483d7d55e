-- Laws of lists of checks (`specs/Refusals.antt`: `refuse_if`, `first_refusal`). Assumes nothing.
--   by-refusal                        a proof by the cases of a check
--   first_refusal-nil, -one           no check refuses nothing, and a single one answers
--   first_refusal-cons                behind a check whose condition does not hold the others answer
--   first_refusal-none-cons           where all pass, the first one's condition does not hold, and the others pass
--   first_refusal-append              behind checks that pass the others answer
--   first_refusal-append-some         checks behind one that refuses are not asked
--   first_refusal-none-left, -right   of two lists of checks that pass together each passes
--   first_refusal-flat_map            checks of each entry of a list pass exactly if each entry's pass
use mathlib.Core.Path.{◌≡◌, refl, sym, ◌∙◌}
use mathlib.Core.Bool.{Bool, true, false}
use mathlib.Core.List.{List, [], ◌∷◌, ◌++◌, flat_map}
use mathlib.Core.Option.{Option, none, some}
use native.Mathlib.Omega.{arith}
use Prim.Native.Nat.{ℕ}
use Rattle.lists.specs.Lists.{Each}
use Rattle.model.specs.Refusals.{refuse_if, first_refusal}
use Rattle.model.specs.declared.Refusal.{Refusal}

-- ---- one check

-- by the cases of a check
pub by-refusal {ℓ} : {C : Type ℓ} (check : Option Refusal) → (check ≡ none → C) →
    ((refusal : Refusal) → check ≡ some refusal → C) → C
by-refusal none passes refused = passes refl
by-refusal (some refusal) passes refused = refused refusal refl

-- a refusal is not none
pub some-not-none {ℓ} : {C : Type ℓ} (refusal : Refusal) → some refusal ≡ none → C
some-not-none refusal e = let z : ◌≡◌ {A = ℕ} 0 1 = cc in absurd (omega arith)

-- ---- a list of checks

-- no check refuses nothing
pub first_refusal-nil : first_refusal [] ≡ none
unfolding first_refusal
first_refusal-nil = refl

-- a single check answers
pub first_refusal-one : (check : Option Refusal) → first_refusal (check ∷ []) ≡ check
unfolding first_refusal
first_refusal-one none = refl
first_refusal-one (some refusal) = refl

-- where all pass, the first one's condition does not hold, and the others pass
pub first_refusal-none-cons : (t : Bool) (refusal : Refusal) (checks : List (Option Refusal)) →
    first_refusal (refuse_if t refusal ∷ checks) ≡ none → (t ≡ false) × (first_refusal checks ≡ none)
unfolding first_refusal refuse_if
first_refusal-none-cons true refusal checks e = some-not-none refusal e
first_refusal-none-cons false refusal checks e = (refl, e)

-- behind a check whose condition does not hold the others answer
pub first_refusal-cons : (t : Bool) (refusal : Refusal) (checks : List (Option Refusal)) → t ≡ false →
    first_refusal (refuse_if t refusal ∷ checks) ≡ first_refusal checks
unfolding first_refusal refuse_if
first_refusal-cons t refusal checks e = rw e

-- behind checks that pass the others answer
pub first_refusal-append : (front behind : List (Option Refusal)) → first_refusal front ≡ none →
    first_refusal (front ++ behind) ≡ first_refusal behind
unfolding first_refusal
first_refusal-append [] behind e = refl
first_refusal-append (none ∷ front) behind e = first_refusal-append front behind e
first_refusal-append (some refusal ∷ front) behind e = some-not-none refusal e

-- of two lists of checks that pass together each passes
pub first_refusal-none-left : (front behind : List (Option Refusal)) → first_refusal (front ++ behind) ≡ none →
    first_refusal front ≡ none
unfolding first_refusal
first_refusal-none-left [] behind e = refl
first_refusal-none-left (none ∷ front) behind e = first_refusal-none-left front behind e
first_refusal-none-left (some refusal ∷ front) behind e = e

pub first_refusal-none-right : (front behind : List (Option Refusal)) → first_refusal (front ++ behind) ≡ none →
    first_refusal behind ≡ none
first_refusal-none-right front behind e =
    sym (first_refusal-append front behind (first_refusal-none-left front behind e)) ∙ e

-- checks behind one that refuses are not asked
pub first_refusal-append-some : (front behind : List (Option Refusal)) (refusal : Refusal) →
    first_refusal front ≡ some refusal →
    first_refusal (front ++ behind) ≡ some refusal
unfolding first_refusal
first_refusal-append-some [] behind refusal e = some-not-none refusal (sym e)
first_refusal-append-some (none ∷ front) behind refusal e = first_refusal-append-some front behind refusal e
first_refusal-append-some (some first ∷ front) behind refusal e = e

module _ {A : Type 0} (checks_of : A → List (Option Refusal)) where
  -- checks of each entry of a list pass exactly if each entry's pass
  pub first_refusal-flat_map : (xs : List A) → first_refusal (flat_map checks_of xs) ≡ none →
      Each (λ x. first_refusal (checks_of x) ≡ none) xs
  unfolding flat_map
  first_refusal-flat_map [] e = tt
  first_refusal-flat_map (x ∷ xs) e = (
    first_refusal-none-left (checks_of x) (flat_map checks_of xs) e,
    first_refusal-flat_map xs (first_refusal-none-right (checks_of x) (flat_map checks_of xs) e),
  )

  pub flat_map-first_refusal : (xs : List A) → Each (λ x. first_refusal (checks_of x) ≡ none) xs →
      first_refusal (flat_map checks_of xs) ≡ none
  unfolding flat_map first_refusal
  flat_map-first_refusal [] h = refl
  flat_map-first_refusal (x ∷ xs) h =
      first_refusal-append (checks_of x) (flat_map checks_of xs) h.0 ∙ flat_map-first_refusal xs h.1
