-- Laws of the eight directions. Only proofs of functions use them, where a loop goes over the directions.
-- Assumes nothing.
--   across-le, down_le       a direction leads at most one column and one row on
--   straight                 by 4 it stays in the column or in the row
--   across-bits, down-bits   how far it leads, read from two bits a direction
--   length-directions        a connectivity has so many directions as its number says
--   get_or-directions        its k-th direction
--   direction-lt             which is one of the eight
--   below-same               a number below one that is the connectivity is below the connectivity
--   has_neighbour_from       a neighbour in one of the directions from the k-th on has a value: all of them at first
--                            (-zero), none at the end (-end), and the k-th and those behind it (-step)
use Prim.Native.Nat.{ℕ, ◌+◌, ◌*◌, ◌/◌, ◌%◌, ◌^◌, ◌≤◌, ◌<◌}
use mathlib.Core.Path.{◌≡◌, refl, sym, ap, ◌∙◌}
use mathlib.Core.Bool.{Bool, true, false, ◌||◌}
use mathlib.Core.Logic.{◌⊎◌, inl, inr, ⊎_elim}
use mathlib.Core.List.{List, [], ◌∷◌}
use native.Mathlib.Numerals.{add-one}
use native.Mathlib.Omega.{arith}
use lib.Dec.{eqb, leb}
use lib.ListN.{length, get_or, drop, drop_of_length-le}
use lib.Seq.{drop-cons}
use borrow.Author.Tests.{eqb-true, leb-true}
use Rattle.lists.specs.Lists.{all, any, count_from, tabulate}
use Rattle.lists.proofs.BoolLaws.{or-true-cases}
use Rattle.lists.proofs.ListLaws.{all-member, all-get_or, get_or-tabulate, length-tabulate}
use Rattle.neighbours.specs.Grid.{is_connectivity, directions, across, down, neighbour_value, has_neighbour}

-- a direction leads at most one column to the right
pub across-le : (d : ℕ) → across d ≤ 2
unfolding across all
across-le d = leb-true (across d) 2 (all-get_or (λ n. leb n 2) (2 ∷ 2 ∷ 1 ∷ 0 ∷ 0 ∷ 0 ∷ 1 ∷ 2 ∷ []) refl refl d)

-- and at most one row down
pub down_le : (d : ℕ) → down d ≤ 2
unfolding down all
down_le d = leb-true (down d) 2 (all-get_or (λ n. leb n 2) (1 ∷ 0 ∷ 0 ∷ 0 ∷ 1 ∷ 2 ∷ 2 ∷ 2 ∷ []) refl refl d)

-- each of the four directions stays in the column or in the row
all-straight : all (λ d. eqb (across d) 1 || eqb (down d) 1) (directions 4) ≡ true
unfolding across down directions tabulate count_from all
all-straight = refl

pub straight : (d : ℕ) → any (eqb d) (directions 4) ≡ true → (across d ≡ 1) ⊎ (down d ≡ 1)
straight d among =
    ⊎_elim (λ e. inl (eqb-true (across d) 1 e)) (λ e. inr (eqb-true (down d) 1 e))
    (or-true-cases (eqb (across d) 1) (eqb (down d) 1)
    (all-member (λ k. eqb (across k) 1 || eqb (down k) 1) (directions 4) all-straight d among))

-- two bits a direction in a number, those of direction 0 last
abbrev two_bits : ℕ → ℕ → ℕ
two_bits bits d = bits / 2 ^ (2 * d) % 4

-- as a list of eight
get_or-two_bits : (bits d : ℕ) (steps : List ℕ) → tabulate 8 (two_bits bits) ≡ steps → d < 8 →
    two_bits bits d ≡ get_or steps d 0
get_or-two_bits bits d steps e l = sym (get_or-tabulate 8 (two_bits bits) d l) ∙ ap (λ (s : List ℕ). get_or s d 0) e

-- how far a direction leads to the right, by such a number
pub across-bits : (d : ℕ) → d < 8 → 36890 / 2 ^ (2 * d) % 4 ≡ across d
unfolding across tabulate count_from
across-bits d l = get_or-two_bits 36890 d _ refl l

-- and down
pub down-bits : (d : ℕ) → d < 8 → 43265 / 2 ^ (2 * d) % 4 ≡ down d
unfolding down tabulate count_from
down-bits d l = get_or-two_bits 43265 d _ refl l

-- a connectivity has so many directions as its number says
pub length-directions : (connectivity : ℕ) → length (directions connectivity) ≡ connectivity
unfolding directions
length-directions connectivity = length-tabulate connectivity (λ k. k * (8 / connectivity))

-- the k-th of them
pub get_or-directions : (connectivity k : ℕ) → k < connectivity →
    get_or (directions connectivity) k 0 ≡ k * (8 / connectivity)
unfolding directions
get_or-directions connectivity k l = get_or-tabulate connectivity (λ k. k * (8 / connectivity)) k l

pub below-same : {k n connectivity : ℕ} → k < n → n ≡ connectivity → k < connectivity
below-same less same = omega (arith, less, same)

-- which is one of the eight
pub direction-lt : (connectivity k : ℕ) → is_connectivity connectivity ≡ true → k < connectivity →
    k * (8 / connectivity) < 8
direction-lt connectivity k e l =
    ⊎_elim (λ four. let q : connectivity ≡ 4 = eqb-true connectivity 4 four in rw q (omega arith))
    (λ eight. let q : connectivity ≡ 8 = eqb-true connectivity 8 eight in rw q (omega arith))
    (or-true-cases (eqb connectivity 4) (eqb connectivity 8) e)

module _ (width height connectivity sides value : ℕ) (image : List ℕ) (i : ℕ) where
  -- a neighbour in one of the directions from the k-th on has the value
  unfoldable pub has_neighbour_from : ℕ → Bool
  has_neighbour_from k =
      any (λ d. eqb (neighbour_value width height sides image i d) value) (drop k (directions connectivity))

  -- all directions are left at first
  pub has_neighbour_from-zero : has_neighbour width height connectivity sides value image i ≡ has_neighbour_from 0
  unfolding has_neighbour has_neighbour_from
  has_neighbour_from-zero = refl

  -- none is left at the end
  pub has_neighbour_from-end : (k : ℕ) → connectivity ≤ k → has_neighbour_from k ≡ false
  unfolding has_neighbour_from any
  has_neighbour_from-end k l =
      rw (drop_of_length-le (directions connectivity) {i = k} (omega (arith, length-directions connectivity)))

  -- the k-th direction, and those behind it
  pub has_neighbour_from-step : (k d v : ℕ) → k < connectivity → d ≡ get_or (directions connectivity) k 0 →
      v ≡ neighbour_value width height sides image i d →
      has_neighbour_from k ≡ eqb v value || has_neighbour_from (k + 1)
  unfolding has_neighbour_from any
  has_neighbour_from-step k d v lk ed ev =
      let l : k < length (directions connectivity) = omega (arith, length-directions connectivity) in
      rw (add-one, drop-cons (directions connectivity) k 0 l, ← ed, ← ev)
