-- Laws of the Boolean tests, as equations with `true` and `false`. Assumes nothing.
--   by-test, by-eq, by-lt          a proof by the cases of a test
--   bool_same                      two tests that imply one another are equal
--   eqb_comm                       equality is tested either way round
--   and_left .. or-false-right     what a conjunction and a disjunction tell
--   cond-true, cond-false          a choice whose test is known
--   bit_le, eqb-bit, bit-one       a truth as a number
--   bit-eqb                        a number of 0 or 1 is the truth of its being 1
--   cond-le                        a choice between numbers that are at most a third
-- Not here: the laws of Core.Bool, and the tests on numbers (`borrow.Author.Tests`).
use Prim.Native.Nat.{ℕ, zero, suc, ◌≤◌, ◌<◌}
use mathlib.Core.Path.{◌≡◌, refl, sym}
use mathlib.Core.Bool.{Bool, true, false, cond, ◌&&◌, ◌||◌, false≢true}
use mathlib.Core.Logic.{◌⊎◌, inl, inr}
use native.Mathlib.Omega.{arith}
use lib.Dec.{T, eqb, ltb}
use borrow.Author.Tests.{eq-eqb, eqb-true, eqb-false, ltb-true, ltb-false}
use Rattle.lists.specs.Lists.{bit}

-- ---- cases

pub by-test {ℓ} : {C : Type ℓ} (t : Bool) → (t ≡ true → C) → (t ≡ false → C) → C
by-test true f g = f refl
by-test false f g = g refl

pub by-eq {ℓ} : {C : Type ℓ} (a b : ℕ) → (a ≡ b → C) → ((a ≡ b → ⊥) → C) → C
by-eq {C} a b f g = by-test (eqb a b) (λ e. f (eqb-true a b e)) (λ e. g (eqb-false a b e))

pub by-lt {ℓ} : {C : Type ℓ} (a b : ℕ) → (a < b → C) → (b ≤ a → C) → C
by-lt {C} a b f g = by-test (ltb a b) (λ e. f (ltb-true a b e)) (λ e. g (ltb-false a b e))

pub bool_same : (a b : Bool) → (a ≡ true → b ≡ true) → (b ≡ true → a ≡ true) → a ≡ b
bool_same true b f g = sym (f refl)
bool_same false true f g = g refl
bool_same false false f g = refl

pub not-both {ℓ} : {C : Type ℓ} {t : Bool} → t ≡ true → t ≡ false → C
not-both {t = true} p q = absurd (false≢true (sym q))
not-both {t = false} p q = absurd (false≢true p)

pub truth : (b : Bool) → T b → b ≡ true
truth true t = refl
truth false t = absurd t

pub holds : (b : Bool) → b ≡ true → T b
holds true e = tt
holds false e = absurd (false≢true e)

-- equality is tested either way round
pub eqb_comm : (a b : ℕ) → eqb a b ≡ eqb b a
eqb_comm a b =
    bool_same (eqb a b) (eqb b a) (λ e. eq-eqb b a (sym (eqb-true a b e))) (λ e. eq-eqb a b (sym (eqb-true b a e)))

-- ---- and, or, not

pub and_left : (a b : Bool) → a && b ≡ true → a ≡ true
and_left true b e = refl
and_left false b e = absurd (false≢true e)

pub and_right : (a b : Bool) → a && b ≡ true → b ≡ true
and_right true b e = e
and_right false b e = absurd (false≢true e)

pub and_both : (a b : Bool) → a ≡ true → b ≡ true → a && b ≡ true
and_both true b p q = q
and_both false b p q = absurd (false≢true p)

pub or_left : (a b : Bool) → a ≡ true → a || b ≡ true
or_left true b e = refl
or_left false b e = absurd (false≢true e)

pub or_right : (a b : Bool) → b ≡ true → a || b ≡ true
or_right true b e = refl
or_right false b e = e

pub or-true-cases : (a b : Bool) → a || b ≡ true → (a ≡ true) ⊎ (b ≡ true)
or-true-cases true b e = inl refl
or-true-cases false b e = inr e

pub or-false-left : (a b : Bool) → a || b ≡ false → a ≡ false
or-false-left true b e = absurd (false≢true (sym e))
or-false-left false b e = refl

pub or-false-right : (a b : Bool) → a || b ≡ false → b ≡ false
or-false-right true b e = absurd (false≢true (sym e))
or-false-right false b e = e

pub or-false-both : (a b : Bool) → a ≡ false → b ≡ false → a || b ≡ false
or-false-both true b p q = p
or-false-both false b p q = q

-- ---- a choice, a truth as a number

pub cond-true {ℓ} : {A : Type ℓ} {t : Bool} (x y : A) → t ≡ true → cond t x y ≡ x
cond-true {t = true} x y e = refl
cond-true {t = false} x y e = absurd (false≢true e)

pub cond-false {ℓ} : {A : Type ℓ} {t : Bool} (x y : A) → t ≡ false → cond t x y ≡ y
cond-false {t = true} x y e = absurd (false≢true (sym e))
cond-false {t = false} x y e = refl

pub bit_le : (b : Bool) → bit b ≤ 1
bit_le true = omega arith
bit_le false = omega arith

pub eqb-bit : (b : Bool) → eqb (bit b) 1 ≡ b
eqb-bit true = refl
eqb-bit false = refl

pub bit-one : (b : Bool) → bit b ≡ 1 → b ≡ true
bit-one true e = refl
bit-one false e = absurd (omega arith)

-- a number of 0 or 1 is the truth of its being 1
pub bit-eqb : (v : ℕ) → v ≤ 1 → v ≡ bit (eqb v 1)
bit-eqb zero l = refl
bit-eqb (suc zero) l = refl
bit-eqb (suc (suc v)) l = absurd (omega arith)

-- a choice is at most what both its values are at most
pub cond-le : (t : Bool) (x y n : ℕ) → x ≤ n → y ≤ n → cond t x y ≤ n
cond-le true x y n p q = p
cond-le false x y n p q = q
