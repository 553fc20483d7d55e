-- Laws of numbers in decimal (`Listing`, of the crate `model`). Assumes nothing.
--   decimal_before-append   the digits stand before a text as they stand alone
--   decimal_before-suc      where k + 1 digits are enough, k + 2 give the same
--   decimal-one             a number below ten is one digit
--   decimal-snoc            the last digit stands behind those of the number without it
--   length-decimal-snoc     which are one fewer
--   length-decimal-le       there are at most 20 digits
--   length-fields-le        each field takes at most 21 bytes, with its space
use Prim.Native.Nat.{ℕ, zero, suc, ◌+◌, ◌*◌, ◌/◌, ◌%◌, ◌^◌, ◌≤◌, ◌<◌}
use mathlib.Core.Path.{◌≡◌, refl, sym, ap, ◌∙◌}
use mathlib.Core.List.{List, [], ◌∷◌, ◌++◌, flat_map}
use native.Mathlib.Nat.{pow-suc}
use native.Mathlib.Omega.{arith}
use lib.ListN.{length, length-append}
use lib.Seq.{append_snoc}
use borrow.Author.Tests.{lt-ltb, le-ltb}
use Rattle.lists.proofs.BoolLaws.{by-lt}
use Rattle.model.specs.Listing.{decimal_before, decimal}

-- ---- decimal_before

-- a number of one digit
decimal_before-one : (k n : ℕ) (text : List ℕ) → n < 10 → decimal_before (suc k) n text ≡ (48 + n) ∷ text
unfolding decimal_before
decimal_before-one k n text h = rw (lt-ltb n 10 h, decimal_before)

-- a number of more digits
decimal_before-more : (k n : ℕ) (text : List ℕ) → 10 ≤ n →
    decimal_before (suc k) n text ≡ decimal_before k (n / 10) ((48 + n % 10) ∷ text)
unfolding decimal_before
decimal_before-more k n text h = rw (le-ltb n 10 h, decimal_before)

-- the digits stand before a text as they stand alone
pub decimal_before-append : (k n : ℕ) (text : List ℕ) → decimal_before k n text ≡ decimal_before k n [] ++ text
unfolding decimal_before
decimal_before-append zero n text = refl
decimal_before-append (suc k) n text =
    let last = 48 + n % 10 in
    let before = decimal_before-append k (n / 10) in
    by-lt n 10 (λ h. rw (decimal_before-one k n text h, decimal_before-one k n [] h))
    (λ h.
    decimal_before-more k n text h
    ∙ before (last ∷ text)
    ∙ sym (append_snoc (decimal_before k (n / 10) []) last text)
    ∙ ap (λ (digits : List ℕ). digits ++ text) (sym (decimal_before-more k n [] h ∙ before (last ∷ []))))

-- where k + 1 digits are enough, k + 2 give the same; counted from one, since 0 has a digit too
pub decimal_before-suc : (k n : ℕ) (text : List ℕ) → n < 10 ^ suc k →
    decimal_before (suc (suc k)) n text ≡ decimal_before (suc k) n text
decimal_before-suc zero n text h = decimal_before-one 1 n text h ∙ sym (decimal_before-one 0 n text h)
decimal_before-suc (suc k) n text h =
    by-lt n 10 (λ one. decimal_before-one (suc (suc k)) n text one ∙ sym (decimal_before-one (suc k) n text one))
    (λ more.
    decimal_before-more (suc (suc k)) n text more
    ∙ decimal_before-suc k (n / 10) ((48 + n % 10) ∷ text) (omega (arith, pow-suc 10 (suc k)))
    ∙ sym (decimal_before-more (suc k) n text more))

-- at most k digits stand before a text
length-decimal_before-le : (k n : ℕ) (text : List ℕ) → length (decimal_before k n text) ≤ k + length text
unfolding decimal_before
length-decimal_before-le zero n text = omega arith
length-decimal_before-le (suc k) n text =
    by-lt n 10 (λ h. rw (decimal_before-one k n text h) (omega arith))
    (λ h. rw (decimal_before-more k n text h)
    (omega (arith, length-decimal_before-le k (n / 10) ((48 + n % 10) ∷ text))))

-- ---- decimal

-- a number below ten is one digit
pub decimal-one : (n : ℕ) → n < 10 → decimal n ≡ (48 + n) ∷ []
unfolding decimal
decimal-one n h = decimal_before-one 19 n [] h

-- the last digit stands behind those of the number without it
pub decimal-snoc : (n : ℕ) → 10 ≤ n → n < 10 ^ 20 → decimal n ≡ decimal (n / 10) ++ (48 + n % 10) ∷ []
unfolding decimal
decimal-snoc n h most =
    let last = (48 + n % 10) ∷ [] in
    decimal_before-more 19 n [] h ∙ sym (decimal_before-suc 18 (n / 10) last (omega arith))
    ∙ decimal_before-append 20 (n / 10) last

pub length-decimal-snoc : (n : ℕ) → 10 ≤ n → n < 10 ^ 20 → length (decimal n) ≡ length (decimal (n / 10)) + 1
length-decimal-snoc n h most = ap length (decimal-snoc n h most) ∙ length-append (decimal (n / 10)) ((48 + n % 10) ∷ [])

pub length-decimal-le : (n : ℕ) → length (decimal n) ≤ 20
unfolding decimal
length-decimal-le n = length-decimal_before-le 20 n []

-- ---- fields, each behind a space

pub length-fields-le : (fields : List ℕ) → length (flat_map (λ n. 32 ∷ decimal n) fields) ≤ 21 * length fields
unfolding flat_map
length-fields-le [] = omega arith
length-fields-le (n ∷ fields) =
    let rest = length-fields-le fields in
    let first = length-decimal-le n in
    omega (arith, length-append (decimal n) (flat_map (λ n. 32 ∷ decimal n) fields))
