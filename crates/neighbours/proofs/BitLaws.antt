-- Laws of the binary digits of numbers, the lowest first, and of the bits of units (`specs/Packed.antt`).
--   digit                                   a number's digit
--   digit_and, digit_or, digit-xor          the digits of what an operation makes
--   differ-le                               whether two digits differ is a digit
--   digit-shr .. digit-shl-below            of numbers shifted
--   digit_ones, digit-ones-above            of a mask
--   mod-zero-iff                            the lowest digits are 0 where nothing is left over
--   digits_same                             numbers with the same digits are the same
--   bits-same                               units with the same bits are the same
-- Assumes nothing.
use Prim.Native.Nat.{ℕ, zero, suc, ◌+◌, ◌-◌, ◌*◌, ◌/◌, ◌%◌, ◌^◌, ◌≤◌, ◌<◌, min, max}
use mathlib.Core.Path.{◌≡◌, refl, sym, ◌∙◌}
use mathlib.Core.Logic.{◌↔◌}
use native.Mathlib.Omega.{arith}
use native.Mathlib.Nat.{pow-suc, div-eq_of_lt, mul-mod_left}
use lib.Pow.{pow_pos, pow_mono, pow-add, shl-shr, shr-shr, high, field, mod-pow-add, mod-mod-pow, ones_split, ones_lt}
use lib.Bits.{bit_and, bit_or, bit_xor, differ, and_step, or_step, xor_step, and_shr, or_shr, xor_shr}
use Rattle.neighbours.specs.Packed.{bit_at}

-- digit k of a number, the lowest first
abbrev pub digit : ℕ → ℕ → ℕ
digit n k = n / 2 ^ k % 2

-- ---- one operation

pub digit_and : (a b k : ℕ) → digit (bit_and a b) k ≡ min (digit a k) (digit b k)
digit_and a b k = rw (and_shr a b k) (omega (arith, and_step (a / 2 ^ k) (b / 2 ^ k)))

pub digit_or : (a b k : ℕ) → digit (bit_or a b) k ≡ max (digit a k) (digit b k)
digit_or a b k = rw (or_shr a b k) (omega (arith, or_step (a / 2 ^ k) (b / 2 ^ k)))

pub differ-le : (x y : ℕ) → x ≤ 1 → y ≤ 1 → differ x y ≤ 1
differ-le zero y p q = q
differ-le (suc zero) zero p q = p
differ-le (suc zero) (suc zero) p q = omega arith
differ-le (suc zero) (suc (suc y)) p q = absurd (omega arith)
differ-le (suc (suc x)) y p q = absurd (omega arith)

pub digit-xor : (a b k : ℕ) → digit (bit_xor a b) k ≡ differ (digit a k) (digit b k)
digit-xor a b k =
    rw (xor_shr a b k)
    (omega (arith, xor_step (a / 2 ^ k) (b / 2 ^ k), differ-le (digit a k) (digit b k) (omega arith) (omega arith)))

-- ---- shifts

-- the digits of a number above its length are 0
pub digit-above : (n j k : ℕ) → n < 2 ^ j → j ≤ k → digit n k ≡ 0
digit-above n j k l h =
    let p = pow_mono {i = j} {j = k} h in
    let m : n < 2 ^ k = omega arith in
    rw (div-eq_of_lt m) refl

pub digit-shr : (n j k : ℕ) → digit (n / 2 ^ j) k ≡ digit n (j + k)
digit-shr n j k = rw (shr-shr n j k)

-- the digits of half a number
pub digit-half : (n k : ℕ) → digit (n / 2) k ≡ digit n (suc k)
digit-half n k = let e : 1 + k ≡ suc k = omega arith in rw e at (digit-shr n 1 k)

-- the digits of a remainder below its length are the number's
pub digit-mod : (n j k : ℕ) → digit (n % 2 ^ (suc j + k)) k ≡ digit n k
digit-mod n j k =
    rw (field n (suc j) k) (let e : suc j ≡ j + 1 = omega arith in rw e (mod-mod-pow (n / 2 ^ k) j 1))

-- a number shifted up has its digits above, and none below
pub digit-shl : (n j k : ℕ) → digit (n * 2 ^ j) (k + j) ≡ digit n k
digit-shl n j k = let e : k + j ≡ j + k = omega arith in rw (e, ← (shr-shr (n * 2 ^ j) j k), shl-shr n j)

pub digit-shl-below : (n j k : ℕ) → digit (n * 2 ^ (suc j + k)) k ≡ 0
digit-shl-below n j k =
    let e : n * 2 ^ (suc j + k) ≡ (n * 2 ^ j * 2) * 2 ^ k = rw (pow-add 2 (suc j) k, pow-suc 2 j) (omega arith) in
    rw (e, shl-shr (n * 2 ^ j * 2) k) (mul-mod_left (n * 2 ^ j) 2)

-- ---- masks

-- the lowest j digits of a mask are 1, the others 0
pub digit_ones : (j k : ℕ) → k < j → digit (2 ^ j - 1) k ≡ 1
digit_ones j k l =
    let e : (j - k) + k ≡ j = omega arith in
    let d : suc (j - k - 1) ≡ j - k = omega arith in
    let odd : (2 ^ (j - k) - 1) % 2 ≡ 1 = rw (← d, pow-suc 2 (j - k - 1)) (omega (arith, pow_pos (j - k - 1))) in
    rw (← e, ones_split (j - k) k, high (2 ^ (j - k) - 1) k (ones_lt k)) odd

pub digit-ones-above : (j k : ℕ) → j ≤ k → digit (2 ^ j - 1) k ≡ 0
digit-ones-above j k h = digit-above (2 ^ j - 1) j k (ones_lt j) h

-- ---- the lowest digits

-- the lowest j digits are 0
low-zero : (n j : ℕ) → ((k : ℕ) → k < j → digit n k ≡ 0) → n % 2 ^ j ≡ 0
low-zero n zero h = omega arith
low-zero n (suc j) h =
    let e : 1 + j ≡ suc j = omega arith in
    let above : digit n j ≡ 0 = h j (omega arith) in
    let below : n % 2 ^ j ≡ 0 = low-zero n j (λ k l. h k (omega arith)) in
    rw e at (mod-pow-add n 1 j) ∙ rw (above, below) (omega arith)

-- exactly if dividing by their power leaves nothing
pub mod-zero-iff : (n j : ℕ) → (n % 2 ^ j ≡ 0) ↔ ((k : ℕ) → k < j → digit n k ≡ 0)
mod-zero-iff n j = (
  λ e k l.
      let d : suc (j - suc k) + k ≡ j = omega arith in
      sym (rw d at (digit-mod n (j - suc k) k)) ∙ rw e (digit-above 0 0 k (omega arith) (omega arith)),
  low-zero n j,
)

-- ---- numbers with the same digits

pub digits_same : (n a b : ℕ) → a < 2 ^ n → b < 2 ^ n → ((k : ℕ) → k < n → digit a k ≡ digit b k) →
    a ≡ b
digits_same zero a b la lb h = omega arith
digits_same (suc n) a b la lb h =
    let p = pow-suc 2 n in
    let above = digits_same n (a / 2) (b / 2) (omega arith) (omega arith)
    (λ k l. digit-half a k ∙ h (suc k) (omega arith) ∙ sym (digit-half b k)) in
    omega (arith, above, h 0 (omega arith))

-- units with the same bits are the same
pub bits-same : (unit a b : ℕ) → a < 2 ^ unit → b < 2 ^ unit →
    ((k : ℕ) → k < unit → bit_at unit a k ≡ bit_at unit b k) → a ≡ b
bits-same unit a b la lb h =
    digits_same unit a b la lb
    (λ k l. let e : unit - 1 - (unit - 1 - k) ≡ k = omega arith in rw e at (h (unit - 1 - k) (omega arith)))
