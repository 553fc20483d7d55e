-- Laws of sets of rows (`specs/RowSet.antt`). Assumes nothing.
--   row_bit-is, row_bit-word            a row's bit in its word
--   row_bit-le, row_bit-full            it is 0 or 1; all rows are in the full set
--   bit-one-shifted, -three-            the word with one bit set, and with three
--   rows_added-one, -three              one row is added; three rows of one word are
--   bit-last                            the last one of a word, and no bit behind it
--   bits-to-is                          the word with the bits set up to a bit
--   and-full, not-is                    all bits of a word are kept; its other bits
--   Before                              the rows of the set up to a row are in one word or before it
--   before-first, -next, -none, -last   the first word, the word before, none, and the last row
use Prim.Native.Nat.{ℕ, zero, suc, ◌+◌, ◌-◌, ◌*◌, ◌/◌, ◌%◌, ◌^◌, ◌≤◌, ◌<◌, max}
use mathlib.Core.Path.{◌≡◌, refl, sym, ap, ◌∙◌}
use mathlib.Core.Bool.{Bool, false, cond, ◌&&◌}
use mathlib.Core.List.{List}
use native.Mathlib.Omega.{arith}
use native.Mathlib.Nat.{pow-suc}
use lib.Bits.{bit_and, bit_or, bit_xor, and_le_l, and_mask, xor_add_and}
use lib.Count.{count_trailing_zeros}
use lib.Dec.{eqb, leb}
use lib.ListN.{length, get_or, set, length-set, replicate, get_or-replicate}
use lib.Seq.{get_or-set_same, get_or-set_other}
use borrow.Author.Tests.{le-leb, lt-leb, eq-eqb, ne_eqb}
use Rattle.lists.specs.Lists.{bit}
use Rattle.lists.proofs.BoolLaws.{by-lt, by-eq}
use Rattle.neighbours.specs.Packed.{bit_at}
use Rattle.neighbours.specs.Words.{word_bits, full_word}
use Rattle.neighbours.proofs.BitLaws.{digit, digit-half, digit-above, digit-mod, digit-shl, digit-shl-below}
use Rattle.neighbours.proofs.BitLaws.{digit_ones}
use Rattle.neighbours.proofs.WordLaws.{bit-and, bit-or, bit-le-one, flat-full, flat-zero}
use Rattle.packing.proofs.WordsLaws.{word_limit}
use Rattle.propagation.specs.RowSet.{set_words, row_bit, LastRow, RowsAdded}

-- ---- one row

pub row_bit-is : (rows : List ℕ) (n : ℕ) → row_bit rows n ≡ bit_at word_bits (get_or rows (n / 64) 0) (n % 64)
unfolding row_bit
row_bit-is rows n = refl

-- row 64 * j + i is bit i of word j
pub row_bit-word : (rows : List ℕ) (j i : ℕ) → i < word_bits →
    row_bit rows (64 * j + i) ≡ bit_at word_bits (get_or rows j 0) i
row_bit-word rows j i l =
    let q : (64 * j + i) / 64 ≡ j = omega arith in
    let r : (64 * j + i) % 64 ≡ i = omega arith in
    row_bit-is rows (64 * j + i) ∙ rw (q, r) refl

pub row_bit-le : (rows : List ℕ) (n : ℕ) → row_bit rows n ≤ 1
row_bit-le rows n = rw (row_bit-is rows n) (bit-le-one (get_or rows (n / 64) 0) (n % 64))

-- all rows are in the set whose words have all bits set
pub row_bit-full : (n : ℕ) → n < set_words * word_bits → row_bit (replicate set_words full_word) n ≡ 1
row_bit-full n l =
    row_bit-is (replicate set_words full_word) n
    ∙ rw (get_or-replicate set_words (n / 64) full_word 0 (omega arith)) (flat-full (n % 64) (omega arith))

-- ---- adding

-- the word with one bit set
pub bit-one-shifted : (i j : ℕ) → i < word_bits → j < word_bits →
    bit_at word_bits (2 ^ (63 - i)) j ≡ bit (eqb j i)
bit-one-shifted i j li lj =
    let one : 1 * 2 ^ (63 - i) ≡ 2 ^ (63 - i) = omega arith in
    by-eq j i
    (λ e.
    let at : 0 + (63 - i) ≡ 63 - j = omega arith in
    rw (eq-eqb j i e, ← one) (rw at at (digit-shl 1 (63 - i) 0)))
    (λ d.
    rw (ne_eqb j i d)
    (by-lt (63 - j) (63 - i)
    (λ l.
    let at : suc (63 - i - suc (63 - j)) + (63 - j) ≡ 63 - i = omega arith in
    rw (← one) (rw at at (digit-shl-below 1 (63 - i - suc (63 - j)) (63 - j))))
    (λ l.
    let at : (63 - j - (63 - i)) + (63 - i) ≡ 63 - j = omega arith in
    rw (← one)
    (rw at at (digit-shl 1 (63 - i) (63 - j - (63 - i)))
    ∙ digit-above 1 1 (63 - j - (63 - i)) (omega arith) (omega arith)))))

-- the word with three bits set
pub bit-three-shifted : (i j : ℕ) → i < 62 → j < word_bits →
    bit_at word_bits (7 * 2 ^ (61 - i) % word_limit) j ≡ bit (leb i j && leb j (i + 2))
bit-three-shifted i j li lj =
    let all : suc j + (63 - j) ≡ 64 = omega arith in
    rw all at (digit-mod (7 * 2 ^ (61 - i)) j (63 - j))
    ∙ by-lt j i
    (λ l.
    let at : (i + 2 - j) + (61 - i) ≡ 63 - j = omega arith in
    rw (lt-leb i j l)
    (rw at at (digit-shl 7 (61 - i) (i + 2 - j)) ∙ digit-above 7 3 (i + 2 - j) (omega arith) (omega arith)))
    (λ h.
    by-lt (i + 2) j
    (λ l.
    let at : suc (61 - i - suc (63 - j)) + (63 - j) ≡ 61 - i = omega arith in
    rw (le-leb i j h, lt-leb j (i + 2) l) (rw at at (digit-shl-below 7 (61 - i - suc (63 - j)) (63 - j))))
    (λ l.
    let at : (i + 2 - j) + (61 - i) ≡ 63 - j = omega arith in
    rw (le-leb i j h, le-leb j (i + 2) l)
    (rw at at (digit-shl 7 (61 - i) (i + 2 - j)) ∙ digit_ones 3 (i + 2 - j) (omega arith))))

-- rows of one word are added
rows_added-word : (rows : List ℕ) (test : ℕ → Bool) (j word : ℕ) → j < length rows →
    ((z : ℕ) → z / 64 ≡ j → bit_at word_bits word (z % 64) ≡ bit (test z)) →
    ((z : ℕ) → (z / 64 ≡ j → ⊥) → test z ≡ false) →
    RowsAdded test rows (set rows j (bit_or (get_or rows j 0) word))
rows_added-word rows test j word l same other =
    let word' = bit_or (get_or rows j 0) word in
    record {
      size = length-set rows j word';
      bits =
          λ z.
          row_bit-is (set rows j word') z
          ∙ by-eq (z / 64) j
          (λ e.
          rw (row_bit-is rows z, e, get_or-set_same rows j word' 0 l)
          (bit-or (get_or rows j 0) word (z % 64) ∙ ap (max (bit_at word_bits (get_or rows j 0) (z % 64))) (same z e)))
          (λ d.
          rw (get_or-set_other rows j (z / 64) word' 0 d, other z d, ← (row_bit-is rows z)) (omega arith));
    }

-- one row is
pub rows_added-one : (rows : List ℕ) (n : ℕ) → n / 64 < length rows →
    RowsAdded (λ z. eqb z n) rows (set rows (n / 64) (bit_or (get_or rows (n / 64) 0) (2 ^ (63 - n % 64))))
rows_added-one rows n l =
    rows_added-word rows (λ z. eqb z n) (n / 64) (2 ^ (63 - n % 64)) l
    (λ z e.
    bit-one-shifted (n % 64) (z % 64) (omega arith) (omega arith)
    ∙ by-eq z n (λ q. rw q (rw (eq-eqb (n % 64) (n % 64) refl, eq-eqb n n refl) refl))
    (λ d. rw (ne_eqb z n d, ne_eqb (z % 64) (n % 64) (λ q. d (omega (arith, e, q)))) refl))
    (λ z d. ne_eqb z n (λ q. d (ap (λ (m : ℕ). m / 64) q)))

-- three rows are, of one word
pub rows_added-three : (rows : List ℕ) (y : ℕ) → y / 64 < length rows → y % 64 < 62 →
    RowsAdded (λ z. leb y z && leb z (y + 2)) rows
    (set rows (y / 64) (bit_or (get_or rows (y / 64) 0) (7 * 2 ^ (61 - y % 64) % word_limit)))
rows_added-three rows y l r =
    rows_added-word rows (λ z. leb y z && leb z (y + 2)) (y / 64) (7 * 2 ^ (61 - y % 64) % word_limit) l
    (λ z e.
    bit-three-shifted (y % 64) (z % 64) r (omega arith)
    ∙ by-lt z y (λ b. rw (lt-leb y z b, lt-leb (y % 64) (z % 64) (omega (arith, e, b))) refl)
    (λ b.
    rw (le-leb y z b, le-leb (y % 64) (z % 64) (omega (arith, e, b)))
    (by-lt (y + 2) z
    (λ h. rw (lt-leb z (y + 2) h, lt-leb (z % 64) (y % 64 + 2) (omega (arith, e, h, r))) refl)
    (λ h. rw (le-leb z (y + 2) h, le-leb (z % 64) (y % 64 + 2) (omega (arith, e, h, r))) refl))))
    (λ z d.
    by-lt z y (λ b. rw (lt-leb y z b) refl)
    (λ b.
    by-lt (y + 2) z (λ h. rw (le-leb y z b, lt-leb z (y + 2) h) refl)
    (λ h. absurd (d (omega (arith, r, b, h))))))

-- the lowest one of a number of so many digits, and none below it
digit-lowest : (unit n : ℕ) → n < 2 ^ unit → 0 < n →
    (count_trailing_zeros unit n < unit)
    × (digit n (count_trailing_zeros unit n) ≡ 1)
    × ((k : ℕ) → k < count_trailing_zeros unit n → digit n k ≡ 0)
unfolding count_trailing_zeros
digit-lowest zero n l pos = absurd (omega arith)
digit-lowest (suc unit) n l pos =
    by-eq (n % 2) 1
    (λ odd. rw odd (omega arith, omega (arith, odd), λ k h. absurd (omega arith)))
    (λ other.
    let even : n % 2 ≡ 0 = omega arith in
    let rest = digit-lowest unit (n / 2) (omega (arith, pow-suc 2 unit)) (omega arith) in
    rw even (
      omega (arith, rest.0),
      sym (digit-half n (count_trailing_zeros unit (n / 2))) ∙ rest.1,
      below even rest.2,
    ))
  where
    below : n % 2 ≡ 0 → ((k : ℕ) → k < count_trailing_zeros unit (n / 2) → digit (n / 2) k ≡ 0) → (k : ℕ) →
        k < suc (count_trailing_zeros unit (n / 2)) → digit n k ≡ 0
    below even rest zero h = omega (arith, even)
    below even rest (suc k) h = sym (digit-half n k) ∙ rest k (omega arith)

-- the last one of a word, and no bit behind it
pub bit-last : (word : ℕ) → word < 2 ^ word_bits → 0 < word →
    (count_trailing_zeros word_bits word < word_bits)
    × (bit_at word_bits word (63 - count_trailing_zeros word_bits word) ≡ 1)
    × ((j : ℕ) → 63 - count_trailing_zeros word_bits word < j → j < word_bits → bit_at word_bits word j ≡ 0)
bit-last word l pos =
    let lowest = digit-lowest word_bits word l pos in
    let back : 63 - (63 - count_trailing_zeros word_bits word) ≡ count_trailing_zeros word_bits word = omega
    (arith, lowest.0) in
    (lowest.0, rw back lowest.1, λ j h lj. lowest.2 (63 - j) (omega (arith, lowest.0)))

-- all bits of a word are kept
pub and-full : (word : ℕ) → word < 2 ^ word_bits → bit_and word full_word ≡ word
and-full word small = let e : word % 2 ^ 64 ≡ word = omega arith in and_mask word 64 ∙ e

-- a word's other bits
pub not-is : (word : ℕ) → word < 2 ^ word_bits → full_word - word ≡ bit_xor word full_word
not-is word small = omega (arith, xor_add_and word full_word, and-full word small)

-- Of the rows up to row n, those of the set are in word j, whose bits for them are `word`, or before it
pub record Before (rows : List ℕ) (n j word : ℕ) : Type 0 where
  pub at : j ≤ n / 64
  pub small : word < 2 ^ word_bits
  pub bits : (i : ℕ) → i < word_bits →
      bit_at word_bits word i ≡ cond (leb (64 * j + i) n) (row_bit rows (64 * j + i)) 0
  pub none : (z : ℕ) → 64 * j + word_bits ≤ z → z ≤ n → row_bit rows z ≡ 0

-- the word with the bits set up to bit i
pub bits-to-is : (i j : ℕ) → i < word_bits → j < word_bits →
    bit_at word_bits (full_word * 2 ^ (63 - i) % word_limit) j ≡ bit (leb j i)
bits-to-is i j li lj =
    let all : suc j + (63 - j) ≡ 64 = omega arith in
    rw all at (digit-mod (full_word * 2 ^ (63 - i)) j (63 - j))
    ∙ by-lt i j
    (λ l.
    let at : suc (63 - i - suc (63 - j)) + (63 - j) ≡ 63 - i = omega arith in
    rw (lt-leb j i l) (rw at at (digit-shl-below full_word (63 - i - suc (63 - j)) (63 - j))))
    (λ h.
    let at : (i - j) + (63 - i) ≡ 63 - j = omega arith in
    rw (le-leb j i h) (rw at at (digit-shl full_word (63 - i) (i - j)) ∙ digit_ones 64 (i - j) (omega arith)))

-- the word of row n
pub before-first : (rows : List ℕ) (n mask : ℕ) → get_or rows (n / 64) 0 < 2 ^ word_bits →
    ((j : ℕ) → j < word_bits → bit_at word_bits mask j ≡ bit (leb j (n % 64))) →
    Before rows n (n / 64) (bit_and (get_or rows (n / 64) 0) mask)
before-first rows n mask small kept =
    record {
      at = omega arith;
      small = omega (arith, and_le_l (get_or rows (n / 64) 0) mask, small);
      bits =
          λ i l.
          let word = get_or rows (n / 64) 0 in
          bit-and word mask i
          ∙ rw (kept i l)
          (by-lt (n % 64) i
          (λ h. rw (lt-leb i (n % 64) h, lt-leb (64 * (n / 64) + i) n (omega arith)) (omega arith))
          (λ h.
          rw (le-leb i (n % 64) h, le-leb (64 * (n / 64) + i) n (omega arith), row_bit-word rows (n / 64) i l)
          (omega (arith, bit-le-one word i))));
      none = λ z l h. absurd (omega arith);
    }

module _ {rows : List ℕ} {n j word : ℕ} (b : Before rows n j word) where
  -- a row of the word
  before-bit : (z : ℕ) → 64 * j ≤ z → z < 64 * j + word_bits → z ≤ n →
      row_bit rows z ≡ bit_at word_bits word (z - 64 * j)
  before-bit z l m h =
      let at : 64 * j + (z - 64 * j) ≡ z = omega arith in
      let is = rw at at (b.bits (z - 64 * j) (omega arith)) in
      sym (rw (le-leb z n h) at is)

  -- no bit of the word is set
  before-zero : word ≡ 0 → (z : ℕ) → 64 * j ≤ z → z ≤ n → row_bit rows z ≡ 0
  before-zero e z l h =
      by-lt z (64 * j + word_bits)
      (λ m.
      let clear : bit_at word_bits word (z - 64 * j) ≡ 0 = rw e (flat-zero (z - 64 * j) (omega arith)) in
      before-bit z l m h ∙ clear)
      (λ m. b.none z m h)

  -- so they are in the word before
  pub before-next : word ≡ 0 → (j ≡ 0 → ⊥) → get_or rows (j - 1) 0 < 2 ^ word_bits →
      Before rows n (j - 1) (get_or rows (j - 1) 0)
  before-next e some small =
      record {
        at = omega (arith, b.at);
        small = small;
        bits =
            λ i l.
            rw (le-leb (64 * (j - 1) + i) n (omega (arith, b.at))) (sym (row_bit-word rows (j - 1) i l));
        none = λ z l h. before-zero e z (omega arith) h;
      }

  -- or there are none
  pub before-none : word ≡ 0 → j ≡ 0 → LastRow rows n 0
  before-none e first =
      record {
        before = omega arith;
        among = λ l. absurd (omega arith);
        none = λ z l h. before-zero e z (omega arith) h;
      }

  -- the last of them
  pub before_last : {i : ℕ} → (word ≡ 0 → ⊥) → i ≡ 63 - count_trailing_zeros word_bits word →
      LastRow rows n (64 * j + i)
  before_last {i} some e =
      let last = bit-last word b.small (omega arith) in
      let inside : i < word_bits = omega (arith, e) in
      let one : bit_at word_bits word i ≡ 1 = rw e last.1 in
      let le : 64 * j + i ≤ n =
      by-lt n (64 * j + i)
      (λ h.
      let clear : bit_at word_bits word i ≡ 0 = b.bits i inside ∙ rw (lt-leb (64 * j + i) n h) refl in
      absurd (omega (arith, one, clear)))
      (λ h. h) in
      let here : 64 * j + i - 64 * j ≡ i = omega arith in
      record {
        before = le;
        among = λ l. before-bit (64 * j + i) (omega arith) (omega arith) le ∙ rw here one;
        none =
            λ z l h.
            by-lt z (64 * j + word_bits)
            (λ m.
            before-bit z (omega arith) m h
            ∙ last.2 (z - 64 * j) (omega (arith, e)) (omega arith))
            (λ m. b.none z m h);
      }
