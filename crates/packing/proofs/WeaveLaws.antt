-- Laws of words of 64 pixels that are packed and unpacked by weaving (`specs/Groups.antt`). Assumes nothing.
--   swapped, swaps            what one swap of `flip` computes, and the three
--   flip_is                   the swaps flip a number: each digit comes from one place, which is computed
--   flipped-twice             flipping twice gives the bits of a word back
--   Woven, woven-last         groups of pixels woven into a number; the pixels behind the last whole group
--   group-pixels              what is read for a group
--   woven-double, -more       one more is woven in: neither sum wraps, and no two bits meet
--   flipped-woven             all groups, flipped, are the pixels as a word
--   appended-woven            one word more is woven, among those that are flipped then
--   bytes-woven               the lowest bits of the bytes of a woven number are a group of pixels
use Prim.Native.Nat.{ℕ, zero, suc, ◌+◌, ◌-◌, ◌*◌, ◌/◌, ◌%◌, ◌^◌, ◌≤◌, ◌<◌, min}
use mathlib.Core.Path.{◌≡◌, refl, sym, ap, ◌∙◌}
use mathlib.Core.Bool.{Bool, true, cond, ◌&&◌}
use mathlib.Core.List.{List, map}
use native.Mathlib.Omega.{arith}
use native.Mathlib.Nat.{add_assoc}
use lib.Pow.{shr_le}
use lib.Bits.{bit_and, bit_or, bit_xor, differ, and_mask, and_mod, and_shr, and_le_l, and_le_r, or_lt, or_disjoint}
use lib.Bits.{xor_lt}
use lib.Dec.{eqb, ltb}
use lib.ListN.{length, get_or, set, length-map}
use Rattle.std.proofs.lemmas.List.{map-set}
use borrow.Author.Tests.{eqb-true, ltb-true, eq-eqb, ne_eqb}
use Rattle.lists.specs.Lists.{range, count_from, tabulate, all, same}
use Rattle.lists.proofs.BoolLaws.{by-eq, by-lt, and_left, and_right}
use Rattle.lists.proofs.ListLaws.{all-member, lt-member-range, tabulate-same, same_true, get_or-tabulate}
use Rattle.neighbours.specs.Crop.{Appended}
use Rattle.neighbours.specs.Packed.{unit_of, bit_at}
use Rattle.neighbours.proofs.AppendedLaws.{appended_one, length-appended}
use Rattle.neighbours.proofs.BitLaws.{digit, digit_and, digit_or, digit-xor, differ-le, digits_same}
use Rattle.neighbours.proofs.BitLaws.{digit-above, digit-shr, digit-mod, digit-shl, digit-shl-below}
use Rattle.neighbours.proofs.PackedLaws.{unit_of-lt, bit_at-unit_of, unit_of-is}
use Rattle.packing.specs.Groups.{pixel_bits, spread, bytes, flipped, word_pixels}
use Rattle.packing.proofs.GroupLaws.{each-byte, unit_of-same, pixel_bits-padded}
use Rattle.packing.proofs.GroupLaws.{pixel_within, pixel_within-inside, pixel_within-behind}
use Rattle.packing.proofs.RowsLaws.{appended-tabulate-suc}
use Rattle.packing.proofs.WordsLaws.{word_limit}

-- ---- swaps

-- digits that differ: which one is left
differ_back : (a b : ℕ) → a ≤ 1 → b ≤ 1 → differ (differ a (differ a b)) 0 ≡ b
differ_back zero zero p q = refl
differ_back zero (suc b) p q = refl
differ_back (suc zero) zero p q = refl
differ_back (suc zero) (suc zero) p q = refl
differ_back (suc zero) (suc (suc b)) p q = absurd (omega arith)
differ_back (suc (suc a)) b p q = absurd (omega arith)

differ-over : (a c : ℕ) → a ≤ 1 → c ≤ 1 → differ (differ a 0) (differ c a) ≡ c
differ-over zero zero p q = refl
differ-over zero (suc c) p q = refl
differ-over (suc zero) zero p q = refl
differ-over (suc zero) (suc zero) p q = refl
differ-over (suc zero) (suc (suc c)) p q = absurd (omega arith)
differ-over (suc (suc a)) c p q = absurd (omega arith)

differ-none : (a : ℕ) → differ (differ a 0) 0 ≡ a
differ-none zero = refl
differ-none (suc a) = refl

-- the digits of a number shifted up
shifted-low : (n s i : ℕ) → i < s → digit (n * 2 ^ s) i ≡ 0
shifted-low n s i l =
    let e : suc (s - suc i) + i ≡ s = omega arith in
    rw e at (digit-shl-below n (s - suc i) i)

shifted-high : (n s i : ℕ) → s ≤ i → digit (n * 2 ^ s) i ≡ digit n (i - s)
shifted-high n s i l =
    let e : i - s + s ≡ i = omega arith in
    rw e at (digit-shl n s (i - s))

shifted-word : (n i : ℕ) → i < 64 → digit (n % word_limit) i ≡ digit n i
shifted-word n i l =
    let e : suc (63 - i) + i ≡ 64 = omega arith in
    rw e at (digit-mod n (63 - i) i)

-- a swap of the digits under a mask with those so many places above them
module _ (mask places : ℕ) where
  abbrev differing : ℕ → ℕ
  differing x = bit_and (bit_xor x (x / 2 ^ places)) mask

  abbrev pub swapped : ℕ → ℕ
  swapped x = bit_xor (bit_xor x (differing x)) (differing x * 2 ^ places % word_limit)

  -- where a digit comes from
  unfoldable source : ℕ → ℕ
  source i =
      cond (eqb (digit mask i) 1) (places + i) (cond (eqb (digit (mask * 2 ^ places) i) 1) (i - places) i)

  -- the mask and the mask shifted are disjoint, and every digit comes from inside a word
  unfoldable apart : Bool
  apart = all (λ i. eqb (min (digit mask i) (digit (mask * 2 ^ places) i)) 0 && ltb (source i) 64) (range 64)

  digit-differing : (x i : ℕ) →
      digit (differing x) i ≡ min (differ (digit x i) (digit x (places + i))) (digit mask i)
  digit-differing x i =
      digit_and (bit_xor x (x / 2 ^ places)) mask i
      ∙ rw (digit-xor x (x / 2 ^ places) i, digit-shr x places i) refl

  digit-shifted : (x i : ℕ) → i < 64 →
      digit (differing x * 2 ^ places % word_limit) i
      ≡ min (differ (digit x (i - places)) (digit x i)) (digit (mask * 2 ^ places) i)
  digit-shifted x i l =
      shifted-word (differing x * 2 ^ places) i l
      ∙ by-lt i places
      (λ low. rw (shifted-low (differing x) places i low, shifted-low mask places i low) (omega arith))
      (λ high.
      let e : places + (i - places) ≡ i = omega arith in
      rw (shifted-high (differing x) places i high, shifted-high mask places i high)
      (rw e at (digit-differing x (i - places))))

  module _ (passed : apart ≡ true) (i : ℕ) (l : i < 64) where
    checked : eqb (min (digit mask i) (digit (mask * 2 ^ places) i)) 0 && ltb (source i) 64 ≡ true
    unfolding apart
    checked =
        all-member (λ j. eqb (min (digit mask j) (digit (mask * 2 ^ places) j)) 0 && ltb (source j) 64) (range 64)
        passed i (lt-member-range i 64 l)

    source-lt : source i < 64
    source-lt =
        ltb-true _ _ (and_right (eqb (min (digit mask i) (digit (mask * 2 ^ places) i)) 0) (ltb (source i) 64) checked)

    disjoint : min (digit mask i) (digit (mask * 2 ^ places) i) ≡ 0
    disjoint =
        eqb-true _ _ (and_left (eqb (min (digit mask i) (digit (mask * 2 ^ places) i)) 0) (ltb (source i) 64) checked)

    digit-swapped : (x : ℕ) → digit (swapped x) i ≡ digit x (source i)
    unfolding source
    digit-swapped x =
        let a = digit x i in
        let b = digit x (places + i) in
        let c = digit x (i - places) in
        let low = digit mask i in
        let high = digit (mask * 2 ^ places) i in
        let whole : digit (swapped x) i ≡ differ (differ a (min (differ a b) low)) (min (differ c a) high) =
        digit-xor (bit_xor x (differing x)) (differing x * 2 ^ places % word_limit) i
        ∙ rw (digit-xor x (differing x) i, digit-differing x i, digit-shifted x i l) refl in
        let ab = differ-le a b (omega arith) (omega arith) in
        let ca = differ-le c a (omega arith) (omega arith) in
        whole
        ∙ by-eq low 1
        (λ one.
        let first : min (differ a b) low ≡ differ a b = omega arith in
        let second : min (differ c a) high ≡ 0 = omega (arith, disjoint) in
        rw (first, second, eq-eqb low 1 one) (differ_back a b (omega arith) (omega arith)))
        (λ none.
        let first : min (differ a b) low ≡ 0 = omega arith in
        rw (first, ne_eqb low 1 none)
        (by-eq high 1
        (λ one.
        let second : min (differ c a) high ≡ differ c a = omega arith in
        rw (second, eq-eqb high 1 one) (differ-over a c (omega arith) (omega arith)))
        (λ neither.
        let second : min (differ c a) high ≡ 0 = omega arith in
        rw (second, ne_eqb high 1 neither) (differ-none a))))

swapped-lt : (mask places x : ℕ) → x < word_limit → swapped mask places x < word_limit
swapped-lt mask places x l =
    let both : bit_xor x (x / 2 ^ places) < 2 ^ 64 = xor_lt 64 x (x / 2 ^ places) l (omega (arith, shr_le x places)) in
    let kept : differing mask places x < 2 ^ 64 =
    omega (arith, both, and_le_l (bit_xor x (x / 2 ^ places)) mask) in
    xor_lt 64 (bit_xor x (differing mask places x)) (differing mask places x * 2 ^ places % word_limit)
    (xor_lt 64 x (differing mask places x) l kept) (omega arith)

-- ---- the flip

-- the place of pixel k in a number in which pixels are woven, the lowest first
abbrev place_of : ℕ → ℕ
place_of k = 8 * (k % 8) + k / 8

-- the masks of the three swaps
abbrev mask_a : ℕ
mask_a = 0x0055005500550055

abbrev mask_b : ℕ
mask_b = 0x0000333300003333

abbrev mask_c : ℕ
mask_c = 0x000000000f0f0f0f

-- what `flip` computes
abbrev pub swaps : ℕ → ℕ
swaps x = swapped mask_c 36 (swapped mask_b 18 (swapped mask_a 9 x))

apart_a : apart mask_a 9 ≡ true
unfolding apart source all count_from
apart_a = refl

apart_b : apart mask_b 18 ≡ true
unfolding apart source all count_from
apart_b = refl

apart_c : apart mask_c 36 ≡ true
unfolding apart source all count_from
apart_c = refl

each-place : (test : ℕ → Bool) → all test (range 64) ≡ true → (k : ℕ) → k < 64 → test k ≡ true
each-place test passed k l = all-member test (range 64) passed k (lt-member-range k 64 l)

-- where bit k comes from, by the three
sources : (k : ℕ) → k < 64 → source mask_a 9 (source mask_b 18 (source mask_c 36 (63 - k))) ≡ place_of k
unfolding source all count_from
sources k l =
    eqb-true _ _
    (each-place (λ j. eqb (source mask_a 9 (source mask_b 18 (source mask_c 36 (63 - j)))) (place_of j)) refl k l)

pub flip_is : (x : ℕ) → x < word_limit → swaps x ≡ flipped x
unfolding flipped
flip_is x l =
    let y = swapped mask_a 9 x in
    let z = swapped mask_b 18 y in
    sym
    (unit_of-is 64 (λ k. digit x (place_of k)) (swaps x)
    (swapped-lt mask_c 36 z (swapped-lt mask_b 18 y (swapped-lt mask_a 9 x l)))
    (λ k lk.
    let i = source mask_c 36 (63 - k) in
    let li : i < 64 = source-lt mask_c 36 apart_c (63 - k) (omega arith) in
    let j = source mask_b 18 i in
    let lj : j < 64 = source-lt mask_b 18 apart_b i li in
    sym
    (digit-swapped mask_c 36 apart_c (63 - k) (omega arith) z
    ∙ digit-swapped mask_b 18 apart_b i li y
    ∙ digit-swapped mask_a 9 apart_a j lj x
    ∙ ap (digit x) (sources k lk))))

-- a bit of a flipped number
bit_at-flipped : (x k : ℕ) → k < 64 → bit_at 64 (flipped x) k ≡ digit x (place_of k)
unfolding flipped
bit_at-flipped x k l = bit_at-unit_of 64 (λ j. digit x (place_of j)) (λ j. omega arith) k l

-- flipping twice gives the bits of a word back
place_of-twice : (k : ℕ) → k < 64 → place_of (63 - place_of k) ≡ 63 - k
unfolding all count_from
place_of-twice k l = eqb-true _ _ (each-place (λ j. eqb (place_of (63 - place_of j)) (63 - j)) refl k l)

pub flipped-twice : (word x n : ℕ) → n ≤ 64 → x ≡ flipped word →
    word_pixels (flipped x) 0 n ≡ word_pixels word 0 n
unfolding word_pixels
flipped-twice word x n few e =
    rw e
    (tabulate-same n _ _
    (λ k l.
    let q = 63 - place_of k in
    let first : 0 + k ≡ k = omega arith in
    let back : 63 - q ≡ place_of k = omega arith in
    rw first
    (bit_at-flipped (flipped word) k (omega arith)
    ∙ rw back at (bit_at-flipped word q (omega arith))
    ∙ ap (digit word) (place_of-twice k (omega arith)))))

-- ---- pixels woven

-- the pixel that is bit i, from the lowest, of a number into which the groups from group g on are woven
abbrev pixel_at : ℕ → ℕ → ℕ
pixel_at g i = 8 * (i % 8 + g) + i / 8

-- such a number, of the first `count` pixels
pub record Woven (image : List ℕ) (at count g word : ℕ) : Type 0 where
  pub fits : word < word_limit
  pub bits : (i : ℕ) → i < 64 → digit word i ≡ pixel_within image at count (pixel_at g i)

-- the pixels of group g, zeros behind the first `count`
abbrev group_of : List ℕ → ℕ → ℕ → ℕ → ℕ
group_of image at count g = unit_of 8 (λ k. pixel_within image at count (8 * g + k))

-- a bit of eight spread bits: one only in the lowest place of a byte
digit-spread : (byte : ℕ) → byte < 256 → (i : ℕ) → i < 64 →
    digit (spread byte) i ≡ cond (eqb (i % 8) 0) (bit_at 8 byte (i / 8)) 0
unfolding all count_from spread tabulate same
digit-spread byte l i li =
    let bits : tabulate 64 (digit (spread byte)) ≡ tabulate 64 (λ j. cond (eqb (j % 8) 0) (bit_at 8 byte (j / 8)) 0) =
    same_true _ _
    (each-byte
    (λ n. same (tabulate 64 (digit (spread n))) (tabulate 64 (λ j. cond (eqb (j % 8) 0) (bit_at 8 n (j / 8)) 0)))
    refl byte l) in
    sym (get_or-tabulate 64 (digit (spread byte)) i li)
    ∙ ap (λ (xs : List ℕ). get_or xs i 0) bits
    ∙ get_or-tabulate 64 (λ j. cond (eqb (j % 8) 0) (bit_at 8 byte (j / 8)) 0) i li

-- the pixels that are read for a group
pub group-pixels : (image : List ℕ) (at count g n : ℕ) → n ≡ min 8 (count - 8 * g) →
    pixel_bits image (at + 8 * g) n * 2 ^ (8 - n) ≡ group_of image at count g
group-pixels image at count g n e =
    pixel_bits-padded image 8 (at + 8 * g) n (omega arith)
    ∙ unit_of-same 8 _ _
    (λ k l.
    by-lt k n
    (λ inside.
    pixel_within-inside image (at + 8 * g) n k inside
    ∙ rw (add_assoc at (8 * g) k) (sym (pixel_within-inside image at count (8 * g + k) (omega arith))))
    (λ behind.
    pixel_within-behind image (at + 8 * g) n k behind
    ∙ sym (pixel_within-behind image at count (8 * g + k) (omega arith))))

-- no group
woven-none : (image : List ℕ) (at count g : ℕ) → count ≤ 8 * g → Woven image at count g 0
woven-none image at count g l =
    record {
      fits = omega arith;
      bits = λ i li.
          digit-above 0 0 i (omega arith) (omega arith)
          ∙ sym (pixel_within-behind image at count (pixel_at g i) (omega arith));
    }

module _ (image : List ℕ) (small : (i : ℕ) → get_or image i 0 ≤ 1) (at count g word : ℕ) (few : count ≤ 64)
    (woven : Woven image at count (g + 1) word) where
  -- the top bit is clear, so that doubling does not wrap
  pub woven-double : word + word < word_limit
  woven-double =
      let clear : digit word 63 ≡ 0 =
      woven.bits 63 (omega arith) ∙ pixel_within-behind image at count (pixel_at (g + 1) 63) (omega arith) in
      omega (arith, woven.fits)

  -- a doubled number has no bit in the lowest place of a byte, and the woven ones above it
  doubled-lowest : (i : ℕ) → i < 64 → i % 8 ≡ 0 → digit (word * 2) i ≡ 0
  doubled-lowest zero li e = digit-shl-below word 0 0
  doubled-lowest (suc i) li e =
      let d : i + 1 ≡ suc i = omega arith in
      rw d at (digit-shl word 1 i)
      ∙ woven.bits i (omega arith)
      ∙ pixel_within-behind image at count (pixel_at (g + 1) i) (omega arith)

  doubled-other : (i : ℕ) → i < 64 → (i % 8 ≡ 0 → ⊥) →
      digit (word * 2) i ≡ pixel_within image at count (pixel_at g i)
  doubled-other zero li e = absurd (e refl)
  doubled-other (suc i) li e =
      let d : i + 1 ≡ suc i = omega arith in
      let same : pixel_at (g + 1) i ≡ pixel_at g (suc i) = omega arith in
      rw d at (digit-shl word 1 i) ∙ woven.bits i (omega arith) ∙ ap (pixel_within image at count) same

  module _ (x : ℕ) (read : x ≡ spread (group_of image at count g)) (below : x < word_limit) where
    within-le : (k : ℕ) → pixel_within image at count k ≤ 1
    within-le k =
        by-lt k count (λ l. rw (pixel_within-inside image at count k l) (small (at + k)))
        (λ l. rw (pixel_within-behind image at count k l) (omega arith))

    -- a bit of the group
    group-bit : (i : ℕ) → i < 64 →
        digit x i ≡ cond (eqb (i % 8) 0) (bit_at 8 (group_of image at count g) (i / 8)) 0
    group-bit i li =
        rw read (digit-spread (group_of image at count g) (unit_of-lt 8 _ (λ k. within-le (8 * g + k))) i li)

    group-lowest : (i : ℕ) → i < 64 → i % 8 ≡ 0 → digit x i ≡ pixel_within image at count (pixel_at g i)
    group-lowest i li e =
        let here : 8 * g + i / 8 ≡ pixel_at g i = omega arith in
        group-bit i li
        ∙ rw (eq-eqb (i % 8) 0 e)
        (bit_at-unit_of 8 _ (λ k. within-le (8 * g + k)) (i / 8) (omega arith)
        ∙ ap (pixel_within image at count) here)

    group-other : (i : ℕ) → i < 64 → (i % 8 ≡ 0 → ⊥) → digit x i ≡ 0
    group-other i li e = group-bit i li ∙ rw (ne_eqb (i % 8) 0 e) refl

    -- no two bits meet
    sum-or : word + word + x ≡ bit_or (word * 2) x
    sum-or =
        let twice : word + word ≡ word * 2 = omega arith in
        let apart : bit_and (word * 2) x ≡ 0 =
        digits_same 64 (bit_and (word * 2) x) 0 (omega (arith, and_le_r (word * 2) x)) (omega arith)
        (λ i li.
        digit_and (word * 2) x i
        ∙ by-eq (i % 8) 0
        (λ e. rw (doubled-lowest i li e, digit-above 0 0 i (omega arith) (omega arith)) (omega arith))
        (λ e. rw (group-other i li e, digit-above 0 0 i (omega arith) (omega arith)) (omega arith))) in
        rw twice (sym (or_disjoint (word * 2) x apart))

    woven-sum : word + word + x < word_limit
    woven-sum = rw sum-or (or_lt 64 (word * 2) x (omega (arith, woven-double)) below)

    -- the group is woven in
    pub woven-more : Woven image at count g (word + word + x)
    woven-more =
        record {
          fits = woven-sum;
          bits = λ i li.
              rw sum-or
              (digit_or (word * 2) x i
              ∙ by-eq (i % 8) 0 (λ e. rw (doubled-lowest i li e, group-lowest i li e) (omega arith))
              (λ e. rw (group-other i li e, doubled-other i li e) (omega arith)));
        }

-- the pixels behind the last whole group
pub woven-last : (image : List ℕ) → ((i : ℕ) → get_or image i 0 ≤ 1) → (at count x : ℕ) → count ≤ 64 →
    x ≡ spread (pixel_bits image (at + 8 * (count / 8)) (count % 8) * 2 ^ (8 - count % 8)) → x < word_limit →
    Woven image at count (count / 8) x
woven-last image small at count x few read below =
    let g = count / 8 in
    let none = woven-none image at count (g + 1) (omega arith) in
    let e : 0 + 0 + x ≡ x = omega arith in
    let group = read ∙ ap spread (group-pixels image at count g (count % 8) (omega arith)) in
    rw e at (woven-more image small at count g 0 few none x group below)

-- all groups
pub flipped-woven : (image : List ℕ) (at count word : ℕ) → count ≤ 64 → Woven image at count 0 word →
    flipped word ≡ pixel_bits image at count * 2 ^ (64 - count)
unfolding flipped
flipped-woven image at count word few woven =
    unit_of-same 64 _ _
    (λ k l.
    let p = place_of k in
    let here : pixel_at 0 p ≡ k = omega arith in
    woven.bits p (omega arith) ∙ ap (pixel_within image at count) here)
    ∙ sym (pixel_bits-padded image 64 at count few)

-- ---- words woven

-- one more of them is woven
pub appended-woven : (words words' : List ℕ) {first : ℕ} (f : ℕ → ℕ) (k at word : ℕ) →
    Appended (map flipped words) first (tabulate k f) (map flipped words') (first + k) → first + k < length words →
    at ≡ first + k → flipped word ≡ f k →
    Appended (map flipped words) first (tabulate (k + 1) f) (map flipped (set words' at word)) (first + (k + 1))
appended-woven words words' {first} f k at word a inside place unit =
    let front : first + k ≤ length (map flipped words) = omega (arith, length-map words flipped) in
    let next : first + (k + 1) ≡ first + k + 1 = omega arith in
    rw (next, place, map-set flipped words', unit)
    (appended-tabulate-suc f k a front
    (appended_one (map flipped words') (first + k) (f k)
    (omega (arith, length-map words flipped, length-appended a front))))

-- ---- pixels written

-- the mask has the lowest bit of each byte
lowest-bits : (j : ℕ) → j < 8 → 0x0101010101010101 / 2 ^ (8 * j) % 256 ≡ 1
unfolding all count_from
lowest-bits j l =
    eqb-true _ _
    (all-member (λ k. eqb (0x0101010101010101 / 2 ^ (8 * k) % 256) 1) (range 8) refl j (lt-member-range j 8 l))

-- the lowest bits of the bytes, after a shift, are those of a group
pub bytes-woven : (word g : ℕ) → g < 8 →
    bytes (bit_and (word / 2 ^ g) 0x0101010101010101) ≡ word_pixels (flipped word) (8 * g) 8
unfolding bytes word_pixels
bytes-woven word g l =
    tabulate-same 8 _ _
    (λ j lj.
    let high = word / 2 ^ g / 2 ^ (8 * j) in
    let place : place_of (8 * g + j) ≡ g + 8 * j = omega arith in
    let masked : bit_and (word / 2 ^ g) 0x0101010101010101 / 2 ^ (8 * j) % 256 ≡ high % 2 =
    rw (and_shr (word / 2 ^ g) 0x0101010101010101 (8 * j))
    (and_mod high (0x0101010101010101 / 2 ^ (8 * j)) 8
    ∙ rw (lowest-bits j lj, and_mask (high % 256) 1) (omega arith)) in
    masked
    ∙ digit-shr word g (8 * j)
    ∙ sym (bit_at-flipped word (8 * g + j) (omega arith) ∙ ap (digit word) place))
