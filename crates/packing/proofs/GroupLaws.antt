-- Laws of pixels packed into words and unpacked from them eight at a time (`specs/Groups.antt`). Assumes nothing.
--   unit_of-same                     the same bits make the same number
--   pixel_bits-zero, -lt             no pixel; the number's bound
--   pixel_within, -inside, -behind   a pixel of so many, 0 behind them
--   pixel_bits-padded                pixels at the top of a unit
--   pixel_bits-word, -byte           the pixels of a row from a column on are a packed word; eight are a packed byte
--   pixels-row                       they stand in the image
--   product, grouped, scattered      what `group_bits` and `spread_bits` compute
--   each-byte                        a test that is computed for each byte
--   spread-gathered                  a byte comes back from its spread bits, and they from it
--   pixel_bytes-spread, -zero-iff    pixels of 0 and 1 are read as spread bits; as 0 exactly if each is 0
--   few-more                         one more of fewer than eight pixels
--   product_lt, grouped-gathered     the product does not wrap, and gathers the bits
--   scattered-spread                 the bits of a byte are spread
--   le_bytes-bytes                   the library's bytes of a number are its bytes
--   bytes-group                      the bytes of spread bits are bits of a word
--   appended-word_pixels, appended-group more bits of a word are written; a group more
--   word_pixels-row, bytes-row           the bits of a row's word, and the spread bits of its byte
use Prim.Native.Nat.{ℕ, zero, suc, ◌+◌, ◌-◌, ◌*◌, ◌/◌, ◌%◌, ◌^◌, ◌≤◌, ◌<◌, min}
use mathlib.Core.Logic.{◌↔◌}
use mathlib.Core.Path.{◌≡◌, refl, sym, ap, subst, ◌∙◌}
use mathlib.Core.Bool.{Bool, true, cond}
use mathlib.Core.List.{List, [], ◌∷◌, ◌++◌, foldr}
use native.Mathlib.Omega.{arith}
use native.Mathlib.Nat.{add-zero, zero-add, add_assoc, zero-mul, mul_comm, pow-suc}
use native.Mathlib.Nat.{mul-le-mul_left}
use lib.Arith.{digits_div, digits_mod}
use lib.Pow.{pow_pos, pow_mono}
use lib.Bits.{bit_and, bit_or, and_mask, mask_lt}
use lib.Dec.{eqb, ltb}
use lib.ListN.{length, get_or}
use borrow.Author.Tests.{eqb-true, ltb-true, lt-ltb, le-ltb}
use Rattle.std.specs.Int.{w64, to_le_bytes}
use Rattle.lists.specs.Lists.{range, count_from, tabulate, all, same}
use Rattle.lists.proofs.BoolLaws.{by-lt}
use Rattle.lists.proofs.ListLaws.{all-member, lt-member-range, same_true, tabulate-same, get_or-tabulate}
use Rattle.neighbours.specs.Crop.{Appended}
use Rattle.neighbours.specs.Packed.{unit_of, bit_at, row_units, packed_unit, packed_pixel, padded_pixel}
use Rattle.neighbours.proofs.AppendedLaws.{appended-append}
use Rattle.neighbours.proofs.BitLaws.{digit-shr, digit-mod}
use Rattle.neighbours.proofs.PackedLaws.{leading, leading-zero, leading-suc, leading-unit_of}
use Rattle.neighbours.proofs.PackedLaws.{unit_of-lt, bit_at-unit_of, unit_of-is, packed_pixel-is}
use Rattle.neighbours.proofs.PackedLaws.{padded_pixel-inside, padded_pixel-behind}
use Rattle.packing.specs.Rows.{PackableRow}
use Rattle.packing.specs.Groups.{Pixels, pixel_bits, pixel_bytes, spread, gathered, bytes, word_pixels}
use Rattle.packing.proofs.RowsLaws.{packable-row-le, tabulate-append}
use Rattle.packing.proofs.WordsLaws.{word_limit}

-- ---- pixels that make a number

-- the same bits make the same number
leading-same : (n : ℕ) (f g : ℕ → ℕ) → ((k : ℕ) → k < n → f k ≡ g k) → leading f n ≡ leading g n
leading-same zero f g e = leading-zero f ∙ sym (leading-zero g)
leading-same (suc n) f g e =
    let d : suc n ≡ n + 1 = omega arith in
    rw (d, leading-suc f n, leading-suc g n, leading-same n f g (λ k l. e k (omega arith)), e n (omega arith)) refl

pub unit_of-same : (n : ℕ) (f g : ℕ → ℕ) → ((k : ℕ) → k < n → f k ≡ g k) → unit_of n f ≡ unit_of n g
unit_of-same n f g e = sym (leading-unit_of n f) ∙ leading-same n f g e ∙ leading-unit_of n g

-- zeros that follow
leading_zeros : (bits : ℕ → ℕ) (n m : ℕ) → ((k : ℕ) → n ≤ k → bits k ≡ 0) →
    leading bits (n + m) ≡ leading bits n * 2 ^ m
leading_zeros bits n zero none = rw add-zero (omega arith)
leading_zeros bits n (suc m) none =
    let e : n + suc m ≡ n + m + 1 = omega arith in
    rw (e, leading-suc bits (n + m), leading_zeros bits n m none, none (n + m) (omega arith), pow-suc 2 m)
    (omega arith)

module _ (image : List ℕ) where
  -- no pixel
  pub pixel_bits-zero : (at : ℕ) → pixel_bits image at 0 ≡ 0
  unfolding pixel_bits
  pixel_bits-zero at = sym (leading-unit_of 0 _) ∙ leading-zero _

  -- one pixel more
  pixel_bits-suc : (at k : ℕ) → pixel_bits image at (k + 1) ≡ pixel_bits image at k * 2 + get_or image (at + k) 0
  unfolding pixel_bits
  pixel_bits-suc at k =
      let bits : ℕ → ℕ = λ j. get_or image (at + j) 0 in
      sym (leading-unit_of (k + 1) bits) ∙ leading-suc bits k ∙ rw (leading-unit_of k bits) refl

  -- the number's bound
  pub pixel_bits-lt : ((i : ℕ) → get_or image i 0 ≤ 1) → (at n : ℕ) → pixel_bits image at n < 2 ^ n
  unfolding pixel_bits
  pixel_bits-lt small at n = unit_of-lt n (λ k. get_or image (at + k) 0) (λ k. small (at + k))

  -- pixel k of `count` from a position on, 0 behind them
  unfoldable pub pixel_within : ℕ → ℕ → ℕ → ℕ
  pixel_within at count k = cond (ltb k count) (get_or image (at + k) 0) 0

  -- a pixel inside, and none behind
  pub pixel_within-inside : (at count k : ℕ) → k < count → pixel_within at count k ≡ get_or image (at + k) 0
  unfolding pixel_within
  pixel_within-inside at count k l = rw (lt-ltb k count l)

  pub pixel_within-behind : (at count k : ℕ) → count ≤ k → pixel_within at count k ≡ 0
  unfolding pixel_within
  pixel_within-behind at count k l = rw (le-ltb k count l)

  -- pixels at the top of a unit, zeros behind them
  pub pixel_bits-padded : (unit at n : ℕ) → n ≤ unit →
      pixel_bits image at n * 2 ^ (unit - n) ≡ unit_of unit (pixel_within at n)
  unfolding pixel_bits
  pixel_bits-padded unit at n l =
      let bits = pixel_within at n in
      let whole : n + (unit - n) ≡ unit = omega arith in
      let same = unit_of-same n (λ k. get_or image (at + k) 0) bits (λ k lk. sym (pixel_within-inside at n k lk)) in
      let padded = leading_zeros bits n (unit - n) (pixel_within-behind at n) in
      rw (same, ← (leading-unit_of n bits), ← padded, whole) (leading-unit_of unit bits)

  -- a pixel of a row, from column x on
  pixel-inside : (width x y j : ℕ) → x + j < width →
      get_or image (y * width + x + j) 0 ≡ padded_pixel width image (x + j) y
  pixel-inside width x y j l =
      rw (add_assoc (y * width) x j) (sym (padded_pixel-inside width image (x + j) y l))

  -- the pixels of a row from column x on, at the top of a word, are a packed word
  pub pixel_bits-word : (width x y n : ℕ) → x < width → n ≡ min 64 (width - x) →
      pixel_bits image (y * width + x) n * 2 ^ (64 - n) ≡ packed_unit 64 width image x y
  unfolding packed_unit
  pixel_bits-word width x y n l count =
      pixel_bits-padded 64 (y * width + x) n (omega arith)
      ∙ unit_of-same 64 _ _
      (λ j lj.
      by-lt j n
      (λ inside. pixel_within-inside (y * width + x) n j inside ∙ pixel-inside width x y j (omega arith))
      (λ behind.
      pixel_within-behind (y * width + x) n j behind
      ∙ sym (padded_pixel-behind width image (x + j) y (omega arith))))

  -- eight of them are a packed byte
  pub pixel_bits-byte : (width x y : ℕ) → x + 8 ≤ width →
      pixel_bits image (y * width + x) 8 ≡ packed_unit 8 width image x y
  unfolding pixel_bits packed_unit
  pixel_bits-byte width x y l = unit_of-same 8 _ _ (λ j lj. pixel-inside width x y j (omega arith))

-- the pixels of a row from column x on stand in the image
pub pixels-row : {width height y : ℕ} {image : List ℕ} → PackableRow width height image y → (x n : ℕ) →
    x + n ≤ width → Pixels image (y * width + x) n
pixels-row row x n l =
    record { bits = row.packable.binary.bits; whole = omega (arith, packable-row-le row) }

-- ---- eight bits: what the functions compute

-- the product of `group_bits`, and its result
abbrev pub product : ℕ → ℕ
product x = bit_or (bit_and x 0x01010101 * 2 ^ 4 % word_limit) (x / 2 ^ 32) * 0x08040201

abbrev pub grouped : ℕ → ℕ
grouped x = bit_and (product x / 2 ^ 24) 255

-- `spread_bits`
abbrev pub scattered : ℕ → ℕ
scattered byte = bit_and (bit_or (byte * 0x0040201008040201 / 2 ^ 7) (byte * 2 ^ 56 % word_limit)) 0x0101010101010101

-- ---- eight bits: tests that are computed for each byte

pub each-byte : (test : ℕ → Bool) → all test (range 256) ≡ true → (byte : ℕ) → byte < 256 →
    test byte ≡ true
each-byte test passed byte l = all-member test (range 256) passed byte (lt-member-range byte 256 l)

spread-byte : (byte : ℕ) → byte < 256 →
    tabulate 8 (λ k. spread byte / 2 ^ (8 * k) % 2) ≡ tabulate 8 (bit_at 8 byte)
unfolding all count_from spread tabulate same
spread-byte byte l =
    same_true _ _
    (each-byte (λ n. same (tabulate 8 (λ k. spread n / 2 ^ (8 * k) % 2)) (tabulate 8 (bit_at 8 n))) refl byte l)

product-byte : (byte : ℕ) → byte < 256 → product (spread byte) < word_limit
unfolding all count_from spread tabulate
product-byte byte l = ltb-true _ _ (each-byte (λ n. ltb (product (spread n)) word_limit) refl byte l)

grouped-byte : (byte : ℕ) → byte < 256 → grouped (spread byte) ≡ byte
unfolding all count_from spread tabulate
grouped-byte byte l = eqb-true _ _ (each-byte (λ n. eqb (grouped (spread n)) n) refl byte l)

pub scattered-spread : (byte : ℕ) → byte < 256 → scattered byte ≡ spread byte
unfolding all count_from spread tabulate
scattered-spread byte l = eqb-true _ _ (each-byte (λ n. eqb (scattered n) (spread n)) refl byte l)

bytes_spread : (byte : ℕ) → byte < 256 → bytes (spread byte) ≡ tabulate 8 (bit_at 8 byte)
unfolding all count_from spread bytes tabulate same
bytes_spread byte l = same_true _ _ (each-byte (λ n. same (bytes (spread n)) (tabulate 8 (bit_at 8 n))) refl byte l)

few-byte : (byte : ℕ) → byte < 256 → (k : ℕ) → k < 8 →
    bit_or (spread (byte / 2 * 2 ^ (8 - k))) (byte % 2 * 2 ^ (8 * k) % word_limit) ≡ spread (byte * 2 ^ (8 - (k + 1)))
unfolding all count_from spread tabulate
few-byte byte l k lk =
    let test : ℕ → ℕ → Bool = λ n j.
    eqb (bit_or (spread (n / 2 * 2 ^ (8 - j))) (n % 2 * 2 ^ (8 * j) % word_limit)) (spread (n * 2 ^ (8 - (j + 1)))) in
    eqb-true _ _
    (all-member (test byte) (range 8) (each-byte (λ n. all (test n) (range 8)) refl byte l) k (lt-member-range k 8 lk))

-- ---- eight bits: the laws

-- pixels of 0 and 1 are read as spread bits
pub pixel_bytes-spread : (image : List ℕ) → ((i : ℕ) → get_or image i 0 ≤ 1) → (at : ℕ) →
    pixel_bytes image at ≡ spread (pixel_bits image at 8)
unfolding pixel_bytes pixel_bits spread
pixel_bytes-spread image small at =
    let bits : ℕ → ℕ = λ k. get_or image (at + k) 0 in
    ap (foldr ◌+◌ 0)
    (tabulate-same 8 _ _
    (λ k l. ap (λ (n : ℕ). n * 2 ^ (8 * k)) (sym (bit_at-unit_of 8 bits (λ j. small (at + j)) k l))))

-- each number of a sum of 0 is 0
sum-zero : (xs : List ℕ) → foldr ◌+◌ 0 xs ≡ 0 → (k : ℕ) → get_or xs k 0 ≡ 0
sum-zero [] e k = refl
sum-zero (x ∷ xs) e zero = let sum : x + foldr ◌+◌ 0 xs ≡ 0 = e in omega arith
sum-zero (x ∷ xs) e (suc k) = sum-zero xs (let sum : x + foldr ◌+◌ 0 xs ≡ 0 = e in omega arith) k

-- eight pixels are read as 0 exactly if each is 0
pub pixel_bytes-zero-iff : (image : List ℕ) (at : ℕ) →
    (pixel_bytes image at ≡ 0) ↔ ((i : ℕ) → at ≤ i → i < at + 8 → get_or image i 0 ≡ 0)
unfolding pixel_bytes tabulate count_from
pixel_bytes-zero-iff image at =
    let read : ℕ → ℕ = λ k. get_or image (at + k) 0 * 2 ^ (8 * k) in (
      λ e i from to.
          let k = i - at in
          let here : at + k ≡ i = omega arith in
          let none = sym (get_or-tabulate 8 read k (omega arith)) ∙ sum-zero (tabulate 8 read) e k in
          let most = mul-le-mul_left (get_or image (at + k) 0) (pow_pos (8 * k)) in
          let clear : get_or image (at + k) 0 ≡ 0 = omega (arith, none, most) in
          rw here at clear,
      λ clear.
          ap (foldr ◌+◌ 0)
          (tabulate-same 8 read (λ k. 0)
          (λ k l. ap (λ (n : ℕ). n * 2 ^ (8 * k)) (clear (at + k) (omega arith) (omega arith)) ∙ zero-mul _)),
    )

-- one more of fewer than eight pixels
pub few-more : (image : List ℕ) → ((i : ℕ) → get_or image i 0 ≤ 1) → (at k x : ℕ) → k < 8 →
    x ≡ spread (pixel_bits image at k * 2 ^ (8 - k)) →
    bit_or x (get_or image (at + k) 0 * 2 ^ (8 * k) % word_limit)
    ≡ spread (pixel_bits image at (k + 1) * 2 ^ (8 - (k + 1)))
few-more image small at k x l e =
    let byte = pixel_bits image at (k + 1) in
    let next = pixel_bits-suc image at k in
    let front : byte / 2 ≡ pixel_bits image at k = omega (arith, next, small (at + k)) in
    let last : byte % 2 ≡ get_or image (at + k) 0 = omega (arith, next, small (at + k)) in
    let few : 2 ^ (k + 1) ≤ 2 ^ 8 = pow_mono {i = k + 1} {j = 8} (omega arith) in
    let below : byte < 256 = omega (arith, pixel_bits-lt image small at (k + 1), few) in
    rw e (rw (front, last) at (few-byte byte below k l))

-- a byte comes back from its spread bits
gathered-spread : (byte : ℕ) → byte < 256 → gathered (spread byte) ≡ byte
unfolding gathered
gathered-spread byte l =
    unit_of-is 8 (λ k. spread byte / 2 ^ (8 * k) % 2) byte l
    (λ k lk.
    sym (get_or-tabulate 8 (λ j. spread byte / 2 ^ (8 * j) % 2) k lk)
    ∙ ap (λ (xs : List ℕ). get_or xs k 0) (spread-byte byte l)
    ∙ get_or-tabulate 8 (bit_at 8 byte) k lk)

gathered-lt : (x : ℕ) → gathered x < 256
unfolding gathered
gathered-lt x = unit_of-lt 8 (λ k. x / 2 ^ (8 * k) % 2) (λ k. omega arith)

-- and they from it
pub spread-gathered : (x byte : ℕ) → byte < 256 → x ≡ spread byte →
    (x ≡ spread (gathered x)) × (gathered x ≡ byte)
spread-gathered x byte l e = (rw (e, gathered-spread byte l) refl, rw e (gathered-spread byte l))

-- the product does not wrap, and the bits are gathered
pub product_lt : (x : ℕ) → x ≡ spread (gathered x) → product x < word_limit
product_lt x e = subst (λ (z : ℕ). product z < word_limit) (sym e) (product-byte (gathered x) (gathered-lt x))

pub grouped-gathered : (x : ℕ) → x ≡ spread (gathered x) → grouped x ≡ gathered x
grouped-gathered x e = ap grouped e ∙ grouped-byte (gathered x) (gathered-lt x)

-- the library's bytes of a number are its bytes
pub le_bytes-bytes : (x : ℕ) → to_le_bytes w64 x ≡ bytes x
unfolding bytes tabulate count_from
le_bytes-bytes x =
    let first : x / 1 ≡ x = omega arith in
    rw first refl

-- ---- bits of a word

-- those of one of its bytes
word_pixels-group : (word from : ℕ) → from + 8 ≤ 64 →
    tabulate 8 (bit_at 8 (bit_and (word / 2 ^ (56 - from)) 255)) ≡ word_pixels word from 8
unfolding word_pixels
word_pixels-group word from room =
    tabulate-same 8 _ _
    (λ k l.
    let high = word / 2 ^ (56 - from) in
    let whole : suc k + (7 - k) ≡ 8 = omega arith in
    let place : 56 - from + (7 - k) ≡ 63 - (from + k) = omega arith in
    rw (and_mask high 8) (rw whole at (digit-mod high k (7 - k)))
    ∙ rw place at (digit-shr word (56 - from) (7 - k)))

pub bytes-group : (word from x : ℕ) → from + 8 ≤ 64 → x ≡ spread (bit_and (word / 2 ^ (56 - from)) 255) →
    bytes x ≡ word_pixels word from 8
bytes-group word from x room e =
    let n = word / 2 ^ (56 - from) in
    rw e (bytes_spread (bit_and n 255) (mask_lt n 8)) ∙ word_pixels-group word from room

-- those in front, and more of them
word_pixels-append : (word k n : ℕ) → word_pixels word 0 (k + n) ≡ word_pixels word 0 k ++ word_pixels word k n
unfolding word_pixels
word_pixels-append word k n =
    tabulate-append (λ j. bit_at 64 word (0 + j)) k n
    ∙ ap (λ (xs : List ℕ). tabulate k (λ j. bit_at 64 word (0 + j)) ++ xs)
    (tabulate-same n _ _ (λ j _. ap (bit_at 64 word) (zero-add (k + j))))

pub appended-word_pixels : {image image' image'' : List ℕ} {at end end' : ℕ} (word k n : ℕ) →
    Appended image at (word_pixels word 0 k) image' end → end ≤ length image →
    Appended image' end (word_pixels word k n) image'' end' →
    Appended image at (word_pixels word 0 (k + n)) image'' end'
appended-word_pixels word k n a room b = rw (word_pixels-append word k n) (appended-append a room b)

-- the group behind the first `k`
pub appended-group : {image image' image'' : List ℕ} {at : ℕ} (word k : ℕ) →
    Appended image at (word_pixels word 0 (8 * k)) image' (at + 8 * k) → at + 8 * k ≤ length image →
    Appended image' (at + 8 * k) (word_pixels word (8 * k) 8) image'' (at + 8 * k + 8) →
    Appended image at (word_pixels word 0 (8 * (k + 1))) image'' (at + 8 * (k + 1))
appended-group {at = at} word k a room b =
    let next : 8 * (k + 1) ≡ 8 * k + 8 = omega arith in
    let end : at + (8 * k + 8) ≡ at + 8 * k + 8 = omega arith in
    rw (next, end) (appended-word_pixels word (8 * k) 8 a room b)

-- ---- bits of a row

-- bit j of unit k of a row is its pixel
packed_pixel-unit : (unit width : ℕ) (units : List ℕ) (k y j : ℕ) → j < unit →
    packed_pixel unit width units (unit * k + j) y ≡ bit_at unit (get_or units (y * row_units unit width + k) 0) j
packed_pixel-unit unit width units k y j below =
    packed_pixel-is unit width units (unit * k + j) y
    ∙ rw (mul_comm unit k, digits_div k below, digits_mod k below) refl

-- the bits of word k
pub word_pixels-row : (width : ℕ) (words : List ℕ) (k y n : ℕ) → n ≤ 64 →
    word_pixels (get_or words (y * row_units 64 width + k) 0) 0 n
    ≡ tabulate n (λ j. packed_pixel 64 width words (64 * k + j) y)
unfolding word_pixels
word_pixels-row width words k y n l =
    tabulate-same n _ _
    (λ j lj. rw zero-add (sym (packed_pixel-unit 64 width words k y j (omega arith))))

-- the spread bits of byte k
pub bytes-row : (width : ℕ) (packed : List ℕ) (k y x : ℕ) →
    let byte = get_or packed (y * row_units 8 width + k) 0 in
    byte < 256 → x ≡ spread byte → bytes x ≡ tabulate 8 (λ j. packed_pixel 8 width packed (8 * k + j) y)
bytes-row width packed k y x l e =
    rw e (bytes_spread _ l)
    ∙ tabulate-same 8 _ _ (λ j lj. sym (packed_pixel-unit 8 width packed k y j lj))
