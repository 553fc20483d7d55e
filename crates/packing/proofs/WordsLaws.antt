-- Laws of words of 64 bits, as rows are packed into them (`src/inner/words.rt`). Assumes nothing.
--   words-most, row-words-le   an image's words are few, and those of a row end inside them
--   row_inside, row_words_lt   a row's words end inside the image's; the last of them begins inside the row
--   one_shifted                a shift of 1 inside a word
--   row_padding_set-mask       an unused bit of a row is set where its last word and the mask have one in common
--   unused-next                one row more is tested
--   appended-no_bits, -bit     no bit of a word is written as a pixel; one more
use Prim.Native.Nat.{ℕ, ◌+◌, ◌-◌, ◌*◌, ◌/◌, ◌%◌, ◌^◌, ◌≤◌, ◌<◌}
use mathlib.Core.Path.{◌≡◌, refl, sym, ◌∙◌}
use mathlib.Core.Bool.{false, ◌||◌, not}
use mathlib.Core.List.{List}
use native.Mathlib.Omega.{arith}
use native.Mathlib.Nat.{add-zero, mod-eq_of_lt, mul-le-mul}
use native.Mathlib.Numerals.{add-one}
use lib.Pow.{pow-lt}
use lib.Bits.{bit_and, bit_or, and_mask, or_add_and, and_le_l, and_le_r}
use lib.Dec.{eqb}
use lib.ListN.{length, get_or, set}
use borrow.Author.Tests.{eq-eqb, ne_eqb, eqb-false}
use Rattle.lists.specs.Lists.{range, any}
use Rattle.lists.proofs.BoolLaws.{by-eq, by-test}
use Rattle.lists.proofs.ListLaws.{any-count_from-false, false-any-count_from, range-suc, any_snoc, tabulate-zero}
use Rattle.neighbours.specs.Crop.{ValidSize, Appended}
use Rattle.neighbours.specs.Packed.{row_units, packed_length, packed_pixel, bit_at}
use Rattle.neighbours.specs.Words.{word_bits, max_row_words, max_words}
use Rattle.neighbours.proofs.AppendedLaws.{appended-none, appended_one, length-appended}
use Rattle.neighbours.proofs.BitLaws.{digit, mod-zero-iff}
use Rattle.neighbours.proofs.PackedLaws.{row_units-ge, row_units-lt, row_units-pos, packed_length-is}
use Rattle.neighbours.proofs.PackedLaws.{packed_pixel-is, packed_pixel-le}
use Rattle.packing.specs.Groups.{word_pixels}
use Rattle.packing.specs.Rows.{row_padding_set}
use Rattle.packing.proofs.RowsLaws.{row-le, appended-tabulate-suc}

-- ---- sizes

-- a crop has at most as many words as the largest
pub words-most : {width height : ℕ} → ValidSize width height → packed_length word_bits width height ≤ max_words
words-most {width} {height} valid =
    let few : row_units word_bits width ≤ max_row_words =
    omega (arith, valid.narrow, row_units-lt word_bits width (omega arith)) in
    rw (packed_length-is word_bits width height) (mul-le-mul few valid.low)

-- the words of a row end inside an image's, which are few
pub row-words-le : (width height y : ℕ) → ValidSize width height → y < height →
    (y * row_units word_bits width + row_units word_bits width ≤ packed_length word_bits width height)
    × (packed_length word_bits width height ≤ max_words)
row-words-le width height y valid l =
    (rw (packed_length-is word_bits width height) (row-le (row_units word_bits width) height y l), words-most valid)

-- a row has a word, and its words, as many as are counted, end inside the image's
pub row_inside : (width height y m : ℕ) → ValidSize width height → y < height → m ≡ row_units word_bits width →
    (1 ≤ m) × (y * m + m ≤ packed_length word_bits width height) × (packed_length word_bits width height ≤ max_words)
row_inside width height y m valid l e =
    let inside = row-words-le width height y valid l in
    rw e (row_units-pos word_bits width (omega arith) valid.wide, inside.0, inside.1)

-- the last word of a row begins inside the row
pub row_words_lt : (width : ℕ) → 64 * row_units 64 width < width + 64
row_words_lt width = row_units-lt 64 width (omega arith)

-- ---- shifts

-- words are below it
abbrev pub word_limit : ℕ
word_limit = 18446744073709551616

-- a shift of 1 inside a word
pub one_shifted : (n : ℕ) → n < 64 → 1 * 2 ^ n % word_limit ≡ 2 ^ n
one_shifted n l =
    let below : 2 ^ n < 2 ^ 64 = pow-lt {i = n} {j = 64} l in
    let e : 1 * 2 ^ n ≡ 2 ^ n = omega arith in
    rw e (mod-eq_of_lt below)

-- ---- unused bits

-- one of two words is not 0
or-nonzero : (a b : ℕ) → not (eqb (bit_or a b) 0) ≡ not (eqb a 0) || not (eqb b 0)
or-nonzero a b =
    let sum = or_add_and a b in
    let left = and_le_l a b in
    let right = and_le_r a b in
    by-eq a 0
    (λ none.
    by-eq b 0
    (λ neither. rw (eq-eqb a 0 none, eq-eqb b 0 neither, eq-eqb (bit_or a b) 0 (omega arith)) refl)
    (λ some. rw (eq-eqb a 0 none, ne_eqb b 0 some, ne_eqb (bit_or a b) 0 (λ e. some (omega arith))) refl))
    (λ some. rw (ne_eqb a 0 some, ne_eqb (bit_or a b) 0 (λ e. some (omega arith))) refl)

module _ (width : ℕ) (words : List ℕ) (y : ℕ) (wide : 1 ≤ width) where
  -- the last word of row y, and how many of its bits are unused
  abbrev last_word : ℕ
  last_word = get_or words (y * row_units 64 width + (row_units 64 width - 1)) 0

  abbrev unused_bits : ℕ
  unused_bits = 64 * row_units 64 width - width

  -- a bit behind the row's end is a digit of its last word
  packed_pixel-last : (x : ℕ) → width ≤ x → x < 64 * row_units 64 width →
      packed_pixel 64 width words x y ≡ digit last_word (64 * row_units 64 width - 1 - x)
  packed_pixel-last x l lx =
      let less = row_units-lt 64 width (omega arith) in
      let last : x / 64 ≡ row_units 64 width - 1 = omega arith in
      let place : 63 - x % 64 ≡ 64 * row_units 64 width - 1 - x = omega arith in
      packed_pixel-is 64 width words x y ∙ rw (last, place) refl

  -- an unused bit is set where the last word and the mask have a one in common
  pub row_padding_set-mask :
      row_padding_set 64 width words y ≡ not (eqb (bit_and last_word (2 ^ unused_bits - 1)) 0)
  unfolding row_padding_set
  row_padding_set-mask =
      let m = row_units 64 width in
      let held = row_units-ge 64 width (omega arith) in
      let masked = bit_and last_word (2 ^ unused_bits - 1) in
      let low = and_mask last_word unused_bits in
      let digits = mod-zero-iff last_word unused_bits in
      let clear : masked ≡ 0 → row_padding_set 64 width words y ≡ false = λ e.
      false-any-count_from _ width unused_bits
      (λ x l lx.
      let none = packed_pixel-last x l (omega arith) ∙ digits.0 (sym low ∙ e) (64 * m - 1 - x) (omega arith) in
      rw none refl) in
      let zeros : row_padding_set 64 width words y ≡ false → masked ≡ 0 = λ e.
      low
      ∙ digits.1
      (λ k l.
      let x = 64 * m - 1 - k in
      let back : 64 * m - 1 - x ≡ k = omega arith in
      let pixel = packed_pixel 64 width words x y in
      let off : eqb pixel 1 ≡ false = any-count_from-false _ width unused_bits e x (omega arith) (omega arith) in
      let none : pixel ≡ 0 = omega (arith, packed_pixel-le 64 width words x y, eqb-false pixel 1 off) in
      rw back at (sym (packed_pixel-last x (omega arith) (omega arith)) ∙ none)) in
      by-eq masked 0 (λ none. rw (eq-eqb masked 0 none) (clear none))
      (λ some.
      rw (ne_eqb masked 0 some)
      (by-test (row_padding_set 64 width words y) (λ t. t) (λ f. absurd (some (zeros f)))))

  -- one row more is tested
  pub unused-next : (set : ℕ) → not (eqb set 0) ≡ any (row_padding_set 64 width words) (range y) →
      not (eqb (bit_or set (bit_and last_word (2 ^ unused_bits - 1))) 0)
      ≡ any (row_padding_set 64 width words) (range (y + 1))
  unused-next set before =
      or-nonzero set _
      ∙ rw (before, ← row_padding_set-mask, add-one, range-suc, any_snoc) refl

-- ---- bits written as pixels

module _ {image : List ℕ} {at : ℕ} (word from : ℕ) where
  -- none
  pub appended-no_bits : Appended image at (word_pixels word from 0) image (at + 0)
  unfolding word_pixels
  appended-no_bits = rw (tabulate-zero, add-zero) (appended-none image at)

  -- one more
  pub appended-bit : {image' : List ℕ} (k : ℕ) → Appended image at (word_pixels word from k) image' (at + k) →
      at + k < length image →
      Appended image at (word_pixels word from (k + 1)) (set image' (at + k) (bit_at 64 word (from + k))) (at + (k + 1))
  unfolding word_pixels
  appended-bit {image'} k a room =
      let inside : at + k ≤ length image = omega arith in
      let next : at + (k + 1) ≡ at + k + 1 = omega arith in
      rw next
      (appended-tabulate-suc (λ j. bit_at 64 word (from + j)) k a inside
      (appended_one image' (at + k) _ (omega (arith, length-appended a inside))))
