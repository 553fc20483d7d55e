-- The ones of packed rows are the object pixels. Assumes nothing.
--   total                   the values of a function below a number added up
--   total-same, total-sum   of two functions with the same values; of one whose values are sums
--   total-add, total-rows   the values in front and those behind; row by row
--   total-front             those behind add nothing where each is 0
--   length-select-total     so many numbers are selected as their tests, as numbers, add up to
--   occurrences-total       the object pixels of an image of 0 and 1 are its values added up
--   ones-total              the ones of a unit are its bits added up
--   ones_sum-area           the ones of all words are the object pixels
--   sum-ones-area           the same of a sum over their list
use Prim.Native.Nat.{ℕ, zero, suc, ◌+◌, ◌-◌, ◌*◌, ◌/◌, ◌%◌, ◌^◌, ◌≤◌, ◌<◌}
use mathlib.Core.Path.{◌≡◌, refl, sym, ap, ap₂, ◌∙◌}
use mathlib.Core.Bool.{Bool}
use mathlib.Core.List.{List}
use native.Mathlib.Omega.{arith}
use native.Mathlib.Numerals.{add-one}
use native.Mathlib.Nat.{pow-suc, mul_comm, suc-mul, zero-mul, add-zero, add-suc}
use lib.Count.{ones, ones_step}
use lib.Dec.{eqb}
use lib.ListN.{length, get_or, take}
use lib.Seq.{take-length}
use Rattle.std.specs.List.{sum_by}
use Rattle.std.proofs.lemmas.List.Sums.{sum_by_more}
use Rattle.lists.specs.Lists.{select, range, count_from, bit, occurrences}
use Rattle.lists.proofs.ListLaws.{length-select-range-suc, length-select-get_or}
use Rattle.neighbours.specs.Packed.{bit_at, packed_pixel, padded_pixel}
use Rattle.neighbours.proofs.BitLaws.{digit-half}
use Rattle.neighbours.proofs.PackedLaws.{Units, row_units-ge, packed_length-is, packed_pixel-is, padded_pixel-inside}
use Rattle.neighbours.proofs.PackedLaws.{padded_pixel-behind, padded_pixel-unpacked, length-unpacked, unpacked-le}
use Rattle.model.specs.Words.{row_words, unpacked_words}
use Rattle.words.specs.Frame.{ones_sum, Clean}

-- ---- sums

-- the values of f below n added up
pub total : (ℕ → ℕ) → ℕ → ℕ
total f zero = 0
total f (suc n) = total f n + f n

pub total-same : (f g : ℕ → ℕ) (n : ℕ) → ((k : ℕ) → k < n → f k ≡ g k) → total f n ≡ total g n
unfolding total
total-same f g zero same = refl
total-same f g (suc n) same =
    ap₂ ◌+◌ (total-same f g n (λ k l. same k (omega arith))) (same n (omega arith))

pub total-sum : (f g h : ℕ → ℕ) (n : ℕ) → ((k : ℕ) → k < n → f k + g k ≡ h k) →
    total f n + total g n ≡ total h n
unfolding total
total-sum f g h zero sums = refl
total-sum f g h (suc n) sums =
    omega (arith, total-sum f g h n (λ k l. sums k (omega arith)), sums n (omega arith))

-- the first n values and the m behind them
pub total-add : (f : ℕ → ℕ) (n m : ℕ) → total f (n + m) ≡ total f n + total (λ k. f (n + k)) m
unfolding total
total-add f n zero = rw (add-zero n) (omega arith)
total-add f n (suc m) = rw (add-suc n m, total) (omega (arith, total-add f n m))

-- in n rows of s
pub total-rows : (f : ℕ → ℕ) (n s : ℕ) → total f (n * s) ≡ total (λ y. total (λ k. f (y * s + k)) s) n
unfolding total
total-rows f zero s = rw (zero-mul s) refl
total-rows f (suc n) s = rw (suc-mul n s) (total-add f (n * s) s ∙ rw (total-rows f n s) refl)

-- those behind add nothing where each is 0
pub total-front : (f : ℕ → ℕ) (n m : ℕ) → ((k : ℕ) → n ≤ k → f k ≡ 0) →
    total f (n + m) ≡ total f n
unfolding total
total-front f n zero none = rw (add-zero n) refl
total-front f n (suc m) none =
    rw (add-suc n m, total) (omega (arith, total-front f n m none, none (n + m) (omega arith)))

-- ---- images

-- so many numbers are selected as their tests, as numbers, add up to
pub length-select-total : (f : ℕ → Bool) (n : ℕ) → length (select f (range n)) ≡ total (λ k. bit (f k)) n
unfolding total select count_from
length-select-total f zero = refl
length-select-total f (suc n) =
    length-select-range-suc f n ∙ ap (λ (k : ℕ). k + bit (f n)) (length-select-total f n)

-- the object pixels of an image of 0 and 1 are its values added up
pub occurrences-total : (n : ℕ) (image : List ℕ) → length image ≡ n → ((i : ℕ) → get_or image i 0 ≤ 1) →
    occurrences 1 image ≡ total (λ i. get_or image i 0) n
unfolding occurrences
occurrences-total n image size bits =
    sym (length-select-get_or (eqb 1) image)
    ∙ rw size (length-select-total (λ i. eqb 1 (get_or image i 0)) n)
    ∙ total-same _ _ n (λ i l. one (get_or image i 0) (bits i))
  where
    one : (v : ℕ) → v ≤ 1 → bit (eqb 1 v) ≡ v
    one zero l = refl
    one (suc zero) l = refl
    one (suc (suc v)) l = absurd (omega arith)

-- ---- words

-- the ones of a unit are its bits added up
pub ones-total : (unit n : ℕ) → n < 2 ^ unit → ones n ≡ total (bit_at unit n) unit
unfolding total ones
ones-total zero n l = let e : n ≡ 0 = omega arith in rw e refl
ones-total (suc unit) n l =
    let rest = ones-total unit (n / 2) (omega (arith, pow-suc 2 unit)) in
    let moved = total-same (bit_at unit (n / 2)) (bit_at (suc unit) n) unit
    (λ j h.
    let next : suc (unit - 1 - j) ≡ suc unit - 1 - j = omega arith in
    rw next at (digit-half n (unit - 1 - j))) in
    let last : suc unit - 1 - unit ≡ 0 = omega arith in
    let low : bit_at (suc unit) n unit ≡ n % 2 = rw last (omega arith) in
    omega (arith, ones_step n, rest, moved, low)

ones_sum-total : (n : ℕ) (words : List ℕ) → ones_sum n words ≡ total (λ i. ones (get_or words i 0)) n
unfolding ones_sum total
ones_sum-total zero words = refl
ones_sum-total (suc n) words = ap (λ (k : ℕ). k + ones (get_or words n 0)) (ones_sum-total n words)

ones_sum-take : (n : ℕ) (words : List ℕ) → n ≤ length words → ones_sum n words ≡ sum_by ones (take n words)
unfolding ones_sum
ones_sum-take zero words l = refl
ones_sum-take (suc n) words l =
    let more = rw add-one at (sum_by_more ones words n 0 (omega arith)) in
    ap (λ (k : ℕ). k + ones (get_or words n 0)) (ones_sum-take n words (omega arith)) ∙ sym more

module _ (width height : ℕ) (words : List ℕ) (clean : Clean width height words) (small : Units 64 words) where
  -- the ones of word k of row y are its pixels
  word_total : (y k : ℕ) →
      ones (get_or words (y * row_words width + k) 0) ≡ total (λ j. packed_pixel 64 width words (k * 64 + j) y) 64
  word_total y k =
      ones-total 64 (get_or words (y * row_words width + k) 0) (small (y * row_words width + k))
      ∙ total-same _ _ 64
      (λ j l.
      let q : (k * 64 + j) / 64 ≡ k = omega arith in
      let r : (k * 64 + j) % 64 ≡ j = omega arith in
      sym (packed_pixel-is 64 width words (k * 64 + j) y ∙ rw (q, r) refl))

  -- those of row y are the pixels of the row
  row-total : (y : ℕ) → y < height →
      total (λ k. ones (get_or words (y * row_words width + k) 0)) (row_words width)
      ≡ total (λ x. get_or (unpacked_words width height words) (y * width + x) 0) width
  row-total y ly =
      let image = unpacked_words width height words in
      let whole : row_words width * 64 ≡ width + (row_words width * 64 - width) =
      omega (arith, row_units-ge 64 width (omega arith)) in
      total-same _ _ (row_words width) (λ k l. word_total y k)
      ∙ sym (total-rows (λ x. packed_pixel 64 width words x y) (row_words width) 64)
      ∙ total-same _ (λ x. padded_pixel width image x y) (row_words width * 64)
      (λ x l. sym (padded_pixel-unpacked 64 width height words clean.clear x y (omega arith) ly))
      ∙ rw whole
      (total-front (λ x. padded_pixel width image x y) width (row_words width * 64 - width)
      (λ x l. padded_pixel-behind width image x y l))
      ∙ total-same _ _ width (λ x l. padded_pixel-inside width image x y l)

  -- those of all words are the pixels of the image
  pub ones_sum-area : ones_sum (length words) words ≡ occurrences 1 (unpacked_words width height words)
  ones_sum-area =
      let image = unpacked_words width height words in
      let size = length-unpacked 64 width height words ∙ mul_comm width height in
      ones_sum-total (length words) words
      ∙ rw (clean.size, packed_length-is 64 width height, mul_comm (row_words width) height)
      (total-rows (λ i. ones (get_or words i 0)) height (row_words width))
      ∙ total-same _ _ height row-total
      ∙ sym (total-rows (λ i. get_or image i 0) height width)
      ∙ sym (occurrences-total (height * width) image size (unpacked-le 64 width height words))

  -- the same of a sum over their list
  pub sum-ones-area : sum_by ones words ≡ occurrences 1 (unpacked_words width height words)
  sum-ones-area =
      ap (sum_by ones) (sym (take-length words)) ∙ sym (ones_sum-take (length words) words (omega arith))
      ∙ ones_sum-area
