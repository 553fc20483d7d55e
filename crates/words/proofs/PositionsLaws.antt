-- Laws of positions listed from words (`specs/Positions.antt`). Assumes nothing.
--   row_ones-select   the ones of a row's words are those of its pixels that pass the test
--   row_small         a row's positions fit the queue's entries
--   row_inside, row_ones-count            a row's word stands among the words; its ones are counted
--   row_ones-next, row_ones-more          its ones can be listed, and then are
--   length-row_ones-le                    a row has no more ones than pixels
--   length-ones_above-le, -small          the first rows have no more ones than pixels; they are few
--   ones_above-count                      the ones of one row more are counted
--   ones_above-more                       one row more is listed
--   ones_above-select                     the ones of all rows are the pixels that pass the test
--   row_ones-compare, row_ones-stop       the next word can be compared; its ones do not stand there
--   ones_above-stop                       those of a row do not, so those of all rows do not
--   listed-not, listed-iff                whether the queue's front is the pixels that pass the test
use Prim.Native.Nat.{ℕ, zero, suc, ◌+◌, ◌-◌, ◌*◌, ◌/◌, ◌%◌, ◌^◌, ◌≤◌, ◌<◌}
use mathlib.Core.Path.{◌≡◌, refl, sym, ap, ap₂, ◌∙◌}
use mathlib.Core.Bool.{Bool, true, false, ◌&&◌, false≢true}
use mathlib.Core.Logic.{◌↔◌}
use mathlib.Core.List.{List, [], ◌∷◌, ◌++◌, append-nil, append_assoc}
use native.Mathlib.Omega.{arith}
use native.Mathlib.Nat.{add-zero, add-suc, zero-add, zero-mul, suc-mul, mul_comm, mul-suc, mul-le-mul_right}
use native.Mathlib.Numerals.{add-one}
use lib.Count.{ones}
use lib.Dec.{eqb, ltb}
use lib.ListN.{length, get_or, take, length-append}
use lib.Seq.{length-take-le}
use Rattle.std.specs.Prelude.{None}
use borrow.Author.Tests.{eq-eqb, eqb-true, lt-ltb, le-ltb, ltb-true}
use Rattle.lists.specs.Lists.{select, count_from, Each}
use Rattle.lists.proofs.BoolLaws.{by-test, by-lt, and_left, eqb-bit, bit-eqb}
use Rattle.lists.proofs.ListLaws.{select-count_from-none, count_from-append, select-append, length-select-count_from-le}
use Rattle.neighbours.specs.Crop.{ValidSize, Extended}
use Rattle.neighbours.specs.Limits.{max_pixels}
use Rattle.neighbours.specs.Grid.{positions}
use Rattle.neighbours.specs.Packed.{bit_at}
use Rattle.neighbours.specs.Words.{word_bits}
use Rattle.neighbours.proofs.PackedLaws.{row_units-ge}
use Rattle.neighbours.proofs.PositionLaws.{row_within, size-le}
use Rattle.neighbours.proofs.ExtendedLaws.{extended-append}
use Rattle.model.specs.Words.{row_words}
use Rattle.word_ones.specs.Ones.{ones_of, ones_from, ListableWord, Compared, ComparableWord}
use Rattle.word_ones.proofs.OnesLaws.{select-agree, length-ones_from, extended-before}
use Rattle.words.specs.Frame.{stride}
use Rattle.words.specs.Positions.{row_ones, ones_above, WordAt, WordsOf}
use Rattle.words.specs.Positions.{Listable, ListableRow, ComparableRow}
use Rattle.words.proofs.ColumnLaws.{column-le, column-next}

-- ---- selections

-- every number selected has a property that passing the test implies
each-selected : (P : ℕ → Type 0) (f : ℕ → Bool) → ((x : ℕ) → f x ≡ true → P x) → (xs : List ℕ) →
    Each P (select f xs)
unfolding select
each-selected P f passed [] = tt
each-selected P f passed (x ∷ xs) =
    let rest = each-selected P f passed xs in
    by-test (f x) (λ e. rw e (passed x e, rest)) (λ e. rw e rest)

-- ---- the ones of a row

-- the numbers of a row, from a on, that pass a test
in_row : ℕ → ℕ → (ℕ → Bool) → ℕ → Bool
in_row a width test i = ltb (i - a) width && test i

-- of more numbers than the row has
select-in_row : (a width : ℕ) (test : ℕ → Bool) (m : ℕ) → width ≤ m →
    select (in_row a width test) (count_from a m) ≡ select test (count_from a width)
unfolding in_row
select-in_row a width test m le =
    let e : width + (m - width) ≡ m = omega arith in
    ap (λ (n : ℕ). select (in_row a width test) (count_from a n)) (sym e)
    ∙ rw (count_from-append a width (m - width), select-append)
    (ap₂ ◌++◌
    (select-agree _ test a width (λ k l. rw (lt-ltb (a + k - a) width (omega arith)) refl))
    (select-count_from-none _ (a + width) (m - width) (λ k l h. rw (le-ltb (k - a) width (omega arith)) refl))
    ∙ append-nil (select test (count_from a width)))

-- no more than the row has
length-in_row : (a width : ℕ) (test : ℕ → Bool) (m : ℕ) →
    length (select (in_row a width test) (count_from a m)) ≤ width
length-in_row a width test m =
    by-lt m width
    (λ l. omega (arith, length-select-count_from-le (in_row a width test) a m))
    (λ l. rw (select-in_row a width test m l) (length-select-count_from-le test a width))

module _ (width height : ℕ) (words : List ℕ) (test : ℕ → Bool) (y at : ℕ)
    (said : (k : ℕ) → k < row_words width →
    WordAt at width test k (get_or words ((k + 1) * stride height + 1 + y) 0)) where
  -- the ones of a word are those of its pixels that pass
  ones_from-in_row : (k : ℕ) → k < row_words width →
      ones_from (at + word_bits * k) (get_or words ((k + 1) * stride height + 1 + y) 0)
      ≡ select (in_row at width test) (count_from (at + word_bits * k) word_bits)
  unfolding ones_of ones_from in_row
  ones_from-in_row k l =
      select-agree _ _ (at + word_bits * k) word_bits
      (λ j h.
      let place : at + word_bits * k + j - (at + word_bits * k) ≡ j = omega arith in
      let column : at + word_bits * k + j - at ≡ word_bits * k + j = omega arith in
      let sum : at + word_bits * k + j ≡ at + (word_bits * k + j) = omega arith in
      rw (place, column, sum) (ap (λ (v : ℕ). eqb v 1) (said k l j h) ∙ eqb-bit _))

  row_ones-in_row : (k : ℕ) → k ≤ row_words width →
      row_ones height words y at k ≡ select (in_row at width test) (count_from at (word_bits * k))
  unfolding row_ones select count_from
  row_ones-in_row zero l = refl
  row_ones-in_row (suc k) l =
      rw (mul-suc word_bits k, count_from-append at (word_bits * k) word_bits, select-append)
      (ap₂ ◌++◌ (row_ones-in_row k (omega arith)) (ones_from-in_row k (omega arith)))

  -- so those of a row's words are those of its pixels
  pub row_ones-select : row_ones height words y at (row_words width) ≡ select test (count_from at width)
  row_ones-select =
      row_ones-in_row (row_words width) (omega arith)
      ∙ select-in_row at width test (word_bits * row_words width) (row_units-ge word_bits width (omega arith))

module _ (width height : ℕ) (words : List ℕ) (y at : ℕ)
    (listable : Listable width height words) (row : y < height) where
  -- the test whether the pixel at a position of the row has its bit set
  row_test : ℕ → Bool
  row_test i =
      let x = i - at in
      eqb (bit_at word_bits (get_or words ((x / word_bits + 1) * stride height + 1 + y) 0) (x % word_bits)) 1

  row_test-said : (k : ℕ) → k < row_words width →
      WordAt at width row_test k (get_or words ((k + 1) * stride height + 1 + y) 0)
  unfolding row_test
  row_test-said k l j h =
      let x : at + (word_bits * k + j) - at ≡ word_bits * k + j = omega arith in
      let quotient : (word_bits * k + j) / word_bits ≡ k = omega arith in
      let remainder : (word_bits * k + j) % word_bits ≡ j = omega arith in
      by-lt (word_bits * k + j) width
      (λ inside. rw (lt-ltb (word_bits * k + j) width inside, x, quotient, remainder) (bit-eqb _ (omega arith)))
      (λ behind. rw (le-ltb (word_bits * k + j) width behind) (listable.clear k y j l row h behind))

  -- a word's ones fit the queue's entries
  ones_from-small : at + width ≤ max_pixels → (k : ℕ) → k < row_words width →
      Each (λ i. i < max_pixels)
      (ones_from (at + word_bits * k) (get_or words ((k + 1) * stride height + 1 + y) 0))
  unfolding in_row
  ones_from-small small k l =
      rw (ones_from-in_row width height words row_test y at row_test-said k l)
      (each-selected _ _
      (λ i passed.
      let inside = ltb-true (i - at) width (and_left (ltb (i - at) width) (row_test i) passed) in
      omega (arith, inside, small, listable.valid.wide)) _)

  -- a row has no more ones than pixels
  pub length-row_ones-le : (k : ℕ) → k ≤ row_words width → length (row_ones height words y at k) ≤ width
  length-row_ones-le k l =
      rw (row_ones-in_row width height words row_test y at row_test-said k l)
      (length-in_row at width row_test (word_bits * k))

-- the positions of a row fit the queue's entries
pub row_small : {width height y : ℕ} → ValidSize width height → y < height → y * width + width ≤ max_pixels
row_small {width} {height} {y} valid row = omega (arith, row_within width row, size-le valid)

-- its word k stands among the words, a column before their end
pub row_inside : {width height : ℕ} {words : List ℕ} {y : ℕ} (k : ℕ) → Listable width height words → y < height →
    k < row_words width → (k + 1) * stride height + 1 + y + stride height ≤ length words
row_inside {width} {height} k listable row l =
    omega (
      arith,
      row,
      column-le (stride height) k (row_words width) l,
      column-next (stride height) (row_words width),
      listable.room,
    )

module _ (height : ℕ) (words : List ℕ) (y first k : ℕ) {word : ℕ}
    (is : word ≡ get_or words ((k + 1) * stride height + 1 + y) 0) where
  -- its ones are counted behind those of the words before it
  pub row_ones-count : {count n : ℕ} → word < 2 ^ word_bits → n ≡ ones word →
      count ≡ length (row_ones height words y first k) →
      count + n ≡ length (row_ones height words y first (k + 1))
  unfolding row_ones
  row_ones-count small counted before =
      rw (add-one, row_ones, length-append, ← is)
      (omega (arith, counted, before, length-ones_from (first + word_bits * k) word small))

  -- where those before it are listed, they can be
  pub row_ones-next : {width : ℕ} {queue₀ queue : List ℕ} {len end : ℕ} →
      ListableRow width height words y first queue₀ len → k < row_words width →
      Extended queue₀ len (row_ones height words y first k) queue end →
      ListableWord (first + word_bits * k) word queue end
  unfolding row_ones
  row_ones-next {width} ready l before =
      let next = length-row_ones-le width height words y first ready.listable ready.row (suc k) l in
      let ones = ones_from (first + word_bits * k) (get_or words ((k + 1) * stride height + 1 + y) 0) in
      let size = length-append (row_ones height words y first k) ones in
      rw is
      (record {
        small = ones_from-small width height words y first ready.listable ready.row ready.small k l;
        room = omega (arith, next, size, before.counted, before.size, ready.room);
      })

  -- and then are
  pub row_ones-more : {queue₀ queue queue' : List ℕ} {len end end' : ℕ} →
      Extended queue₀ len (row_ones height words y first k) queue end →
      Extended queue end (ones_from (first + word_bits * k) word) queue' end' →
      Extended queue₀ len (row_ones height words y first (k + 1)) queue' end'
  unfolding row_ones
  row_ones-more before more = rw add-one (extended-append before (rw is at more))

-- ---- the ones of all rows

module _ {width height : ℕ} {words : List ℕ} (listable : Listable width height words) where
  -- the first rows have no more ones than pixels
  pub length-ones_above-le : (y : ℕ) → y ≤ height → length (ones_above width height words y) ≤ y * width
  unfolding ones_above
  length-ones_above-le zero l = omega arith
  length-ones_above-le (suc y) l =
      let rows = length-ones_above-le y (omega arith) in
      let row = length-row_ones-le width height words y (y * width) listable l (row_words width) (omega arith) in
      rw (length-append, suc-mul y width) (omega (arith, rows, row))

  -- so they are few
  pub length-ones_above-small : (y : ℕ) → y ≤ height → length (ones_above width height words y) ≤ max_pixels
  length-ones_above-small y l =
      let above = mul-le-mul_right width l in
      omega (arith, length-ones_above-le y l, above, mul_comm width height, size-le listable.valid)

-- the ones of one row more are counted
pub ones_above-count : (width height : ℕ) (words : List ℕ) (y count n : ℕ) →
    count ≡ length (ones_above width height words y) →
    n ≡ length (row_ones height words y (y * width) (row_words width)) →
    count + n ≡ length (ones_above width height words (y + 1))
unfolding ones_above
ones_above-count width height words y count n above row =
    rw (add-one, ones_above, length-append) (omega (arith, above, row))

-- one row more is listed
pub ones_above-more : (width height : ℕ) (words : List ℕ) (y : ℕ)
    {queue₀ queue queue' : List ℕ} {len len' : ℕ} →
    Extended queue₀ 0 (ones_above width height words y) queue len →
    Extended queue len (row_ones height words y (y * width) (row_words width)) queue' len' →
    Extended queue₀ 0 (ones_above width height words (y + 1)) queue' len'
unfolding ones_above
ones_above-more width height words y above row = rw add-one (extended-append above row)

module _ (width height : ℕ) (words : List ℕ) (test : ℕ → Bool) (said : WordsOf width height test words) where
  ones_above-rows : (y : ℕ) → y ≤ height →
      ones_above width height words y ≡ select test (count_from 0 (y * width))
  unfolding ones_above select count_from
  ones_above-rows zero l = rw zero-mul refl
  ones_above-rows (suc y) l =
      rw (suc-mul y width, count_from-append 0 (y * width) width, select-append, zero-add)
      (ap₂ ◌++◌ (ones_above-rows y (omega arith))
      (row_ones-select width height words test y (y * width) (λ k h. said k y h (omega arith))))

  -- the ones of all rows are the pixels that pass
  pub ones_above-select : ones_above width height words height ≡ select test (positions width height)
  ones_above-select = ones_above-rows height (omega arith) ∙ rw (mul_comm height width) refl

-- ---- comparing

-- the second, behind the first
extended-behind : (xs ys queue : List ℕ) {len mid end : ℕ} → Extended queue len xs queue mid →
    Extended queue len (xs ++ ys) queue end → Extended queue mid ys queue end
extended-behind xs ys queue {len} {mid} {end} a e =
    record {
      counted = omega (arith, a.counted, e.counted, length-append xs ys);
      size = refl;
      front = e.front ∙ sym (append_assoc (take len queue) xs ys) ∙ rw (← a.front) refl;
    }

-- where those in front do not, all do not
compared-front : (xs ys queue : List ℕ) {n : ℕ} (len : ℕ) → n ≤ length queue →
    Compared queue n len xs None → Compared queue n len (xs ++ ys) None
unfolding Compared
compared-front xs ys queue len within c end le whole =
    c _ (omega (arith, whole.counted, length-append xs ys)) (extended-before xs ys whole (omega arith))

-- where those behind do not, all do not
compared-behind : (xs ys queue : List ℕ) (n : ℕ) {len mid : ℕ} → Extended queue len xs queue mid →
    Compared queue n mid ys None → Compared queue n len (xs ++ ys) None
unfolding Compared
compared-behind xs ys queue n a c end le whole = c end le (extended-behind xs ys queue a whole)

-- ---- comparing rows

module _ (height : ℕ) (words : List ℕ) (y k : ℕ) {word : ℕ}
    (is : word ≡ get_or words ((k + 1) * stride height + 1 + y) 0) where
  -- the next word can be compared
  pub row_ones-compare : {width : ℕ} {queue : List ℕ} {len n end : ℕ} →
      ComparableRow width height words y queue len n → k < row_words width → end ≤ n →
      ComparableWord (y * width + word_bits * k) word queue end n
  row_ones-compare {width} ready l before =
      let small = row_small ready.listable.valid ready.row in
      rw is
      (record {
        small = ones_from-small width height words y (y * width) ready.listable ready.row small k l;
        before = before;
        within = ready.within;
      })

  -- its ones do not stand there, so those of the row do not
  pub row_ones-stop : (first columns : ℕ) {queue : List ℕ} {len end n : ℕ} →
      n ≤ length queue → k < columns →
      Extended queue len (row_ones height words y first k) queue end →
      Compared queue n end (ones_from (first + word_bits * k) word) None →
      Compared queue n len (row_ones height words y first columns) None
  unfolding row_ones
  row_ones-stop first columns {queue} {len} {end} {n} within l before c =
      let e : suc k + (columns - suc k) ≡ columns = omega arith in
      rw e at (more (columns - suc k))
    where
      more : (d : ℕ) → Compared queue n len (row_ones height words y first (suc k + d)) None
      more zero = rw add-zero (compared-behind _ _ queue n before (rw is at c))
      more (suc d) = rw (add-suc, row_ones) (compared-front _ _ queue len within (more d))

module _ (width height : ℕ) (words queue : List ℕ) {n len y : ℕ} where
  -- the ones of a row do not stand there, so those of all rows do not
  pub ones_above-stop : n ≤ length queue → y < height →
      Extended queue 0 (ones_above width height words y) queue len →
      Compared queue n len (row_ones height words y (y * width) (row_words width)) None →
      Compared queue n 0 (ones_above width height words height) None
  unfolding ones_above
  ones_above-stop within l above c =
      let e : suc y + (height - suc y) ≡ height = omega arith in
      rw e at (more (height - suc y))
    where
      more : (d : ℕ) → Compared queue n 0 (ones_above width height words (suc y + d)) None
      more zero = rw add-zero (compared-behind _ _ queue n above c)
      more (suc d) = rw (add-suc, ones_above) (compared-front _ _ queue 0 within (more d))

-- a list that is the front of a queue stands there
extended-front-is : (queue xs : List ℕ) (n : ℕ) → n ≤ length queue → take n queue ≡ xs →
    Extended queue 0 xs queue n
extended-front-is queue xs n within e =
    record { counted = omega (arith, ap length e, length-take-le n queue within); size = refl; front = e }

module _ (width height : ℕ) (words queue : List ℕ) (n : ℕ) (within : n ≤ length queue)
    (test : ℕ → Bool) (said : WordsOf width height test words) where
  -- the ones do not stand at the front
  pub listed-not : Compared queue n 0 (ones_above width height words height) None →
      (false ≡ true) ↔ (take n queue ≡ select test (positions width height))
  unfolding Compared
  listed-not c = (
    λ e. absurd (false≢true e),
    λ e. absurd
        (c n (omega arith)
        (extended-front-is queue _ n within (e ∙ sym (ones_above-select width height words test said)))),
  )

  -- they stand there, and are all of it where they are as many
  pub listed-iff : {len : ℕ} → Extended queue 0 (ones_above width height words height) queue len →
      (eqb len n ≡ true) ↔ (take n queue ≡ select test (positions width height))
  listed-iff {len} above =
      let is = ones_above-select width height words test said in (
        λ e. rw (eqb-true len n e) at above.front ∙ is,
        λ e.
            let count = ap length (e ∙ sym is) in
            eq-eqb len n (omega (arith, count, above.counted, length-take-le n queue within)),
      )
