-- Laws of the scan of a frame (`specs/Scan.antt`).
--   ClearRow                                                 the first words of a row have no object pixel
--   clear_row-none, clear_row-more                           of no word, and of one word more
--   clear_row-blank                                          of all words: the row is blank
--   row_scanned-blank, row_scanned-listed                    a row that is passed over, and one that is listed
--   rows_scanned-none, rows_scanned-more, rows_scanned-all   no row, one row more, all rows
-- Assumes nothing.
use Prim.Native.Nat.{ℕ, ◌+◌, ◌-◌, ◌*◌, ◌/◌, ◌%◌, ◌^◌, ◌<◌}
use mathlib.Core.Path.{◌≡◌, refl, sym, ap, ◌∙◌}
use mathlib.Core.Bool.{Bool, true, false}
use mathlib.Core.Logic.{◌↔◌}
use mathlib.Core.List.{List, [], ◌++◌}
use native.Mathlib.Omega.{arith}
use native.Mathlib.Nat.{add-zero, zero-mul, suc-mul, mul_comm}
use native.Mathlib.Numerals.{add-one}
use lib.Bits.{bit_and, bit_or, and_le_l}
use lib.Dec.{eqb}
use lib.ListN.{length, get_or, length-append}
use borrow.Author.Tests.{eqb-true, eq-eqb, lt-ltb, le-ltb}
use Rattle.lists.specs.Lists.{count_from, range, select, bit}
use Rattle.lists.proofs.BoolLaws.{by-test, by-eq, by-lt, bool_same}
use Rattle.lists.proofs.ListLaws.{count_from-append, select-append, select-count_from-none, select-count_from-moved}
use Rattle.lists.proofs.ListLaws.{select-range-yes, select-range-no}
use Rattle.neighbours.specs.Grid.{position, all_sides}
use Rattle.neighbours.specs.Packed.{bit_at}
use Rattle.neighbours.specs.Words.{word_bits}
use Rattle.neighbours.specs.Crop.{Extended, moved}
use Rattle.neighbours.specs.Contour.{on_contour, contour}
use Rattle.neighbours.specs.BlankRows.{is_blank_row, blank_row_count}
use Rattle.neighbours.proofs.BitLaws.{bits-same}
use Rattle.neighbours.proofs.PackedLaws.{row_units-ge}
use Rattle.neighbours.proofs.WordLaws.{bit-le-one, bit-and, flat-zero}
use Rattle.neighbours.proofs.ExtendedLaws.{extended_none, extended-append}
use Rattle.neighbours.proofs.ContourLaws.{on_contour-background}
use Rattle.neighbours.proofs.BlankRowLaws.{is_blank_row-iff}
use Rattle.model.specs.Words.{row_words}
use Rattle.words.specs.Frame.{stride, FrameOf, Framed, keep_at}
use Rattle.words.specs.Positions.{row_ones}
use Rattle.words.specs.Scan.{Seen, row_contour, RowScanned, RowsScanned}
use Rattle.words.specs.declared.Frame.{Frame}
use Rattle.words.specs.declared.Found.{Found}
use Rattle.words.proofs.FrameLaws.{or-zero}
use Rattle.words.proofs.FramedLaws.{framed-pixel, mask_at}
use Rattle.words.proofs.PositionsLaws.{row_ones-select}

-- ---- one look along a row

-- the first k words of row y have no object pixel
abbrev pub ClearRow : Frame → List ℕ → ℕ → ℕ → Type 0
ClearRow frame entries y k =
    (i : ℕ) → i < k → bit_and (get_or entries ((i + 1) * stride frame.rows + 1 + y) 0) (keep_at frame i) ≡ 0

module _ (frame : Frame) (entries : List ℕ) (y : ℕ) where
  -- no word
  pub clear_row-none : {seen : ℕ} → seen ≡ 0 → (seen ≡ 0) ↔ ClearRow frame entries y 0
  clear_row-none none = (λ e i l. absurd (omega arith), λ c. none)

  -- one word more
  pub clear_row-more : {k seen word keep : ℕ} → word ≡ get_or entries ((k + 1) * stride frame.rows + 1 + y) 0 →
      keep ≡ keep_at frame k →
      (seen ≡ 0) ↔ ClearRow frame entries y k →
      (bit_or seen (bit_and word keep) ≡ 0) ↔ ClearRow frame entries y (k + 1)
  clear_row-more {k} {seen} {word} {keep} is_word is_keep iff = (
    λ e i l.
        let parts = or-zero seen (bit_and word keep) e in
        by-eq i k (λ q. rw (q, ← is_word, ← is_keep) parts.1) (λ d. iff.0 parts.0 i (omega arith)),
    λ c.
        let none = iff.1 (λ i l. c i (omega arith)) in
        let last = rw (← is_word, ← is_keep) at (c k (omega arith)) in
        rw (none, last) refl,
  )

module _ {width height : ℕ} {frame : Frame} {image entries : List ℕ}
    (of : FrameOf width height 4 all_sides 0 frame) (framed : Framed width height all_sides image entries)
    (y : ℕ) (row : y < height) where
  -- the word that holds a pixel, and its bit of what is kept
  kept : (x : ℕ) → x < width →
      bit_at word_bits
      (bit_and (get_or entries ((x / 64 + 1) * stride frame.rows + 1 + y) 0) (keep_at frame (x / 64))) (x % 64)
      ≡ get_or image (position width x y) 0
  kept x l =
      let column : x / 64 < frame.columns = omega (arith, of.columns, row_units-ge word_bits width (omega arith)) in
      let inside : word_bits * (x / 64) + x % 64 ≡ x = omega arith in
      let one : bit_at word_bits (keep_at frame (x / 64)) (x % 64) ≡ 1 =
      (mask_at of (x / 64) column).is_keep (x % 64) (omega arith) ∙ rw (inside, lt-ltb x width l) refl in
      let place : (x / 64 + 1) * stride frame.rows + 1 + y ≡ (x / 64 + 1) * stride height + (1 + y) =
      rw of.rows (omega arith) in
      let word = get_or entries ((x / 64 + 1) * stride height + (1 + y)) 0 in
      rw (place, bit-and, one) (omega (arith, bit-le-one word (x % 64), framed-pixel framed x y l row))

  -- a word without an object pixel inside the crop
  clear-words : ((k : ℕ) → get_or entries k 0 < 2 ^ word_bits) →
      ((x : ℕ) → x < width → get_or image (position width x y) 0 ≡ 0) →
      ClearRow frame entries y frame.columns
  clear-words fits blank i l =
      let word = get_or entries ((i + 1) * stride frame.rows + 1 + y) 0 in
      let small = fits ((i + 1) * stride frame.rows + 1 + y) in
      bits-same word_bits (bit_and word (keep_at frame i)) 0 (omega (arith, small, and_le_l word (keep_at frame i)))
      (omega arith)
      (λ j h.
      let zero = flat-zero j h in
      by-lt (word_bits * i + j) width
      (λ inside.
      let quotient : (word_bits * i + j) / 64 ≡ i = omega arith in
      let remainder : (word_bits * i + j) % 64 ≡ j = omega arith in
      rw (quotient, remainder) at (kept (word_bits * i + j) inside) ∙ blank (word_bits * i + j) inside ∙ sym zero)
      (λ behind.
      let none : bit_at word_bits (keep_at frame i) j ≡ 0 =
      (mask_at of i l).is_keep j h ∙ rw (le-ltb (word_bits * i + j) width behind) refl in
      rw (bit-and, none, zero) (omega arith)))

  -- a row whose words have no object pixel is blank
  pub clear_row-blank : {seen : ℕ} → ((k : ℕ) → get_or entries k 0 < 2 ^ word_bits) →
      (seen ≡ 0) ↔ ClearRow frame entries y frame.columns → eqb seen 0 ≡ is_blank_row width image y
  clear_row-blank {seen} fits iff =
      bool_same (eqb seen 0) (is_blank_row width image y)
      (λ e.
      let clear = iff.0 (eqb-true seen 0 e) in
      (is_blank_row-iff width image y).1
      (λ x l.
      let column : x / 64 < frame.columns = omega (arith, of.columns, row_units-ge word_bits width (omega arith)) in
      sym (kept x l) ∙ rw (clear (x / 64) column) (flat-zero (x % 64) (omega arith))))
      (λ e. eq-eqb seen 0 (iff.1 (clear-words fits ((is_blank_row-iff width image y).0 e))))

-- ---- a row

module _ {width height : ℕ} {image entries words : List ℕ} (seen : Seen width height image entries words)
    (base y : ℕ) (row : y < height) where
  -- a blank row has no contour
  blank_none : is_blank_row width image y ≡ true → row_contour width height image base y ≡ []
  unfolding row_contour
  blank_none blank =
      select-count_from-none _ (base + y * width) width
      (λ i l h.
      let place : i - base ≡ position width (i - base - y * width) y = omega arith in
      on_contour-background width height image (i - base)
      (rw place ((is_blank_row-iff width image y).0 blank (i - base - y * width) (omega arith))))

  -- the ones of a row's words are its contour
  listed-contour : row_ones height words y (base + y * width) (row_words width) ≡ row_contour width height image base y
  unfolding row_contour
  listed-contour =
      row_ones-select width height words (λ i. on_contour width height image (i - base)) y (base + y * width)
      (λ k l j h.
      let e : base + y * width + (word_bits * k + j) - base ≡ y * width + (word_bits * k + j) = omega arith in
      rw e (seen.said k y l row j h))

  -- a row that is passed over
  pub row_scanned-blank : {queue : List ℕ} (found : Found) → true ≡ is_blank_row width image y →
      RowScanned width height image base y queue found queue
      (record { len = found.len; blank = found.blank + 1 })
  row_scanned-blank {queue} found blank =
      record {
        listed = rw (blank_none (sym blank)) (extended_none queue found.len);
        counted = rw (← blank) refl;
      }

  -- a row that is listed
  pub row_scanned-listed : {queue queue' : List ℕ} (found : Found) {len : ℕ} →
      false ≡ is_blank_row width image y →
      Extended queue found.len (row_ones height words y (base + y * width) (row_words width)) queue' len →
      RowScanned width height image base y queue found queue' (record { len = len; blank = found.blank })
  row_scanned-listed found some listed =
      record { listed = rw listed-contour at listed; counted = rw (← some) (sym (add-zero found.blank)) }

-- ---- all rows

-- the numbers below y + 1 that pass
length-select-more : (test : ℕ → Bool) (y : ℕ) →
    length (select test (range (y + 1))) ≡ length (select test (range y)) + bit (test y)
length-select-more test y =
    rw add-one
    (by-test (test y) (λ e. rw (select-range-yes test y e, length-append, e) refl)
    (λ e. rw (select-range-no test y e, e) (omega arith)))

module _ {width height : ℕ} {image : List ℕ} (base : ℕ) where
  -- no row
  pub rows_scanned-none : (queue : List ℕ) →
      RowsScanned width height image base 0 queue queue (record { len = 0; blank = 0 })
  unfolding select count_from
  rows_scanned-none queue = record { listed = rw zero-mul (extended_none queue 0); counted = refl }

  -- one row more
  pub rows_scanned-more : {y : ℕ} {queue queue' queue'' : List ℕ} {found found' : Found} →
      RowsScanned width height image base y queue queue' found →
      RowScanned width height image base y queue' found queue'' found' →
      RowsScanned width height image base (y + 1) queue queue'' found'
  unfolding row_contour
  rows_scanned-more {y} above row =
      let test : ℕ → Bool = λ i. on_contour width height image (i - base) in
      let more : select test (count_from base ((y + 1) * width))
      ≡ select test (count_from base (y * width)) ++ select test (count_from (base + y * width) width) =
      rw (add-one, suc-mul y width, count_from-append base (y * width) width, select-append) refl in
      record {
        listed = rw more (extended-append above.listed row.listed);
        counted = row.counted ∙ rw above.counted (sym (length-select-more (is_blank_row width image) y));
      }

  -- all rows
  pub rows_scanned-all : {queue queue' : List ℕ} {found : Found} →
      RowsScanned width height image base height queue queue' found →
      Extended queue 0 (moved base (contour width height image)) queue' found.len
      × (found.blank ≡ blank_row_count width height image)
  unfolding contour blank_row_count
  rows_scanned-all all =
      let e : height * width ≡ width * height = mul_comm height width in
      let same : (i : ℕ) → on_contour width height image (base + i - base) ≡ on_contour width height image i =
      λ i. ap (on_contour width height image) (omega arith) in
      let moves = select-count_from-moved (λ i. on_contour width height image (i - base))
      (on_contour width height image) base 0 (width * height) (λ i _ l. same i) in
      (rw (e, rw add-zero at moves) at all.listed, all.counted)
