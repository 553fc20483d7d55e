-- Laws of the frame of an image (`Framed`, specs/Frame.antt): what an iteration makes of it, pixel by pixel.
--   mask-last, mask_at             the bits of a row's last word, and of each word, inside the crop
--   framed-loaded                  the frame of packed rows
--   LevelsOf                       the frame's words put together with those above and below
--   levels-round                   what stands round a word
--   framed-stepped                 the frame after an iteration
--   framed-pixel                   a pixel as its word has it
--   erode_once-pixel               what an iteration leaves of a pixel
--   stepped_same                   no word changed exactly if no pixel did
--   SteppedColumns, MovedColumns   the first columns are stepped
--   step-more, step-whole          one column more; all of them
-- Assumes nothing.
use Prim.Native.Nat.{ℕ, zero, suc, ◌+◌, ◌-◌, ◌*◌, ◌/◌, ◌%◌, ◌^◌, ◌≤◌, ◌<◌, min, max}
use mathlib.Core.Path.{◌≡◌, refl, sym, ap, ap₂, ◌∙◌}
use mathlib.Core.Bool.{Bool, true, false, cond, ◌&&◌, not}
use mathlib.Core.List.{List}
use mathlib.Core.Logic.{◌⊎◌, inl, inr, ◌↔◌}
use native.Mathlib.Omega.{arith}
use native.Mathlib.Nat.{zero-add, zero-mul}
use lib.Arith.{digits_mod}
use lib.Bits.{bit_and, bit_or, bit_xor, differ}
use lib.Dec.{eqb}
use lib.ListN.{length, get_or}
use lib.Seq.{ext_get_or}
use borrow.Author.Tests.{le-leb, lt-leb, lt-ltb, le-ltb, eq-eqb, ne_eqb}
use Rattle.lists.specs.Lists.{bit}
use Rattle.lists.proofs.BoolLaws.{by-lt, by-eq, not-both, bit_le}
use Rattle.neighbours.specs.Grid.{right_side, left_side, has_side, position}
use Rattle.neighbours.specs.Grid.{column, row, has_neighbour}
use Rattle.neighbours.specs.Packed.{bit_at, packed_pixel}
use Rattle.neighbours.specs.Words.{word_bits, full_word, Holds, Flat, RowMask, place_value, filled_value, beside_value}
use Rattle.neighbours.specs.Words.{without_background, LevelsRound, Upright}
use Rattle.neighbours.proofs.BitLaws.{digit_ones, digit-ones-above, bits-same}
use Rattle.neighbours.proofs.PackedLaws.{row_units-ge, row_units-lt, row_units-pos, packed_pixel-is, get_or-unpacked}
use Rattle.neighbours.proofs.PackedLaws.{Units, length-unpacked}
use Rattle.neighbours.proofs.PositionLaws.{position-column-row, column-lt, row_lt, position-lt, width-pos}
use Rattle.neighbours.proofs.PlaceLaws.{place_value-inside, place_value-top, place_value-right, place_value-bottom}
use Rattle.neighbours.proofs.PlaceLaws.{place_value-left, place_value-le}
use Rattle.neighbours.proofs.WordLaws.{bit-and, bit-xor, bit-le-one, flat-full, flat-zero, beside_value-outside}
use Rattle.neighbours.proofs.WordLaws.{filled_value-inside, filled_value-behind, beside_value-upright}
use Rattle.neighbours.proofs.WordLaws.{without_background-is}
use Rattle.model.specs.Steps.{erode_once}
use Rattle.model.specs.Words.{row_words, unpacked_words}
use Rattle.theorems.proofs.StepLaws.{length-erode_once, get_or-erode_once}
use Rattle.words.specs.Frame.{stride, turned, Written, FrameOf, frame_word, keep_at, fill_at}
use Rattle.words.specs.Frame.{Loaded, ErodedAt, Same, Framed, Stepped}
use Rattle.words.specs.declared.Frame.{Frame}
use Rattle.words.proofs.WrittenLaws.{written_at}
use Rattle.words.proofs.ColumnLaws.{Columns, mul_next, column-le, column-next, column-first, frame-more}
use Rattle.words.proofs.ColumnLaws.{moved_more}
use Rattle.words.proofs.TurnedLaws.{get_or-turned}

-- ---- the bits of a word inside the crop

-- a word that is not a row's last is all inside
mask-inner : (width sides k : ℕ) → word_bits * k + word_bits ≤ width → RowMask width sides k full_word 0
mask-inner width sides k h =
    record {
      is_keep = λ j l. rw (lt-ltb (word_bits * k + j) width (omega arith)) (flat-full j l);
      is_fill = λ j l. rw (lt-ltb (word_bits * k + j) width (omega arith)) (flat-zero j l);
    }

-- of a row's last word, those that are not unused
pub mask-last : (width sides unused right : ℕ) → 1 ≤ width →
    unused ≡ 2 ^ (word_bits * row_words width - width) - 1 → Flat (bit (has_side sides right_side)) right →
    RowMask width sides (row_words width - 1) (bit_xor unused full_word) (bit_and unused right)
mask-last width sides unused right wide is flat =
    record {
      is_keep =
          λ j l.
          bit-xor unused full_word j
          ∙ by-lt (word_bits * (row_words width - 1) + j) width
          (λ h. rw (lt-ltb _ width h, inside j l h, flat-full j l))
          (λ h. rw (le-ltb _ width h, behind j l h, flat-full j l));
      is_fill =
          λ j l.
          bit-and unused right j
          ∙ by-lt (word_bits * (row_words width - 1) + j) width
          (λ h. rw (lt-ltb _ width h, inside j l h) (omega arith))
          (λ h.
          let small = bit_le (has_side sides right_side) in
          rw (le-ltb _ width h, behind j l h, flat j l) (omega arith));
    }
  where
    -- the row's last word is not empty
    ends : (word_bits * row_words width < width + word_bits) × (width ≤ word_bits * row_words width)
    ends = (row_units-lt word_bits width (omega arith), row_units-ge word_bits width (omega arith))

    inside : (j : ℕ) → j < word_bits → word_bits * (row_words width - 1) + j < width →
        bit_at word_bits unused j ≡ 0
    inside j l h =
        rw is
        (digit-ones-above (word_bits * row_words width - width) (63 - j)
        (omega (arith, ends.0, ends.1, row_units-pos word_bits width (omega arith) wide)))

    behind : (j : ℕ) → j < word_bits → width ≤ word_bits * (row_words width - 1) + j →
        bit_at word_bits unused j ≡ 1
    behind j l h =
        rw is
        (digit_ones (word_bits * row_words width - width) (63 - j)
        (omega (arith, ends.0, ends.1, row_units-pos word_bits width (omega arith) wide)))

pub mask_at : {width height connectivity sides flip : ℕ} {frame : Frame} →
    FrameOf width height connectivity sides flip frame → (k : ℕ) → k < frame.columns →
    RowMask width sides k (keep_at frame k) (fill_at frame k)
unfolding keep_at fill_at
mask_at {width} {height} {connectivity} {sides} {flip} {frame} of k l =
    by-eq (k + 1) frame.columns
    (λ e.
    let last : k ≡ row_words width - 1 = omega (arith, e, of.columns) in
    rw (eq-eqb (k + 1) frame.columns e, last) of.is_mask)
    (λ d.
    rw (ne_eqb (k + 1) frame.columns d)
    (mask-inner width sides k
    (omega (arith, d, l, of.columns, row_units-lt word_bits width (omega arith)))))

-- ---- the frame of packed rows

module _ {width height connectivity sides flip : ℕ} {frame : Frame}
    (of : FrameOf width height connectivity sides flip frame) where
  -- the pixels of words that are turned
  word-pixel : (words : List ℕ) (k y j : ℕ) → y < height → j < word_bits → word_bits * k + j < width →
      differ (bit_at word_bits (get_or words (y * frame.columns + k) 0) j) flip
      ≡ get_or (turned flip (unpacked_words width height words)) (position width (word_bits * k + j) y) 0
  word-pixel words k y j ly l h =
      let x = word_bits * k + j in
      let q : (word_bits * k + j) / 64 ≡ k = omega arith in
      let r : (word_bits * k + j) % 64 ≡ j = omega arith in
      let there : position width x y < length (unpacked_words width height words) =
      rw (length-unpacked word_bits width height words) (position-lt h ly) in
      let bit-of : packed_pixel word_bits width words x y ≡ bit_at word_bits
      (get_or words (y * frame.columns + k) 0) j =
      packed_pixel-is word_bits width words x y ∙ rw (q, r, of.columns) in
      sym
      (get_or-turned flip (unpacked_words width height words) (position width x y) there
      ∙ ap (λ (v : ℕ). differ v flip) (get_or-unpacked word_bits width height words x y h ly ∙ bit-of))

  -- what an entry is made of
  frame-pixel : (words : List ℕ) (k y j : ℕ) → y < stride height → j < word_bits → word_bits * k + j < width →
      bit_at word_bits (frame_word frame words k y) j
      ≡ place_value width height sides (turned flip (unpacked_words width height words)) (word_bits * k + j + 1) y
  unfolding frame_word
  frame-pixel words k zero j ly l h =
      of.is_top j l
      ∙ sym (place_value-top width height sides _ (word_bits * k + j + 1) (omega arith) (omega arith))
  frame-pixel words k (suc y) j ly l h =
      by-eq (suc y) (frame.rows + 1)
      (λ e.
      rw (ne_eqb (suc y) 0 (λ z. omega arith), eq-eqb (suc y) (frame.rows + 1) e)
      (of.is_bottom j l
      ∙ sym
      (place_value-bottom width height sides _ (word_bits * k + j + 1) (suc y) (omega arith) (omega arith) (omega arith)
      (omega (arith, e, of.rows)))))
      (λ d.
      let low : y < height = omega (arith, d, of.rows) in
      let one : suc y ≡ y + 1 = omega arith in
      let back : suc y - 1 ≡ y = omega arith in
      rw (ne_eqb (suc y) 0 (λ z. omega arith), ne_eqb (suc y) (frame.rows + 1) d, back)
      (bit-xor _ frame.flip j
      ∙ ap (differ (bit_at word_bits (get_or words (y * frame.columns + k) 0) j)) (of.is_flip j l)
      ∙ word-pixel words k y j low l h
      ∙ rw one (sym (place_value-inside width height sides _ (word_bits * k + j) y h low))))

  pub framed-loaded : {words entries : List ℕ} → Loaded frame words entries →
      Framed width height sides (turned flip (unpacked_words width height words)) entries
  unfolding filled_value
  framed-loaded {words} {entries} loaded =
      record {
        inside =
            λ k y lk ly j l.
            let image = turned flip (unpacked_words width height words) in
            let column : k < frame.columns = rw of.columns lk in
            let entry : y < stride frame.rows = rw of.rows ly in
            let x1 : word_bits * k + 1 + j ≡ word_bits * k + j + 1 = omega arith in
            rw x1
            (ap (λ (n : ℕ). bit_at word_bits (get_or entries ((k + 1) * stride n + y) 0) j) (sym of.rows)
            ∙ loaded.inside k y column entry width sides k (mask_at of k column) j l
            ∙ by-lt (word_bits * k + j) width
            (λ h.
            rw (lt-ltb (word_bits * k + j) width h, le-leb (word_bits * k + j + 1) width (omega arith))
            (frame-pixel words k y j ly l h))
            (λ h. rw (le-ltb (word_bits * k + j) width h, lt-leb (word_bits * k + j + 1) width (omega arith))));
        left = λ y ly. rw (loaded.left y (rw of.rows ly)) of.is_left;
        right =
            λ y ly.
            let e : (row_words width + 1) * stride height + y ≡ (frame.columns + 1) * stride frame.rows + y =
            rw (of.rows, of.columns) in
            rw (e, loaded.right y (rw of.rows ly)) of.is_right;
      }

-- ---- the words put together with those above and below

-- the levels of the entries up to `end`, but for the first and the last
abbrev pub LevelsOf : List ℕ → List ℕ → ℕ → ℕ → Type 0
LevelsOf entries levels four end =
    (i : ℕ) → i < end - 2 →
    Upright (get_or entries i 0) (get_or entries (i + 1) 0) (get_or entries (i + 2) 0) four (get_or levels (1 + i) 0)

-- a column's entries are inside the frame
column-within : (columns height k y : ℕ) → k < columns → y < stride height →
    (k + 1) * stride height + y + stride height < (columns + 2) * stride height
column-within columns height k y lk ly =
    omega (arith, column-le (stride height) k columns lk, column-next (stride height) columns)

module _ {width height connectivity sides flip : ℕ} {frame : Frame}
    (of : FrameOf width height connectivity sides flip frame) {image entries : List ℕ} (levels : List ℕ)
    (framed : Framed width height sides image entries)
    (lev : LevelsOf entries levels frame.four ((row_words width + 2) * stride height)) where
  -- a column of one value
  levels-flat : (base v : ℕ) → v ≤ 1 → base + stride height ≤ (row_words width + 2) * stride height →
      ((y : ℕ) → y < stride height → Flat v (get_or entries (base + y) 0)) →
      (y : ℕ) → y < height → Flat v (get_or levels (base + 1 + y) 0)
  levels-flat base v small within flat y l j h =
      let at : 1 + (base + y) ≡ base + 1 + y = omega arith in
      let one : base + y + 1 ≡ base + (y + 1) = omega arith in
      let two : base + y + 2 ≡ base + (y + 2) = omega arith in
      let made = rw (at, one, two) at (lev (base + y) (omega arith) j) in
      let a = flat y (omega arith) j h in
      let b = flat (y + 1) (omega arith) j h in
      let c = flat (y + 2) (omega arith) j h in
      made ∙ (rw (a, b, c) (omega arith))

  -- a word's columns, as they count for those beside them
  levels-inside : (k y : ℕ) → k < row_words width → y < height →
      Holds (beside_value width height sides image connectivity y) (word_bits * k + 1)
      (get_or levels ((k + 1) * stride height + 1 + y) 0)
  levels-inside k y lk ly =
      let base = (k + 1) * stride height in
      let at : 1 + (base + y) ≡ base + 1 + y = omega arith in
      let one : base + y + 1 ≡ base + (y + 1) = omega arith in
      let two : base + y + 2 ≡ base + (y + 2) = omega arith in
      let within = column-within (row_words width) height k y lk (omega arith) in
      let made = rw (at, one, two) at (lev (base + y) (omega (arith, within))) in
      beside_value-upright width height sides image connectivity k y _ _ _ frame.four _ ly
      (framed.inside k y lk (omega arith)) (framed.inside k (y + 1) lk (omega arith))
      (framed.inside k (y + 2) lk (omega arith)) of.is_four made

  -- by 4 they are the words themselves
  levels-four : connectivity ≡ 4 → (k y : ℕ) → k < row_words width → y < stride height → (j : ℕ) →
      j < word_bits →
      bit_at word_bits (get_or levels ((k + 1) * stride height + y) 0) j
      ≡ bit_at word_bits (get_or entries ((k + 1) * stride height + y) 0) j
  levels-four four k y lk ly j l =
      let base = (k + 1) * stride height in
      let within = column-within (row_words width) height k y lk ly in
      let first : stride height ≤ base = column-first (stride height) k in
      let here : base + y - 1 + 1 ≡ base + y = omega (arith, first) in
      let at : 1 + (base + y - 1) ≡ base + y = omega (arith, first) in
      let made = rw (at, here) at (lev (base + y - 1) (omega (arith, within, first)) j) in
      let alone : bit_at word_bits frame.four j ≡ 1 = of.is_four j l ∙ rw four in
      let small = bit-le-one (get_or entries (base + y) 0) j in
      made ∙ (rw alone (omega arith))

  -- what stands round a word
  pub levels-round : ((i : ℕ) → get_or image i 0 ≤ 1) → (k y : ℕ) → k < row_words width → y < height →
      LevelsRound width height sides image connectivity k y (get_or levels (k * stride height + 1 + y) 0)
      (get_or levels (k * stride height + 1 + y + stride height - 1) 0)
      (get_or levels (k * stride height + 1 + y + stride height) 0)
      (get_or levels (k * stride height + 1 + y + stride height + 1) 0)
      (get_or levels (k * stride height + 1 + y + stride height + stride height) 0) frame.eight
  levels-round bits k y lk ly =
      let s = stride height in
      let next : (k + 1) * s ≡ k * s + s = mul_next s k in
      let here : k * s + 1 + y + s ≡ (k + 1) * s + 1 + y = omega (arith, next) in
      let above : k * s + 1 + y + s - 1 ≡ (k + 1) * s + y = omega (arith, next) in
      let below : k * s + 1 + y + s + 1 ≡ (k + 1) * s + (y + 2) = omega (arith, next) in
      let right : k * s + 1 + y + s + s ≡ (k + 1 + 1) * s + 1 + y = omega (arith, next, mul_next s (k + 1)) in
      rw (above, below, right, here)
      record {
        linking = of.linking;
        bits = bits;
        row = ly;
        is_here = levels-inside k y lk ly;
        is_left = is-left k lk;
        is_right = right-is;
        is_upright = is-upright;
      }
    where
      is-left : (k : ℕ) → k < row_words width →
          bit_at word_bits (get_or levels (k * stride height + 1 + y) 0) 63
          ≡ beside_value width height sides image connectivity y (word_bits * k)
      is-left zero l =
          let none : 0 * stride height + 1 + y ≡ 0 + 1 + y = omega (arith, zero-mul (stride height)) in
          let flat : (y : ℕ) → y < stride height → Flat (bit (has_side sides left_side)) (get_or entries (0 + y) 0) =
          λ y l. rw zero-add (framed.left y l) in
          rw none
          (levels-flat 0 (bit (has_side sides left_side)) (bit_le (has_side sides left_side))
          (omega (arith, column-next (stride height) (row_words width))) flat y ly 63 (omega arith)
          ∙ sym
          (beside_value-outside width height sides image connectivity y (word_bits * 0) (inl (omega arith))
          ∙ place_value-left width height sides image (y + 1) (omega arith) (omega arith)))
      is-left (suc k) l =
          let e : suc k * stride height + 1 + y ≡ (k + 1) * stride height + 1 + y =
          (let o : suc k ≡ k + 1 = omega arith in rw o) in
          let x : word_bits * k + 1 + 63 ≡ word_bits * suc k = omega arith in
          rw (e, ← x) (levels-inside k y (omega arith) ly 63 (omega arith))

      right-is : bit_at word_bits (get_or levels ((k + 1 + 1) * stride height + 1 + y) 0) 0
          ≡ beside_value width height sides image connectivity y (word_bits * k + 1 + word_bits)
      right-is =
          by-eq (k + 1) (row_words width)
          (λ e.
          let behind : width < word_bits * k + 1 + word_bits =
          omega (arith, e, row_units-ge word_bits width (omega arith)) in
          rw e
          (levels-flat ((row_words width + 1) * stride height) (bit (has_side sides right_side))
          (bit_le (has_side sides right_side)) (omega (arith, column-next (stride height) (row_words width)))
          framed.right y ly 0 (omega arith))
          ∙ sym
          (beside_value-outside width height sides image connectivity y (word_bits * k + 1 + word_bits)
          (inr (omega arith, behind))
          ∙ place_value-right width height sides image (word_bits * k + 1 + word_bits) (y + 1) (omega arith) behind
          (omega arith) (omega arith)))
          (λ d.
          let x : word_bits * (k + 1) + 1 + 0 ≡ word_bits * k + 1 + word_bits = omega arith in
          rw x at (levels-inside (k + 1) y (omega arith) ly 0 (omega arith)))

      is-upright : (j : ℕ) → j < word_bits → word_bits * k + j < width →
          max
          (min (bit_at word_bits (get_or levels ((k + 1) * stride height + y) 0) j)
          (bit_at word_bits (get_or levels ((k + 1) * stride height + (y + 2)) 0) j))
          (bit_at word_bits frame.eight j)
          ≡ max
          (min (place_value width height sides image (word_bits * k + 1 + j) y)
          (place_value width height sides image (word_bits * k + 1 + j) (y + 2)))
          (bit (eqb connectivity 8))
      is-upright j l h =
          by-eq connectivity 4
          (λ four.
          ap₂ max
          (ap₂ min
          (levels-four four k y lk (omega arith) j l ∙ framed.inside k y lk (omega arith) j l
          ∙ filled_value-inside width height sides image y (word_bits * k + 1 + j) (omega arith))
          (levels-four four k (y + 2) lk (omega arith) j l ∙ framed.inside k (y + 2) lk (omega arith) j l
          ∙ filled_value-inside width height sides image (y + 2) (word_bits * k + 1 + j) (omega arith)))
          (of.is_eight j l))
          (λ d.
          by-eq connectivity 8
          (λ eight.
          let set : bit_at word_bits frame.eight j ≡ 1 = of.is_eight j l ∙ rw eight in
          let a = bit-le-one (get_or levels ((k + 1) * stride height + y) 0) j in
          let b = place_value-le width height sides image bits (word_bits * k + 1 + j) y in
          rw (set, eight) (omega arith))
          (λ d'. not-both of.linking (rw (ne_eqb connectivity 4 d, ne_eqb connectivity 8 d'))))

-- ---- the frame after an iteration

-- a word inside the frame stands in one place
place_same : (s k i y z : ℕ) → y < s → z < s → (k + 1) * s + y ≡ (i + 1) * s + z → y ≡ z
place_same s k i y z ly lz e =
    sym (digits_mod (k + 1) ly) ∙ ap (λ (v : ℕ). v % s) e ∙ digits_mod (i + 1) lz

-- a pixel as its word in the frame has it
pub framed-pixel : {width height sides : ℕ} {image entries : List ℕ} → Framed width height sides image entries →
    (x y : ℕ) → x < width → y < height →
    get_or image (position width x y) 0
    ≡ bit_at word_bits (get_or entries ((x / 64 + 1) * stride height + (1 + y)) 0) (x % 64)
framed-pixel {width} {height} {sides} {image} {entries} framed x y lx ly =
    let k = x / 64 in
    let lk : x / 64 < row_words width = omega (arith, row_units-ge word_bits width (omega arith)) in
    let at : word_bits * (x / 64) + 1 + x % 64 ≡ x + 1 = omega arith in
    let one : 1 + y ≡ y + 1 = omega arith in
    rw one
    (sym (place_value-inside width height sides image x y lx ly)
    ∙ sym
    ((rw at at (framed.inside (x / 64) (y + 1) lk (omega arith) (x % 64) (omega arith)))
    ∙ filled_value-inside width height sides image (y + 1) (x + 1) (omega arith)))

-- what an iteration leaves of a pixel
pub erode_once-pixel : (width height connectivity sides : ℕ) (image : List ℕ) →
    ((i : ℕ) → get_or image i 0 ≤ 1) → (i : ℕ) →
    i < width * height →
    get_or (erode_once width height connectivity sides image) i 0
    ≡ bit (without_background width height sides image connectivity i)
erode_once-pixel width height connectivity sides image bits i l =
    get_or-erode_once width height connectivity sides image i l
    ∙ pixel (get_or image i 0) (has_neighbour width height connectivity sides 0 image i) (bits i)
    ∙ ap bit (sym (without_background-is width height sides image connectivity i))
  where
    pixel : (v : ℕ) (t : Bool) → v ≤ 1 → cond (eqb v 1 && t) 0 v ≡ bit (eqb v 1 && not t)
    pixel zero t h = refl
    pixel (suc zero) true h = refl
    pixel (suc zero) false h = refl
    pixel (suc (suc v)) t h = absurd (omega arith)

-- the rows above and below the crop do not depend on the image
filled_value-cap : (width height sides : ℕ) (image image' : List ℕ) (y x : ℕ) → 1 ≤ x →
    (y ≡ 0) ⊎ (height < y) →
    filled_value width height sides image y x ≡ filled_value width height sides image' y x
filled_value-cap width height sides image image' y x pos cap =
    by-lt width x
    (λ h.
    filled_value-behind width height sides image y x h ∙ sym (filled_value-behind width height sides image' y x h))
    (λ h.
    filled_value-inside width height sides image y x h ∙ go cap h
    ∙ sym (filled_value-inside width height sides image' y x h))
  where
    go : (y ≡ 0) ⊎ (height < y) → x ≤ width →
        place_value width height sides image x y ≡ place_value width height sides image' x y
    go (inl e) h =
        rw e
        (place_value-top width height sides image x pos h ∙ sym (place_value-top width height sides image' x pos h))
    go (inr l) h =
        place_value-bottom width height sides image x y pos h (omega arith) l
        ∙ sym (place_value-bottom width height sides image' x y pos h (omega arith) l)

module _ {width height connectivity sides flip : ℕ} {frame : Frame}
    (of : FrameOf width height connectivity sides flip frame) {image entries entries' : List ℕ} (levels : List ℕ)
    (bits : (i : ℕ) → get_or image i 0 ≤ 1) (framed : Framed width height sides image entries)
    (lev : LevelsOf entries levels frame.four ((row_words width + 2) * stride height))
    (done : Columns
    (λ k. ErodedAt levels (k * stride height + 1) (stride height) frame.eight (keep_at frame k) (fill_at frame k))
    (λ i y. (i + 1) * stride height + 1 + y) (row_words width) height entries entries') where
  -- the image after the iteration
  abbrev after : List ℕ
  after = erode_once width height connectivity sides image

  -- a word of a row
  row-stepped : (k y : ℕ) → k < row_words width → y < height →
      Holds (filled_value width height sides after (y + 1)) (word_bits * k + 1)
      (get_or entries' ((k + 1) * stride height + 1 + y) 0)
  row-stepped k y lk ly j l =
      let x = word_bits * k + j in
      let x1 : word_bits * k + 1 + j ≡ x + 1 = omega arith in
      let column : k < frame.columns = rw of.columns lk in
      let made = done.each k y lk ly width height sides image connectivity k y
      (levels-round of levels framed lev bits k y lk ly) (mask_at of k column) j l in
      made
      ∙ by-lt x width
      (λ h.
      rw (lt-ltb x width h, x1)
      (sym (erode_once-pixel width height connectivity sides image bits (position width x y) (position-lt h ly))
      ∙ sym
      (filled_value-inside width height sides after (y + 1) (x + 1) (omega arith)
      ∙ place_value-inside width height sides after x y h ly)))
      (λ h.
      rw (le-ltb x width h, x1) (sym (filled_value-behind width height sides after (y + 1) (x + 1) (omega arith))))

  -- the row above the first and the row below the last
  cap-stepped : (k y : ℕ) → k < row_words width → y < stride height → (y ≡ 0) ⊎ (height < y) →
      Holds (filled_value width height sides after y) (word_bits * k + 1)
      (get_or entries' ((k + 1) * stride height + y) 0)
  cap-stepped k y lk ly cap j l =
      let same : get_or entries' ((k + 1) * stride height + y) 0 ≡ get_or entries ((k + 1) * stride height + y) 0 =
      done.others ((k + 1) * stride height + y)
      (λ i z li lz e.
      let o : (i + 1) * stride height + 1 + z ≡ (i + 1) * stride height + (1 + z) = omega arith in
      apart z lz (place_same (stride height) k i y (1 + z) ly (omega arith) (e ∙ o)) cap) in
      rw same
      (framed.inside k y lk ly j l
      ∙ filled_value-cap width height sides image after y (word_bits * k + 1 + j) (omega arith) cap)
    where
      apart : (z : ℕ) → z < height → y ≡ 1 + z → (y ≡ 0) ⊎ (height < y) → ⊥
      apart z lz e (inl n) = omega arith
      apart z lz e (inr n) = omega arith

  pub framed-stepped : Framed width height sides after entries'
  framed-stepped =
      record {
        inside =
            λ k y lk ly.
            by-eq y 0 (λ e. cap-stepped k y lk ly (inl e))
            (λ d.
            by-lt height y (λ h. cap-stepped k y lk ly (inr h))
            (λ h.
            let e : y - 1 + 1 ≡ y = omega arith in
            let at : (k + 1) * stride height + 1 + (y - 1) ≡ (k + 1) * stride height + y = omega arith in
            rw (e, at) at (row-stepped k (y - 1) lk (omega arith))));
        left =
            λ y ly.
            rw (done.others y (λ i z li lz e. omega (arith, e, column-first (stride height) i))) (framed.left y ly);
        right =
            λ y ly.
            rw
            (done.others ((row_words width + 1) * stride height + y)
            (λ i z li lz e. omega (arith, e, column-le (stride height) i (row_words width) li)))
            (framed.right y ly);
      }

  -- no word changed exactly if no pixel did
  pub stepped_same : length image ≡ width * height → Units word_bits entries → Units word_bits entries' →
      ((k : ℕ) → k < row_words width → Same ((k + 1) * stride height + 1) height entries entries')
      ↔ (after ≡ image)
  stepped_same size small small' = (
    λ same.
        ext_get_or 0 after image (length-erode_once width height connectivity sides image ∙ sym size)
        (λ i l.
        let li : i < width * height = omega (arith, l, length-erode_once width height connectivity sides image) in
        let wide : 0 < width = width-pos width height li in
        let x = column width i in
        let y = row width i in
        let lx = column-lt width i wide in
        let ly = row_lt width height i wide li in
        let lk : x / 64 < row_words width = omega (arith, lx, row_units-ge word_bits width (omega arith)) in
        let at : (x / 64 + 1) * stride height + 1 + y ≡ (x / 64 + 1) * stride height + (1 + y) = omega arith in
        let word = rw at at (same (x / 64) lk y ly) in
        rw (position-column-row width i) at
        (framed-pixel framed-stepped x y lx ly
        ∙ ap (λ (w : ℕ). bit_at word_bits w (x % 64)) word
        ∙ sym (framed-pixel framed x y lx ly))),
    λ e k lk y ly.
        let at : (k + 1) * stride height + 1 + y ≡ (k + 1) * stride height + (y + 1) = omega arith in
        rw at
        (bits-same word_bits _ _ (small' _) (small _)
        (λ j l.
        framed-stepped.inside k (y + 1) lk (omega arith) j l
        ∙ ap (λ (xs : List ℕ). filled_value width height sides xs (y + 1) (word_bits * k + 1 + j)) e
        ∙ sym (framed.inside k (y + 1) lk (omega arith) j l))),
  )

-- ---- column by column

-- the first k columns of a frame are stepped, of `rows` words each
abbrev pub SteppedColumns : Frame → List ℕ → ℕ → ℕ → List ℕ → List ℕ → Type 0
SteppedColumns frame levels rows k entries entries' =
    Columns
    (λ i. ErodedAt levels (i * stride rows + 1) (stride rows) frame.eight (keep_at frame i) (fill_at frame i))
    (λ i y. (i + 1) * stride rows + 1 + y) k rows entries entries'

-- and `moved` is 0 exactly if none of their words changed
abbrev pub MovedColumns : ℕ → ℕ → List ℕ → List ℕ → ℕ → Type 0
MovedColumns rows k entries entries' moved =
    (moved ≡ 0) ↔ ((i : ℕ) → i < k → Same ((i + 1) * stride rows + 1) rows entries entries')

-- one column more
pub step-more : (frame : Frame) (levels : List ℕ) {entries entries' entries'' : List ℕ} {moved r : ℕ}
    (rows k from keep fill : ℕ) → from ≡ k * stride rows + 1 → keep ≡ keep_at frame k →
    fill ≡ fill_at frame k →
    SteppedColumns frame levels rows k entries entries' → MovedColumns rows k entries entries' moved →
    Written (ErodedAt levels from (stride rows) frame.eight keep fill)
    (from + stride rows) 1 rows entries' entries'' →
    ((r ≡ 0) ↔ Same (from + stride rows) rows entries' entries'') →
    SteppedColumns frame levels rows (k + 1) entries entries''
    × MovedColumns rows (k + 1) entries entries'' (bit_or moved r)
step-more frame levels rows k from keep fill is_from is_keep is_fill c before w here =
    let at : from + stride rows ≡ (k + 1) * stride rows + 1 = omega (arith, is_from, mul_next (stride rows) k) in
    let written = rw (at, is_from, is_keep, is_fill) at w in (
      frame-more (stride rows) 1 rows k ((k + 1) * stride rows + 1) (omega arith) refl c written,
      moved_more (stride rows) rows k (omega arith) c written before (rw at at here),
    )

-- all columns
pub step-whole : {frame : Frame} {entries entries' levels levels₀ : List ℕ} {moved : ℕ}
    (rows columns k : ℕ) →
    rows ≡ frame.rows → columns ≡ frame.columns → k ≡ frame.columns →
    Written
    (λ i w. Upright (get_or entries i 0) (get_or entries (i + 1) 0) (get_or entries (i + 2) 0) frame.four w) 1 1
    ((columns + 2) * stride rows - 2) levels₀ levels →
    SteppedColumns frame levels rows k entries entries' → MovedColumns rows k entries entries' moved →
    Units word_bits entries → Units word_bits entries' → Stepped frame entries entries' moved
step-whole {frame} {entries} {entries'} {levels} rows columns k is_rows is_columns is_all written c before small small'
    width height connectivity sides flip image of size bits framed =
    let e_rows : rows ≡ height = is_rows ∙ of.rows in
    let e_columns : columns ≡ row_words width = is_columns ∙ of.columns in
    let e_all : k ≡ row_words width = is_all ∙ of.columns in
    let lev : LevelsOf entries levels frame.four ((row_words width + 2) * stride height) =
    rw (e_rows, e_columns) at (written_at written) in
    let done = rw (e_rows, e_all) at c in
    let iff = rw (e_rows, e_all) at before in
    let same = stepped_same of levels bits framed lev done size small small' in (
      framed-stepped of levels bits framed lev done,
      (λ z. same.0 (iff.0 z), λ e. iff.1 (same.1 e)),
    )
