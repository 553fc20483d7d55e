-- Laws of the band of an image (`Band` and `band_image` in `specs/Crop.antt`): what the whole image has, by its band.
--   band-binary       the band of an image is an image of 0 and 1
--   band-contour      the contour of an image is that of its band, moved down to it
--   band-blank_rows   the rows without an object pixel are those of the band and all others
-- Assumes nothing.
use Prim.Native.Nat.{ℕ, ◌+◌, ◌-◌, ◌*◌, ◌≤◌, ◌<◌}
use mathlib.Core.Path.{◌≡◌, sym, ap, ◌∙◌}
use mathlib.Core.Bool.{Bool, true, false}
use mathlib.Core.List.{List, ◌++◌, append-nil}
use native.Mathlib.Nat.{zero-add, add-zero, zero-mul, suc-mul, add-mul, mul_comm, mul-le-mul_right}
use native.Mathlib.Nat.{div-lt_iff_lt-mul, le-div_iff_mul-le, mul-add-div_right, mul-add-mod_self_right}
use native.Mathlib.Omega.{arith}
use lib.Dec.{eqb}
use lib.ListN.{length, get_or, take, length-map, length-append, get_or-eq_default}
use lib.Seq.{get_or-drop, get_or-take, length-slice}
use Rattle.lists.specs.Lists.{range, count_from, select}
use Rattle.lists.proofs.BoolLaws.{by-eq, by-lt, bool_same}
use Rattle.lists.proofs.ListLaws.{count_from-append, all_same, member-range-lt, select-append}
use Rattle.lists.proofs.ListLaws.{select-count_from-none, length-select-count_from-all, select-count_from-moved}
use Rattle.std.specs.Prelude.{Some}
use Rattle.neighbours.specs.Crop.{Binary, Band, band_image, moved}
use Rattle.neighbours.specs.Grid.{column, row, position, across, down, placed, neighbour, neighbour_at, Adjacent}
use Rattle.neighbours.specs.Contour.{on_contour, contour}
use Rattle.neighbours.specs.BlankRows.{is_blank_row, blank_row_count}
use Rattle.neighbours.proofs.PositionLaws.{row_lt, width-pos, row_within, Placed, at-placed}
use Rattle.neighbours.proofs.DirectionLaws.{down_le}
use Rattle.neighbours.proofs.GridLaws.{adjacent-placed, adjacent-lt}
use Rattle.neighbours.proofs.ContourLaws.{on_contour-background, on_contour-iff}
use Rattle.neighbours.proofs.BlankRowLaws.{is_blank_row-iff}

-- ---- a range in three parts

module _ (f : ℕ → Bool) (a n m : ℕ) where
  -- the numbers selected before, between and behind
  select-parts :
      select f (range (a + n + m))
      ≡ select f (range a) ++ select f (count_from a n) ++ select f (count_from (a + n) m)
  select-parts =
      ap (select f) (count_from-append 0 (a + n) m ∙ rw (count_from-append 0 a n, zero-add a, zero-add (a + n)))
      ∙ select-append f (range a ++ count_from a n) (count_from (a + n) m)
      ∙ rw select-append

  -- only those between, where each fails before and behind
  select-between : ((k : ℕ) → k < a → f k ≡ false) → ((k : ℕ) → a + n ≤ k → f k ≡ false) →
      select f (range (a + n + m)) ≡ select f (count_from a n)
  select-between before behind =
      let none = select-count_from-none f 0 a (λ k _ l. before k (omega arith)) in
      let rest = select-count_from-none f (a + n) m (λ k l _. behind k l) in
      select-parts ∙ rw (none, rest, append-nil)

  -- those between and all others, where each passes before and behind
  length-select-between : ((k : ℕ) → k < a → f k ≡ true) → ((k : ℕ) → a + n ≤ k → f k ≡ true) →
      length (select f (range (a + n + m))) ≡ a + length (select f (count_from a n)) + m
  length-select-between before behind =
      let every = length-select-count_from-all f 0 a (λ k _ l. before k (omega arith)) in
      let rest = length-select-count_from-all f (a + n) m (λ k l _. behind k l) in
      ap length select-parts ∙ rw (length-append, length-append, every, rest)

-- ---- some rows of a crop

-- the pixels before row b are those before row a and those of the rows from a on
rows-between : (width a b : ℕ) → a ≤ b → a * width + width * (b - a) ≡ b * width
rows-between width a b l =
    let whole : a + (b - a) ≡ b = omega arith in
    omega (arith, mul_comm width (b - a), add-mul a (b - a) width, ap (λ (n : ℕ). n * width) whole)

-- a pixel `rows` rows further down is in the same column
column-down : (width rows i : ℕ) → column width (rows * width + i) ≡ column width i
column-down width rows i = mul-add-mod_self_right rows width i

-- and its row is further down by as many
row-down : (width rows i : ℕ) → 0 < width → row width (rows * width + i) ≡ rows + row width i
row-down width rows i pos = mul-add-div_right pos rows i

-- `low` rows of a crop, the first of them row `rows`
module _ (width low height rows : ℕ) (fits : rows + low ≤ height) where
  -- a place in them is `rows` rows further down in the crop
  placed-down : (x y : ℕ) {j : ℕ} → Placed width low x y j →
      placed width height x (rows + y) ≡ Some (rows * width + j)
  placed-down x y p =
      let above : rows + y - 1 ≡ rows + (y - 1) = omega arith in
      at-placed width height x (rows + y) p.left p.right (omega arith) (omega arith)
      ∙ ap Some (rw (above, add-mul) (omega (arith, p.here)))

  -- and a place of the crop in one of these rows is a place in them
  placed-up : (x y : ℕ) {j : ℕ} → 1 ≤ y → y ≤ low → Placed width height x (rows + y) j →
      (i : ℕ) × (j ≡ rows * width + i) × (placed width low x y ≡ Some i)
  placed-up x y top bottom p =
      let above : rows + y - 1 ≡ rows + (y - 1) = omega arith in (
        position width (x - 1) (y - 1),
        sym p.here ∙ rw (above, add-mul) (omega arith),
        at-placed width low x y p.left p.right top bottom,
      )

  module _ (connectivity : ℕ) {i : ℕ} (inside : i < width * low) where
    -- a neighbour in these rows is a neighbour in the crop
    adjacent-down : {j : ℕ} → Adjacent width low connectivity i j →
        Adjacent width height connectivity (rows * width + i) (rows * width + j)
    unfolding neighbour neighbour_at
    adjacent-down a =
        let d = a.direction in
        let same-column = column-down width rows i in
        let lower-row = row-down width rows i (width-pos width low inside) in
        let sum : rows + row width i + down d ≡ rows + (row width i + down d) = omega arith in
        let there = placed-down _ _ (adjacent-placed width low connectivity a) in
        record { direction = d; among = a.among; there = rw (same-column, lower-row, sum) there }

    -- and a neighbour in the crop that lies in these rows is a neighbour in them
    adjacent-up : {j : ℕ} (a : Adjacent width height connectivity (rows * width + i) j) →
        1 ≤ row width i + down a.direction → row width i + down a.direction ≤ low →
        (k : ℕ) × (j ≡ rows * width + k) × Adjacent width low connectivity i k
    unfolding neighbour neighbour_at
    adjacent-up {j} a top bottom =
        let d = a.direction in
        let same-column = column-down width rows i in
        let lower-row = row-down width rows i (width-pos width low inside) in
        let sum : rows + row width i + down d ≡ rows + (row width i + down d) = omega arith in
        let p : Placed width height (column width i + across d) (rows + (row width i + down d)) j =
        rw (same-column, lower-row, sum) at (adjacent-placed width height connectivity a) in
        let (k, here, there) = placed-up _ _ top bottom p in
        (k, here, record { direction = d; among = a.among; there = there })

-- ---- the band

module _ {width height : ℕ} {image : List ℕ} {top end : ℕ} (band : Band width height image top end) where
  -- a pixel of the band is the image's, further down by the rows above the band
  get_or-band : (i : ℕ) → i < width * (end - top) →
      get_or (band_image width top end image) i 0 ≡ get_or image (top * width + i) 0
  get_or-band i l =
      let rows = rows-between width top end (omega arith) in
      get_or-drop (top * width) (take (end * width) image) i 0
      ∙ get_or-take (end * width) image (top * width + i) 0 (omega arith)

  -- above the band stands no object pixel
  above-band : (i : ℕ) → i < top * width → get_or image i 0 ≡ 0
  above-band i l =
      by-eq top 0 (λ none. absurd (omega (arith, zero-mul width, rw none at l)))
      (λ some. band.above (omega arith) i (omega (arith, suc-mul top width)))

  -- so none stands in a row above it
  is_blank_row-above : (y : ℕ) → y < top → is_blank_row width image y ≡ true
  is_blank_row-above y l =
      (is_blank_row-iff width image y).1
      (λ x left. above-band (position width x y) (omega (arith, row_within width l, mul_comm width top)))

  -- a row of the band is blank exactly if it is in the image
  is_blank_row-band : (y : ℕ) → y < end - top →
      is_blank_row width image (top + y) ≡ is_blank_row width (band_image width top end image) y
  unfolding is_blank_row
  is_blank_row-band y l =
      all_same _ _ (range width)
      (λ x m.
      let left = member-range-lt x width m in
      let down : position width x (top + y) ≡ top * width + position width x y = omega (arith, add-mul top y width) in
      let here = get_or-band (position width x y) (omega (arith, row_within width l)) in
      ap (λ (v : ℕ). eqb v 0) (ap (λ (n : ℕ). get_or image n 0) down ∙ sym here))

  module _ (i : ℕ) (inside : i < width * (end - top)) where
    -- the band has a pixel, so the width is not 0
    pos : 0 < width
    pos = width-pos width (end - top) inside

    -- an object pixel of the band is not in its first row, where rows are left out above
    object-below : get_or image (top * width + i) 0 ≡ 1 → 0 < top → 1 ≤ row width i
    object-below object some =
        (le-div_iff_mul-le pos).1
        (by-lt i width
        (λ l. absurd (omega (arith, band.above some (top * width + i) (omega (arith, suc-mul top width)))))
        (λ l. omega arith))

    -- nor in its last, where rows are left out below
    object-above : get_or image (top * width + i) 0 ≡ 1 → end < height → row width i + 2 ≤ end - top
    object-above object some =
        let before : top * width + i < (end - 1) * width =
        by-lt (top * width + i) ((end - 1) * width) (λ l. l)
        (λ l. absurd (omega (arith, band.below some (top * width + i) l))) in
        let less : row width (top * width + i) < end - 1 = (div-lt_iff_lt-mul pos).1 before in
        omega (arith, row-down width top i pos)

    -- so its neighbours in the image are in the band
    adjacent-band : (connectivity : ℕ) {j : ℕ} → get_or image (top * width + i) 0 ≡ 1 →
        Adjacent width height connectivity (top * width + i) j →
        (k : ℕ) × (j ≡ top * width + k) × Adjacent width (end - top) connectivity i k
    adjacent-band connectivity object a =
        let d = a.direction in
        let fits : top + (end - top) ≤ height = omega arith in
        let p = adjacent-placed width height connectivity a in
        let here = row-down width top i pos in
        let low = row_lt width (end - top) i pos inside in
        let first : 1 ≤ row width i + down d =
        by-eq top 0 (λ none. omega arith) (λ some. omega (arith, object-below object (omega arith))) in
        let last : row width i + down d ≤ end - top =
        by-lt end height (λ some. omega (arith, object-above object some, down_le d)) (λ none. omega arith) in
        adjacent-up width (end - top) height top fits connectivity inside a first last

    -- a pixel of the band is on its contour exactly if it is on the image's
    on_contour-band :
        on_contour width height image (top * width + i)
        ≡ on_contour width (end - top) (band_image width top end image) i
    on_contour-band =
        let whole = on_contour-iff width height image (top * width + i) in
        let part = on_contour-iff width (end - top) (band_image width top end image) i in
        bool_same _ _
        (λ e.
        let (object, beside) = whole.0 e in
        let (j, a, background) = beside in
        let (k, here, b) = adjacent-band 4 object a in
        let same = get_or-band k (adjacent-lt width (end - top) 4 b) ∙ ap (λ (n : ℕ). get_or image n 0) (sym here) in
        part.1 (get_or-band i inside ∙ object, (k, b, same ∙ background)))
        (λ e.
        let (object, beside) = part.0 e in
        let (j, a, background) = beside in
        let b = adjacent-down width (end - top) height top (omega arith) 4 inside a in
        let same = sym (get_or-band j (adjacent-lt width (end - top) 4 a)) in
        whole.1 (sym (get_or-band i inside) ∙ object, (top * width + j, b, same ∙ background)))

  module _ (binary : Binary width height image) where
    -- below the band stands no object pixel
    below-band : (i : ℕ) → end * width ≤ i → get_or image i 0 ≡ 0
    below-band i l =
        by-lt end height
        (λ some. band.below some i (omega (arith, mul-le-mul_right {m = end - 1} {n = end} width (omega arith))))
        (λ none.
        let last : end ≡ height = omega arith in
        get_or-eq_default image 0 (omega (arith, mul_comm width height, ap (λ (n : ℕ). n * width) last)))

    -- so none stands in a row below it
    is_blank_row-below : (y : ℕ) → end ≤ y → is_blank_row width image y ≡ true
    is_blank_row-below y l =
        (is_blank_row-iff width image y).1
        (λ x left. below-band (position width x y) (omega (arith, mul-le-mul_right width l)))

    -- the band of an image is an image of 0 and 1
    pub band-binary : Binary width (end - top) (band_image width top end image)
    band-binary =
        let rows = rows-between width top end (omega arith) in
        let rest = rows-between width end height (omega arith) in
        let size : length (band_image width top end image) ≡ width * (end - top) =
        length-slice (top * width) (end * width) image (omega (arith, mul_comm width height)) ∙ omega arith in
        record {
          pixels = size;
          bits = λ i.
              by-lt i (width * (end - top)) (λ l. rw (get_or-band i l) (binary.bits (top * width + i)))
              (λ l. omega (arith, get_or-eq_default (band_image width top end image) 0 {n = i} (omega arith)));
        }

    -- the contour of an image is that of its band, moved down to it
    pub band-contour :
        contour width height image
        ≡ moved (top * width) (contour width (end - top) (band_image width top end image))
    unfolding contour
    band-contour =
        let f = on_contour width height image in
        let n = width * (end - top) in
        let off = on_contour-background width height image in
        let rows = rows-between width top end (omega arith) in
        let rest = rows-between width end height (omega arith) in
        let size : width * height ≡ top * width + n + width * (height - end) = omega (arith, mul_comm width height) in
        ap (λ (k : ℕ). select f (range k)) size
        ∙ select-between f (top * width) n (width * (height - end)) (λ i l. off i (above-band i l))
        (λ i l. off i (below-band i (omega arith)))
        ∙ ap (λ (k : ℕ). select f (count_from k n)) (sym (add-zero (top * width)))
        ∙ select-count_from-moved f _ (top * width) 0 n (λ i _ l. on_contour-band i (omega arith))

    -- the rows without an object pixel are those of the band and all others
    pub band-blank_rows :
        blank_row_count width height image
        ≡ blank_row_count width (end - top) (band_image width top end image) + (height - (end - top))
    unfolding blank_row_count
    band-blank_rows =
        let f = is_blank_row width image in
        let g = is_blank_row width (band_image width top end image) in
        let size : height ≡ top + (end - top) + (height - end) = omega arith in
        let moved = select-count_from-moved f g top 0 (end - top) (λ y _ l. is_blank_row-band y (omega arith)) in
        let same : length (select f (count_from top (end - top))) ≡ length (select g (range (end - top))) =
        ap length (rw add-zero at moved) ∙ length-map (select g (range (end - top))) (λ k. top + k) in
        ap (λ (k : ℕ). length (select f (range k))) size
        ∙ length-select-between f top (end - top) (height - end) is_blank_row-above
        (λ y l. is_blank_row-below y (omega arith))
        ∙ omega arith
