-- Laws of propagation of packed rows (`specs/Propagation.antt`): what growing rows makes of an image.
--   turned-here, -above, -below    the words of a row of an image, and of those next to it
--   grown-round                    what stands round a word
--   RowSame, rows-after            a row is the same in two images; the rows after an iteration
--   row_same, same_row, same-iff   no word changed exactly if no pixel did
--   propagate_once-same            a row depends on itself and the rows next to it
--   iterate-stays                  where an iteration changes nothing, none behind it does
--   run-binary                     the images of a run are of 0 and 1
--   Within, within_step            an image within the mask; an iteration leaves one
--   rests, count-is                a run that comes back has not moved; how many iterations change anything
--   count-first                    the first of them, and the others
--   Progress, Settled              so many iterations are done; the set has the rows that the next one changes
--   progress-none, -more           none, and one more
--   progress-stop, -end            an iteration changed nothing; as many were done as asked
--   settled-none, -more            all rows; those next to a row that changed
--   turned_rows, rows-turned       packed rows turned, and turned back
--   propagated-rows, clean-few     a run from rows to rows; they are few
-- Assumes nothing.
use Prim.Native.Nat.{ℕ, zero, suc, ◌+◌, ◌-◌, ◌*◌, ◌/◌, ◌%◌, ◌≤◌, ◌<◌, min, max}
use mathlib.Core.Path.{◌≡◌, refl, sym, ap, ap₂, ◌∙◌}
use mathlib.Core.Bool.{cond}
use mathlib.Core.List.{List}
use mathlib.Core.Logic.{◌⊎◌, inl, inr, ◌↔◌}
use native.Mathlib.Omega.{arith}
use native.Mathlib.Nat.{zero-add, mul_comm, mod-lt, div-lt_iff_lt-mul, div-add-mod'}
use native.Mathlib.Numerals.{add-one}
use lib.Bits.{bit_xor, differ}
use lib.Dec.{eqb}
use lib.ListN.{length, get_or, get_or-eq_default}
use lib.Seq.{ext_get_or}
use borrow.Author.Tests.{lt-ltb, le-ltb, eq-eqb, ne_eqb}
use Rattle.lists.specs.Lists.{iterate, bit}
use Rattle.lists.proofs.BoolLaws.{by-lt, by-eq, bit_le}
use Rattle.lists.proofs.ListLaws.{any_same}
use Rattle.lists.proofs.IterateLaws.{iterate-suc, iterate-add, iterate-keeps, iterate_fixed, Below, iterate-rest}
use Rattle.neighbours.specs.Crop.{ValidSize, Binary}
use Rattle.neighbours.specs.Grid.{top_side, right_side, bottom_side, left_side, all_sides, has_side, position}
use Rattle.neighbours.specs.Grid.{no_side, column, row, directions, across, down, placed, value_at, beyond}
use Rattle.neighbours.specs.Grid.{has_neighbour}
use Rattle.std.specs.Prelude.{Option, Some, None}
use Rattle.neighbours.specs.Limits.{max_side}
use Rattle.neighbours.specs.Packed.{bit_at, padded_pixel}
use Rattle.neighbours.specs.Words.{word_bits, full_word, max_words, Holds}
use Rattle.neighbours.specs.Words.{place_value, filled_value, beside_value, LevelsRound, without_background}
use Rattle.neighbours.proofs.PackedLaws.{padded_pixel-inside, padded_pixel-behind, padded_pixel-unpacked}
use Rattle.neighbours.proofs.PackedLaws.{Units, packed_pixel-is, row_units-ge, row_units-pos, unpacked-le}
use Rattle.neighbours.proofs.PackedLaws.{unpacked-binary}
use Rattle.neighbours.proofs.PackedLaws.{length-packed, packed_length-is, get_or-packed, packed_unit-is}
use Rattle.neighbours.proofs.PackedLaws.{padded_pixel-le}
use Rattle.neighbours.proofs.BitLaws.{bits-same}
use Rattle.neighbours.proofs.PositionLaws.{position-column-row, column-lt, row_lt, position-lt, width-pos}
use Rattle.neighbours.proofs.PositionLaws.{placed_at}
use Rattle.neighbours.proofs.PlaceLaws.{place_value-inside, place_value-top, place_value-right, place_value-bottom}
use Rattle.neighbours.proofs.PlaceLaws.{place_value-left, neighbour_value-place}
use Rattle.neighbours.proofs.WordLaws.{bit-xor, flat-full, bit-le-one, beside_value-outside, beside_value-upright}
use Rattle.neighbours.proofs.WordLaws.{filled_value-inside, filled_value-behind}
use Rattle.packing.proofs.WordsLaws.{words-most}
use Rattle.model.specs.Steps.{erode_once, dilate_once, propagate_once}
use Rattle.model.specs.Operations.{least_iterations}
use Rattle.model.specs.Words.{row_words, words_length, packed_words, unpacked_words}
use Rattle.theorems.proofs.StepLaws.{length-erode_once, erode_once-bits, get_or-propagate_once, length-propagate_once}
use Rattle.theorems.proofs.StepLaws.{get_or-dilate_once, propagate_once-iff}
use Rattle.theorems.proofs.OperationLaws.{propagate_once-binary, least_iterations-is, least_iterations-le}
use Rattle.theorems.proofs.OperationLaws.{least_iterations-first}
use Rattle.words.specs.Frame.{turned, Written, FrameOf, Clean}
use Rattle.words.specs.declared.Frame.{Frame}
use Rattle.words.proofs.WrittenLaws.{written_at}
use Rattle.words.proofs.TurnedLaws.{differ-one, get_or-turned-one, turned-binary, dilate_once-turned}
use Rattle.words.proofs.FramedLaws.{erode_once-pixel}
use Rattle.propagation.specs.RowSet.{row_bit}
use Rattle.propagation.specs.Propagation.{above_at, here_at, row_at, LevelAt, GrownAt, RowsGrown}
use Rattle.propagation.specs.Propagation.{SameRow, SameRows, Noted, TurnedRows, PropagationOf, once, Propagated}
use Rattle.propagation.proofs.RowSetLaws.{row_bit-le}
use Rattle.propagation.proofs.GrownLaws.{row_next}

-- ---- the rows of an image, turned

-- every side counts as object
side-all : (side : ℕ) →
    (side ≡ top_side) ⊎ ((side ≡ right_side) ⊎ ((side ≡ bottom_side) ⊎ (side ≡ left_side))) →
    bit (has_side all_sides side) ≡ 1
unfolding has_side
side-all side (inl e) = rw e refl
side-all side (inr (inl e)) = rw e refl
side-all side (inr (inr (inl e))) = rw e refl
side-all side (inr (inr (inr e))) = rw e refl

-- so above the first row and below the last everything is
filled_value-beyond : (width height : ℕ) (image : List ℕ) (y x : ℕ) → 1 ≤ x → (y ≡ 0) ⊎ (height < y) →
    filled_value width height all_sides image y x ≡ 1
filled_value-beyond width height image y x pos beyond =
    by-lt width x
    (λ h. filled_value-behind width height all_sides image y x h ∙ side-all right_side (inr (inl refl)))
    (λ h. filled_value-inside width height all_sides image y x h ∙ go beyond h)
  where
    go : (y ≡ 0) ⊎ (height < y) → x ≤ width → place_value width height all_sides image x y ≡ 1
    go (inl e) h = rw e (place_value-top width height all_sides image x pos h ∙ side-all top_side (inl refl))
    go (inr l) h =
        place_value-bottom width height all_sides image x y pos h (omega arith) l
        ∙ side-all bottom_side (inr (inr (inl refl)))

module _ {width height : ℕ} {image words : List ℕ} (binary : Binary width height image)
    (rows : TurnedRows width height image words) where
  -- the words of a row
  turned-here : (k y : ℕ) → k < row_words width → y < height →
      Holds (filled_value width height all_sides (turned 1 image) (y + 1)) (word_bits * k + 1)
      (here_at (row_words width) words y k)
  turned-here k y lk ly j l =
      let x = word_bits * k + j in
      let x1 : word_bits * k + 1 + j ≡ x + 1 = omega arith in
      rows.background k y lk ly j l
      ∙ by-lt x width
      (λ h.
      let there : position width x y < length image = rw binary.pixels (position-lt h ly) in
      rw (x1, padded_pixel-inside width image x y h)
      (sym
      (filled_value-inside width height all_sides (turned 1 image) (y + 1) (x + 1) (omega arith)
      ∙ place_value-inside width height all_sides (turned 1 image) x y h ly
      ∙ get_or-turned-one image binary.bits (position width x y) there)))
      (λ h.
      rw (x1, padded_pixel-behind width image x y h)
      (sym
      (filled_value-behind width height all_sides (turned 1 image) (y + 1) (x + 1) (omega arith)
      ∙ side-all right_side (inr (inl refl)))))

  -- of the row above it
  turned-above : (k y : ℕ) → k < row_words width → y < height →
      Holds (filled_value width height all_sides (turned 1 image) y) (word_bits * k + 1)
      (above_at (row_words width) words y k)
  unfolding above_at
  turned-above k y lk ly j l =
      by-eq y 0
      (λ e.
      rw (eq-eqb y 0 e)
      (flat-full j l
      ∙ sym (filled_value-beyond width height (turned 1 image) y (word_bits * k + 1 + j) (omega arith) (inl e))))
      (λ d.
      let e : y - 1 + 1 ≡ y = omega arith in
      rw (ne_eqb y 0 d) (rw e at (turned-here k (y - 1) lk (omega arith) j l)))

  -- of the row below it
  turned-below : (k y : ℕ) → k < row_words width → y < height →
      Holds (filled_value width height all_sides (turned 1 image) (y + 2)) (word_bits * k + 1)
      (row_at (row_words width) height words (y + 1) k)
  unfolding row_at
  turned-below k y lk ly j l =
      by-lt (y + 1) height
      (λ h.
      let e : y + 1 + 1 ≡ y + 2 = omega arith in
      rw (lt-ltb (y + 1) height h) (rw e at (turned-here k (y + 1) lk h j l)))
      (λ h.
      rw (le-ltb (y + 1) height h)
      (flat-full j l
      ∙ sym
      (filled_value-beyond width height (turned 1 image) (y + 2) (word_bits * k + 1 + j) (omega arith)
      (inr (omega arith)))))

-- ---- what stands round a word

module _ {width height connectivity flip : ℕ} {frame : Frame}
    (of : FrameOf width height connectivity all_sides flip frame) {image words : List ℕ}
    (binary : Binary width height image) (rows : TurnedRows width height image words) where
  -- what a word of a row counts for those beside it
  level_holds : (k y : ℕ) {level : ℕ} → k < row_words width → y < height →
      LevelAt (row_words width) (above_at (row_words width) words y) (here_at (row_words width) words y)
      (row_at (row_words width) height words (y + 1)) frame.four (k + 1) level →
      Holds (beside_value width height all_sides (turned 1 image) connectivity y) (word_bits * k + 1) level
  level_holds k y {level} lk ly is =
      beside_value-upright width height all_sides (turned 1 image) connectivity k y _ _ _ frame.four level ly
      (turned-above binary rows k y lk ly) (turned-here binary rows k y lk ly) (turned-below binary rows k y lk ly)
      of.is_four (is.inside k refl lk)

  -- the words round word k of row y
  grown-round : (k y : ℕ) {mask : ℕ → ℕ} {word : ℕ} → k < row_words width → y < height →
      (g : GrownAt (row_words width) (above_at (row_words width) words y) (here_at (row_words width) words y)
      (row_at (row_words width) height words (y + 1)) mask frame.four frame.eight k word) →
      LevelsRound width height all_sides (turned 1 image) connectivity k y g.left
      (above_at (row_words width) words y k) g.level (row_at (row_words width) height words (y + 1) k) g.right
      frame.eight
  grown-round k y lk ly g =
      record {
        linking = of.linking;
        bits = (turned-binary width height 1 image binary (omega arith)).bits;
        row = ly;
        is_here = level_holds k y lk ly g.is_level;
        is_left = is-left k lk g.is_left;
        is_right = right-is g.is_right;
        is_upright = is-upright;
      }
    where
      is-left : (k : ℕ) {level : ℕ} → k < row_words width →
          LevelAt (row_words width) (above_at (row_words width) words y) (here_at (row_words width) words y)
          (row_at (row_words width) height words (y + 1)) frame.four k level →
          bit_at word_bits level 63 ≡ beside_value width height all_sides (turned 1 image) connectivity y
          (word_bits * k)
      is-left zero l is =
          is.outside (inl refl) 63 (omega arith)
          ∙ sym
          (beside_value-outside width height all_sides (turned 1 image) connectivity y (word_bits * 0)
          (inl (omega arith))
          ∙ place_value-left width height all_sides (turned 1 image) (y + 1) (omega arith) (omega arith)
          ∙ side-all left_side (inr (inr (inr refl))))
      is-left (suc k) l is =
          let one : suc k ≡ k + 1 = omega arith in
          let x : word_bits * k + 1 + 63 ≡ word_bits * suc k = omega arith in
          rw (← x) (level_holds k y (omega arith) ly (rw one at is) 63 (omega arith))

      right-is : {level : ℕ} →
          LevelAt (row_words width) (above_at (row_words width) words y) (here_at (row_words width) words y)
          (row_at (row_words width) height words (y + 1)) frame.four (k + 2) level →
          bit_at word_bits level 0
          ≡ beside_value width height all_sides (turned 1 image) connectivity y (word_bits * k + 1 + word_bits)
      right-is is =
          by-lt (k + 1) (row_words width)
          (λ h.
          let two : k + 2 ≡ k + 1 + 1 = omega arith in
          let x : word_bits * (k + 1) + 1 + 0 ≡ word_bits * k + 1 + word_bits = omega arith in
          rw x at (level_holds (k + 1) y h ly (rw two at is) 0 (omega arith)))
          (λ h.
          let behind : width < word_bits * k + 1 + word_bits =
          omega (arith, h, row_units-ge word_bits width (omega arith)) in
          is.outside (inr (omega arith)) 0 (omega arith)
          ∙ sym
          (beside_value-outside width height all_sides (turned 1 image) connectivity y (word_bits * k + 1 + word_bits)
          (inr (omega arith, behind))
          ∙ place_value-right width height all_sides (turned 1 image) (word_bits * k + 1 + word_bits) (y + 1)
          (omega arith) behind (omega arith) (omega arith)
          ∙ side-all right_side (inr (inl refl))))

      is-upright : (j : ℕ) → j < word_bits → word_bits * k + j < width →
          max
          (min (bit_at word_bits (above_at (row_words width) words y k) j)
          (bit_at word_bits (row_at (row_words width) height words (y + 1) k) j))
          (bit_at word_bits frame.eight j)
          ≡ max
          (min (place_value width height all_sides (turned 1 image) (word_bits * k + 1 + j) y)
          (place_value width height all_sides (turned 1 image) (word_bits * k + 1 + j) (y + 2)))
          (bit (eqb connectivity 8))
      is-upright j l h =
          ap₂ max
          (ap₂ min
          (turned-above binary rows k y lk ly j l
          ∙ filled_value-inside width height all_sides (turned 1 image) y (word_bits * k + 1 + j) (omega arith))
          (turned-below binary rows k y lk ly j l
          ∙ filled_value-inside width height all_sides (turned 1 image) (y + 2) (word_bits * k + 1 + j) (omega arith)))
          (of.is_eight j l)

-- ---- an iteration

-- a bit of packed rows is the pixel there, 0 behind the row's end
clean-bit : {width height : ℕ} {words : List ℕ} → Clean width height words → (k y : ℕ) →
    k < row_words width → y < height → (j : ℕ) → j < word_bits →
    bit_at word_bits (here_at (row_words width) words y k) j
    ≡ padded_pixel width (unpacked_words width height words) (word_bits * k + j) y
clean-bit {width} {height} {words} clean k y lk ly j l =
    let q : (word_bits * k + j) / 64 ≡ k = omega arith in
    let r : (word_bits * k + j) % 64 ≡ j = omega arith in
    sym
    (padded_pixel-unpacked word_bits width height words clean.clear (word_bits * k + j) y (omega arith) ly
    ∙ packed_pixel-is word_bits width words (word_bits * k + j) y
    ∙ rw (q, r) refl)

-- what is not in the mask is set
masked : (mask kept : ℕ) → mask ≤ 1 → kept ≤ 1 →
    max kept (differ mask 1) ≡ 1 - cond (eqb mask 1) (1 - kept) 0
masked zero kept l h = omega arith
masked (suc zero) kept l h = omega arith
masked (suc (suc mask)) kept l h = absurd (omega arith)

-- the row is the same in both images
abbrev pub RowSame : ℕ → List ℕ → List ℕ → ℕ → Type 0
RowSame width image image' y =
    (x : ℕ) → x < width → get_or image' (position width x y) 0 ≡ get_or image (position width x y) 0

module _ {width height connectivity flip : ℕ} {frame : Frame}
    (of : FrameOf width height connectivity all_sides flip frame) {image words mask : List ℕ}
    (binary : Binary width height image) (rows : TurnedRows width height image words)
    (clean : Clean width height mask) where
  -- the image after it
  abbrev after : List ℕ
  after = propagate_once width height connectivity (unpacked_words width height mask) image

  -- a pixel of it
  after-pixel : (i : ℕ) → i < width * height →
      1 - get_or after i 0
      ≡ max (bit (without_background width height all_sides (turned 1 image) connectivity i))
      (differ (get_or (unpacked_words width height mask) i 0) 1)
  after-pixel i l =
      let t = turned 1 image in
      let bits = (turned-binary width height 1 image binary (omega arith)).bits in
      let eroded = erode_once width height connectivity all_sides t in
      let size = length-erode_once width height connectivity all_sides t in
      let kept = erode_once-pixel width height connectivity all_sides t bits i l in
      let dilated : get_or (dilate_once width height connectivity image) i 0
      ≡ 1 - bit (without_background width height all_sides t connectivity i) =
      ap (λ (xs : List ℕ). get_or xs i 0) (dilate_once-turned width height connectivity image binary)
      ∙ get_or-turned-one eroded (erode_once-bits width height connectivity all_sides t bits) i (omega (arith, size))
      ∙ ap (λ (v : ℕ). 1 - v) kept in
      sym
      (masked (get_or (unpacked_words width height mask) i 0)
      (bit (without_background width height all_sides t connectivity i)) (unpacked-le word_bits width height mask i)
      (bit_le (without_background width height all_sides t connectivity i))
      ∙ ap (λ (v : ℕ). 1 - v)
      (sym
      (get_or-propagate_once width height connectivity (unpacked_words width height mask) image i l ∙ rw dilated refl)))

  -- the rows of it
  pub rows-after : {set words' : List ℕ} →
      RowsGrown set (row_words width) height words mask frame.four frame.eight words' →
      ((y : ℕ) → y < height →
      (row_bit set (y + 1) ≡ 1) ⊎ ((row_bit set (y + 1) ≡ 0) × RowSame width image after y)) →
      TurnedRows width height after words'
  rows-after {set} {words'} g settled =
      record { background = λ k y lk ly j l. go k y lk ly j l (settled y ly) }
    where
      go : (k y : ℕ) → k < row_words width → y < height → (j : ℕ) → j < word_bits →
          (row_bit set (y + 1) ≡ 1) ⊎ ((row_bit set (y + 1) ≡ 0) × RowSame width image after y) →
          bit_at word_bits (here_at (row_words width) words' y k) j ≡ 1 - padded_pixel width after (word_bits * k + j) y
      go k y lk ly j l (inl e) =
          let x = word_bits * k + j in
          let word = g.grown y k ly lk e in
          let bit-of = clean-bit clean k y lk ly j l in
          by-lt x width
          (λ h.
          word.grown.inside width height (turned 1 image) connectivity k y
          (grown-round of binary rows k y lk ly word) j l h
          ∙ rw (
            bit-of,
            padded_pixel-inside width (unpacked_words width height mask) x y h,
            padded_pixel-inside width after x y h,
          )
          (sym (after-pixel (position width x y) (position-lt h ly))))
          (λ h.
          word.grown.behind j l (bit-of ∙ padded_pixel-behind width (unpacked_words width height mask) x y h)
          ∙ rw (padded_pixel-behind width after x y h) refl)
      go k y lk ly j l (inr e) =
          let x = word_bits * k + j in
          rw (g.kept y k ly lk e.0)
          (rows.background k y lk ly j l
          ∙ by-lt x width
          (λ h.
          rw (padded_pixel-inside width after x y h, padded_pixel-inside width image x y h)
          (ap (λ (v : ℕ). 1 - v) (sym (e.1 x h))))
          (λ h. rw (padded_pixel-behind width after x y h, padded_pixel-behind width image x y h) refl))

-- ---- what changed

module _ {width height : ℕ} {image image' words words' : List ℕ} (binary : Binary width height image)
    (binary' : Binary width height image') (rows : TurnedRows width height image words)
    (rows' : TurnedRows width height image' words') where
  -- a row whose words are the same is the same
  row_same : (y : ℕ) → y < height → SameRow (row_words width) words words' y → RowSame width image image' y
  row_same y ly same x lx =
      let i = position width x y in
      let lk : x / 64 < row_words width = omega (arith, lx, row_units-ge word_bits width (omega arith)) in
      let at : word_bits * (x / 64) + x % 64 ≡ x = omega arith in
      let old = rw (at, padded_pixel-inside width image x y lx) at
      (rows.background (x / 64) y lk ly (x % 64) (omega arith)) in
      let new = rw (at, padded_pixel-inside width image' x y lx) at
      (rows'.background (x / 64) y lk ly (x % 64) (omega arith)) in
      let word = ap (λ (w : ℕ). bit_at word_bits w (x % 64)) (same (x / 64) lk) in
      omega (arith, old, new, word, binary.bits i, binary'.bits i)

  -- and the other way round
  same_row : Units word_bits words → Units word_bits words' → (y : ℕ) → y < height →
      RowSame width image image' y → SameRow (row_words width) words words' y
  same_row small small' y ly same k lk =
      bits-same word_bits _ _ (small' _) (small _)
      (λ j l.
      let x = word_bits * k + j in
      rows'.background k y lk ly j l
      ∙ by-lt x width
      (λ h.
      rw (padded_pixel-inside width image x y h, padded_pixel-inside width image' x y h, same x h) refl)
      (λ h. rw (padded_pixel-behind width image x y h, padded_pixel-behind width image' x y h) refl)
      ∙ sym (rows.background k y lk ly j l))

  -- no word changed exactly if no pixel did
  same-iff : Units word_bits words → Units word_bits words' →
      SameRows (row_words width) height words words' ↔ (image' ≡ image)
  same-iff small small' = (
    λ same.
        ext_get_or 0 image' image (binary'.pixels ∙ sym binary.pixels)
        (λ i l.
        let li : i < width * height = omega (arith, l, binary'.pixels) in
        let wide : 0 < width = width-pos width height li in
        let ly = row_lt width height i wide li in
        rw (position-column-row width i) at
        (row_same (row width i) ly (same (row width i) ly) (column width i) (column-lt width i wide))),
    λ e y ly. same_row small small' y ly (λ x lx. ap (λ (xs : List ℕ). get_or xs (position width x y) 0) e),
  )

-- ---- a row depends on itself and the rows next to it

-- a direction leads at most one row down
down_le : (d : ℕ) → down d ≤ 2
unfolding down
down_le zero = omega arith
down_le (suc zero) = omega arith
down_le (suc (suc zero)) = omega arith
down_le (suc (suc (suc zero))) = omega arith
down_le (suc (suc (suc (suc zero)))) = omega arith
down_le (suc (suc (suc (suc (suc zero))))) = omega arith
down_le (suc (suc (suc (suc (suc (suc zero)))))) = omega arith
down_le (suc (suc (suc (suc (suc (suc (suc zero))))))) = omega arith
down_le (suc (suc (suc (suc (suc (suc (suc (suc d)))))))) = omega arith

-- the value at a place whose row is the same, counted from one
place_same : (width height sides : ℕ) (image image' : List ℕ) (x y : ℕ) →
    (1 ≤ y → y ≤ height → RowSame width image image' (y - 1)) →
    place_value width height sides image' x y ≡ place_value width height sides image x y
unfolding place_value value_at
place_same width height sides image image' x y same = go (placed width height x y) refl
  where
    go : (place : Option ℕ) → placed width height x y ≡ place →
        value_at (beyond width height sides x y) image' place ≡ value_at (beyond width height sides x y) image place
    go (Some j) e =
        let p = placed_at width height x y e in
        rw (← p.here) (same p.top p.bottom (x - 1) (omega (arith, p.left, p.right)))
    go None e = refl

module _ (width height connectivity : ℕ) (mask image image' : List ℕ) (y : ℕ) (ly : y < height)
    (same : (z : ℕ) → z < height → z ≤ y + 1 → y ≤ z + 1 → RowSame width image image' z) where
  -- what is next to a pixel of the row
  has_neighbour-same : (sides value x : ℕ) → x < width →
      has_neighbour width height connectivity sides value image' (position width x y)
      ≡ has_neighbour width height connectivity sides value image (position width x y)
  unfolding has_neighbour
  has_neighbour-same sides value x lx =
      any_same _ _ (directions connectivity)
      (λ d.
      ap (λ (v : ℕ). eqb v value)
      (neighbour_value-place width height sides image' y d lx
      ∙ place_same width height sides image image' (x + across d) (y + down d)
      (λ top low. same (y + down d - 1) (omega arith) (omega (arith, down_le d)) (omega arith))
      ∙ sym (neighbour_value-place width height sides image y d lx)))

  -- so an iteration leaves the same of the row
  propagate_once-same : RowSame width (propagate_once width height connectivity mask image)
      (propagate_once width height connectivity mask image') y
  propagate_once-same x lx =
      let i = position width x y in
      let li : position width x y < width * height = position-lt lx ly in
      get_or-propagate_once width height connectivity mask image' i li
      ∙ rw (
        get_or-dilate_once width height connectivity image' i li,
        has_neighbour-same no_side 1 x lx,
        same y ly (omega arith) (omega arith) x lx,
        ← (get_or-dilate_once width height connectivity image i li),
      )
      (sym (get_or-propagate_once width height connectivity mask image i li))

-- ---- how many iterations change anything

-- where one changes nothing, none behind it does
pub iterate-stays : (f : List ℕ → List ℕ) (image : List ℕ) (k n : ℕ) → k ≤ n →
    iterate f (suc k) image ≡ iterate f k image → iterate f n image ≡ iterate f k image
iterate-stays f image k n l e =
    let d : k + (n - k) ≡ n = omega arith in
    rw d at (iterate-add f k (n - k) image ∙ iterate_fixed f (n - k) _ (sym (iterate-suc f k image) ∙ e))

module _ (width height connectivity : ℕ) (mask : List ℕ) where
  -- an iteration
  abbrev f : List ℕ → List ℕ
  f = propagate_once width height connectivity mask

  -- its images are of 0 and 1
  pub run-binary : (image : List ℕ) → Binary width height image → (n : ℕ) →
      Binary width height (iterate f n image)
  run-binary image b n =
      iterate-keeps (Binary width height) f (propagate_once-binary width height connectivity mask) n image b

  -- an image within the mask
  pub record Within (image : List ℕ) : Type 0 where
    pub binary : Binary width height image
    pub inside : (i : ℕ) → i < width * height → get_or image i 0 ≡ 1 → get_or mask i 0 ≡ 1

  -- an iteration leaves one, and only adds to it
  pub within_step : (image : List ℕ) → Binary width height image → Within (f image)
  within_step image b =
      record {
        binary = propagate_once-binary width height connectivity mask image b;
        inside = λ i l e. ((propagate_once-iff width height connectivity mask image b.bits i l).0 e).0;
      }

  below_step : (image : List ℕ) → Within image → Below image (f image)
  unfolding Below
  below_step image w = (
    w.binary.pixels ∙ sym (length-propagate_once width height connectivity mask image),
    λ i.
        by-lt i (width * height)
        (λ l.
        by-eq (get_or image i 0) 1
        (λ e.
        let set = (propagate_once-iff width height connectivity mask image w.binary.bits i l).1
        (w.inside i l e, inl e) in
        omega (arith, set, e))
        (λ d. omega (arith, w.binary.bits i)))
        (λ l.
        let out : get_or image i 0 ≡ 0 = get_or-eq_default image 0 (omega (arith, w.binary.pixels)) in
        omega (arith, out)),
  )

  -- a run that comes back has not moved
  pub rests : (image : List ℕ) → Binary width height image → (j n : ℕ) → j < n →
      iterate f j image ≡ iterate f n image → iterate f (suc j) image ≡ iterate f j image
  unfolding iterate
  rests image b j n l e =
      let now = iterate f j image in
      let d = n - suc j in
      let far : j + suc (n - suc j) ≡ n = omega arith in
      let back : now ≡ iterate f (suc d) now = e ∙ rw far at (iterate-add f j (suc d) image) in
      let before = run-binary now (run-binary image b j) d in
      let within : Within now = rw (back ∙ iterate-suc f d now) (within_step (iterate f d now) before) in
      iterate-suc f j image
      ∙ iterate-rest f now
      (λ k.
      rw (iterate-suc f k now)
      (below_step (iterate f k now)
      (iterate-keeps Within f (λ xs w. within_step xs w.binary) k now within)))
      0 (suc d) (omega arith) back

  -- the count of iterations that each changed something, and led where n lead
  pub count-is : (image : List ℕ) → Binary width height image → (n k : ℕ) → k ≤ n →
      iterate f k image ≡ iterate f n image →
      ((j : ℕ) → j < k → iterate f (suc j) image ≡ iterate f j image → ⊥) →
      k ≡ least_iterations f n image
  count-is image b n k l e moved =
      sym (least_iterations-is f n image k l e (λ j h q. moved j h (rests image b j n (omega arith) q)))

  -- the first iteration and the others are counted apart
  pub count-first : (image : List ℕ) → Binary width height image → (n : ℕ) →
      least_iterations (propagate_once width height connectivity mask) (suc n) image
      ≡ least_iterations (propagate_once width height connectivity mask) 1 image
      + least_iterations (propagate_once width height connectivity mask) n
      (propagate_once width height connectivity mask image)
  unfolding iterate
  count-first image b n =
      let first : (m : ℕ) → _ =
      λ m. least_iterations-first f m image (λ e. rests image b 0 (suc m) (omega arith) (sym e)) in
      omega (arith, first n, first 0, least_iterations-le f 0 (f image))

-- ---- the loop

-- the images of a run are of 0 and 1
once-binary : {frame : Frame} {mask words : List ℕ} (p : PropagationOf frame mask words) (k : ℕ) →
    Binary p.width p.height (iterate (once p) k p.image)
once-binary {mask = mask} p k =
    run-binary p.width p.height p.connectivity (unpacked_words p.width p.height mask) p.image
    p.binary k

-- the count of iterations that each changed something, and led where n lead
once-count : {frame : Frame} {mask words : List ℕ} (p : PropagationOf frame mask words) (n k : ℕ) → k ≤ n →
    iterate (once p) k p.image ≡ iterate (once p) n p.image →
    ((j : ℕ) → j < k → iterate (once p) (suc j) p.image ≡ iterate (once p) j p.image → ⊥) →
    k ≡ least_iterations (once p) n p.image
once-count {mask = mask} p =
    count-is p.width p.height p.connectivity (unpacked_words p.width p.height mask) p.image
    p.binary

-- k iterations are done, each of which changed something
abbrev pub Progress : Frame → ℕ → List ℕ → List ℕ → List ℕ → Type 0
Progress frame k mask words words' =
    (p : PropagationOf frame mask words) →
    TurnedRows p.width p.height (iterate (once p) k p.image) words'
    × ((j : ℕ) → j < k → iterate (once p) (suc j) p.image ≡ iterate (once p) j p.image → ⊥)

-- the rows that the next one changes are in the set
abbrev pub Settled : Frame → ℕ → List ℕ → List ℕ → List ℕ → Type 0
Settled frame k mask words set =
    (p : PropagationOf frame mask words) (y : ℕ) → y < p.height →
    (row_bit set (y + 1) ≡ 1)
    ⊎ ((row_bit set (y + 1) ≡ 0)
    × RowSame p.width (iterate (once p) k p.image) (once p (iterate (once p) k p.image)) y)

-- none are done, and all rows are in the set
pub progress-none : (frame : Frame) (mask words : List ℕ) → Progress frame 0 mask words words
unfolding iterate
progress-none frame mask words p = (p.rows, λ j l. absurd (omega arith))

pub settled-none : (frame : Frame) (mask words set : List ℕ) →
    ((n : ℕ) → n ≤ max_side → row_bit set n ≡ 1) → Settled frame 0 mask words set
settled-none frame mask words set full p y ly = inl (full (y + 1) (omega (arith, p.of.valid.low)))

module _ {frame : Frame} {k : ℕ} {mask words words' words'' set : List ℕ}
    (progress : Progress frame k mask words words') (settled : Settled frame k mask words set)
    (g : RowsGrown set frame.columns frame.rows words' mask frame.four frame.eight words'')
    (small : Units word_bits words') (small' : Units word_bits words'') where
  module _ (p : PropagationOf frame mask words) where
    -- the image that the iterations so far gave, and the one after the next
    abbrev now : List ℕ
    now = iterate (once p) k p.image

    abbrev next : List ℕ
    next = once p now

    now-binary : Binary p.width p.height now
    now-binary = once-binary p k

    next-binary : Binary p.width p.height next
    next-binary = propagate_once-binary p.width p.height p.connectivity _ now now-binary

    -- its rows
    next-rows : TurnedRows p.width p.height next words''
    next-rows =
        rows-after p.of now-binary (progress p).0 p.clean (rw (p.of.columns, p.of.rows) at g) (settled p)

    next-same : SameRows frame.columns frame.rows words' words'' ↔ (next ≡ now)
    next-same =
        rw (p.of.columns, p.of.rows)
        (same-iff now-binary next-binary (progress p).0 next-rows small small')

  -- behind it, only rows next to one that changed are changed
  pub settled-more : (set' : List ℕ) → Noted frame.columns frame.rows words' words'' set' →
      Settled frame (k + 1) mask words set'
  settled-more set' noted p y ly =
      by-eq (row_bit set' (y + 1)) 1 (λ e. inl e)
      (λ d.
      let none : row_bit set' (y + 1) ≡ 0 = omega (arith, row_bit-le set' (y + 1)) in
      let beside = propagate_once-same p.width p.height p.connectivity _ (now p) (next p) y ly
      (λ z lz low high.
      row_same (now-binary p) (next-binary p) (progress p).0 (next-rows p) z lz
      (unchanged d z low high ((rw (p.of.columns, p.of.rows) at noted) z lz))) in
      inr (none, rw (add-one k, iterate-suc (once p) k p.image) beside))
    where
      unchanged : {columns : ℕ} → (row_bit set' (y + 1) ≡ 1 → ⊥) → (z : ℕ) → z ≤ y + 1 →
          y ≤ z + 1 →
          SameRow columns words' words'' z ⊎ ((n : ℕ) → z ≤ n → n ≤ z + 2 → row_bit set' n ≡ 1) →
          SameRow columns words' words'' z
      unchanged d z low high (inl same) = same
      unchanged d z low high (inr some) = absurd (d (some (y + 1) (omega arith) (omega arith)))

  -- one that changed something
  pub progress-more : (SameRows frame.columns frame.rows words' words'' → ⊥) →
      Progress frame (k + 1) mask words words''
  progress-more some p =
      let e = iterate-suc (once p) k p.image in
      rw (add-one k) (
        rw e (next-rows p),
        λ j l q.
            by-eq j k (λ here. some ((next-same p).1 (sym e ∙ rw here at q)))
            (λ d. (progress p).1 j (omega arith) q),
      )

  -- one that changed nothing
  pub progress-stop : (n : ℕ) → k < n → SameRows frame.columns frame.rows words' words'' →
      Propagated frame n mask words words'' k
  progress-stop n l none p =
      let rest : next p ≡ now p = (next-same p).0 none in
      let all : iterate (once p) n p.image ≡ now p =
      iterate-stays (once p) p.image k n (omega arith) (iterate-suc (once p) k p.image ∙ rest) in
      (rw (all, ← rest) (next-rows p), once-count p n k (omega arith) (sym all) (progress p).1)

-- as many as asked
pub progress-end : {frame : Frame} {k : ℕ} {mask words words' : List ℕ} (n : ℕ) →
    Progress frame k mask words words' → k ≡ n → Propagated frame n mask words words' k
progress-end {k = k} n progress e p =
    let same : iterate (once p) k p.image ≡ iterate (once p) n p.image =
    ap (λ (m : ℕ). iterate (once p) m p.image) e in
    (rw (← same) (progress p).0, once-count p n k (omega arith) same (progress p).1)

-- ---- from rows to rows

-- packed rows, turned
pub turned_rows : {width height : ℕ} {words words' : List ℕ} → Clean width height words →
    ((i : ℕ) → i < length words → get_or words' i 0 ≡ bit_xor (get_or words i 0) full_word) →
    TurnedRows width height (unpacked_words width height words) words'
turned_rows {width} {height} {words} {words'} clean flipped =
    record {
      background =
          λ k y lk ly j l.
          let m = row_words width in
          let all = packed_length-is word_bits width height in
          let inside : y * m + k < length words =
          omega (arith, clean.size, all, mul_comm m height, row_next m y height ly) in
          let word = here_at m words y k in
          rw (flipped (y * m + k) inside)
          (bit-xor word full_word j
          ∙ rw (flat-full j l, ← (clean-bit clean k y lk ly j l)) (differ-one _ (bit-le-one word j)));
    }

-- and turned back
pub rows-turned : {width height : ℕ} {image words words' : List ℕ} → ValidSize width height →
    Binary width height image → TurnedRows width height image words → length words ≡ words_length width height →
    length words' ≡ length words →
    ((i : ℕ) → i < length words → get_or words' i 0 ≡ bit_xor (get_or words i 0) full_word) →
    Units word_bits words' → words' ≡ packed_words width height image
rows-turned {width} {height} {image} {words} {words'} valid binary rows size same flipped small =
    ext_get_or 0 words' (packed_words width height image)
    (same ∙ size ∙ sym (length-packed word_bits width height image))
    (λ i l.
    let m = row_words width in
    let pos : 0 < m = row_units-pos word_bits width (omega arith) valid.wide in
    let within : i < m * height = omega (arith, l, same, size, packed_length-is word_bits width height) in
    let lk : i % m < m = mod-lt i pos in
    let ly : i / m < height = (div-lt_iff_lt-mul pos).1 (rw (mul_comm height m) within) in
    let at : i / m * m + i % m ≡ i = div-add-mod' i m in
    sym
    (rw at at
    (get_or-packed word_bits width height image (i % m) (i / m) lk ly
    ∙ packed_unit-is word_bits width image (word_bits * (i % m)) (i / m) (get_or words' i 0) (small i)
    (λ j lj.
    let x = word_bits * (i % m) + j in
    let turned_bit = rw at at (rows.background (i % m) (i / m) lk ly j lj) in
    let back : bit_at word_bits (get_or words' i 0) j ≡ 1 - bit_at word_bits (get_or words i 0) j =
    rw (flipped i (omega (arith, same)))
    (bit-xor (get_or words i 0) full_word j
    ∙ rw (flat-full j lj) (differ-one _ (bit-le-one (get_or words i 0) j))) in
    let most = padded_pixel-le width image binary.bits x (i / m) in
    omega (arith, turned_bit, back, most)))))

-- a run from rows to rows: turned, iterated and turned back
pub propagated-rows : (n : ℕ) {width height connectivity flip count : ℕ} {frame : Frame}
    {words mask words₁ words₂ words₃ : List ℕ} →
    FrameOf width height connectivity all_sides flip frame → Clean width height words → Clean width height mask →
    Written (λ i w. w ≡ bit_xor (get_or words i 0) full_word) 0 1 (length words) words words₁ →
    Propagated frame n mask words₁ words₂ count → length words₂ ≡ length words₁ →
    Written (λ i w. w ≡ bit_xor (get_or words₂ i 0) full_word) 0 1 (length words₂) words₂ words₃ →
    Units word_bits words₃ →
    (words₃
    ≡ packed_words width height
    (iterate (propagate_once width height connectivity (unpacked_words width height mask)) n
    (unpacked_words width height words)))
    × (count
    ≡ least_iterations (propagate_once width height connectivity (unpacked_words width height mask)) n
    (unpacked_words width height words))
propagated-rows n {width} {height} {connectivity} {flip} {words = words} {mask = mask} {words₁ = words₁}
    of clean in_mask there ran kept back small =
    let p : PropagationOf _ mask words₁ =
    record {
      width = width;
      height = height;
      connectivity = connectivity;
      flip = flip;
      image = unpacked_words width height words;
      of = of;
      clean = in_mask;
      binary = unpacked-binary word_bits width height words;
      rows = turned_rows clean (λ i l. rw zero-add at (written_at there i l));
    } in
    let done = ran p in (
      rows-turned clean.valid (once-binary p n) done.0 (kept ∙ there.size ∙ clean.size) back.size
          (λ i l. rw zero-add at (written_at back i l)) small,
      done.1,
    )

-- its words are few
pub clean-few : {width height : ℕ} {words : List ℕ} → Clean width height words → length words ≤ max_words
clean-few clean = rw clean.size (words-most clean.valid)
