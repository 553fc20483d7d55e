-- Laws of the band of rows outside which an image has no object pixel (`src/inner/band.rt`). Assumes nothing.
--   Clear            pixels that are background
--   clear-four       four groups of eight pixels are clear exactly if their numbers put together are 0
--   image-le         an image of a crop's size has no more pixels than the largest crop
--   rows-before-le   no more rows begin before a position than there are
--   band-is          the rows from one above a first position's row on, and up to one behind a last position, are a
--                    band where no object pixel lies before the first position or from the last one on
use Prim.Native.Nat.{ℕ, suc, ◌+◌, ◌-◌, ◌*◌, ◌/◌, ◌≤◌, ◌<◌, min}
use mathlib.Core.Logic.{◌↔◌}
use mathlib.Core.Path.{◌≡◌}
use mathlib.Core.Bool.{true}
use mathlib.Core.List.{List}
use native.Mathlib.Omega.{arith}
use native.Mathlib.Nat.{mul-le-mul, suc-mul, lt-div-mul-add, div-mul-le_self, div-lt_iff_lt-mul}
use lib.Bits.{bit_or, or_add_and, and_le_l, and_le_r}
use lib.Dec.{eqb}
use lib.ListN.{length, get_or}
use borrow.Author.Tests.{eqb-true, eq-eqb}
use Rattle.lists.proofs.BoolLaws.{by-lt}
use Rattle.neighbours.specs.Limits.{max_pixels}
use Rattle.neighbours.specs.Crop.{Sized, Band}
use Rattle.packing.specs.Groups.{pixel_bytes}
use Rattle.packing.proofs.GroupLaws.{pixel_bytes-zero-iff}

-- the pixels from a position up to another are background
abbrev pub Clear : List ℕ → ℕ → ℕ → Type 0
Clear image from to = (i : ℕ) → from ≤ i → i < to → get_or image i 0 ≡ 0

-- ---- pixels that are read

-- numbers put together are 0 exactly if both are
or-zero-iff : (a b : ℕ) → (bit_or a b ≡ 0) ↔ (a ≡ 0) × (b ≡ 0)
or-zero-iff a b = (
  λ e. (omega (arith, or_add_and a b, and_le_r a b), omega (arith, or_add_and a b, and_le_l a b)),
  λ e. omega (arith, or_add_and a b),
)

-- eight pixels are clear exactly if the number that is read of them is 0
clear-eight : (image : List ℕ) (at x : ℕ) → x ≡ pixel_bytes image at → (x ≡ 0) ↔ Clear image at (at + 8)
clear-eight image at x made = rw made (pixel_bytes-zero-iff image at)

-- four groups of eight are clear exactly if their numbers put together are 0
pub clear-four : (image : List ℕ) (at a b c d : ℕ) →
    a ≡ pixel_bytes image at → b ≡ pixel_bytes image (at + 8) →
    c ≡ pixel_bytes image (at + 16) → d ≡ pixel_bytes image (at + 24) →
    (eqb (bit_or (bit_or (bit_or a b) c) d) 0 ≡ true) ↔ Clear image at (at + 32)
clear-four image at a b c d made-a made-b made-c made-d =
    let first = clear-eight image at a made-a in
    let second = clear-eight image (at + 8) b made-b in
    let third = clear-eight image (at + 16) c made-c in
    let fourth = clear-eight image (at + 24) d made-d in (
      λ e i l r.
          let (abc, d0) = (or-zero-iff (bit_or (bit_or a b) c) d).0 (eqb-true _ _ e) in
          let (ab, c0) = (or-zero-iff (bit_or a b) c).0 abc in
          let (a0, b0) = (or-zero-iff a b).0 ab in
          by-lt i (at + 8) (λ m. first.0 a0 i l m)
          (λ p. by-lt i (at + 16) (λ m. second.0 b0 i p (omega arith))
          (λ q. by-lt i (at + 24) (λ m. third.0 c0 i q (omega arith))
          (λ s. fourth.0 d0 i s (omega arith)))),
      λ clear.
          let a0 = first.1 (λ i l r. clear i l (omega arith)) in
          let b0 = second.1 (λ i l r. clear i (omega arith) (omega arith)) in
          let c0 = third.1 (λ i l r. clear i (omega arith) (omega arith)) in
          let d0 = fourth.1 (λ i l r. clear i (omega arith) (omega arith)) in
          let ab = (or-zero-iff a b).1 (a0, b0) in
          let abc = (or-zero-iff (bit_or a b) c).1 (ab, c0) in
          eq-eqb _ _ ((or-zero-iff (bit_or (bit_or a b) c) d).1 (abc, d0)),
    )

-- ---- rows

module _ {width height : ℕ} {image : List ℕ} (sized : Sized width height image) where
  -- the image has no more pixels than the largest crop
  pub image-le : length image ≤ max_pixels
  image-le = rw sized.pixels (mul-le-mul sized.valid.narrow sized.valid.low)

  -- a position before the end of row y is in that row or above
  row-le : (at y : ℕ) → at < y * width + width → at / width ≤ y
  row-le at y l =
      let next : suc y * width ≡ y * width + width = suc-mul y width in
      omega (arith, (div-lt_iff_lt-mul {k = width} {x = at} {y = suc y} sized.valid.wide).1 (rw next l))

  -- no more rows begin before a position than there are
  pub rows-before-le : (at : ℕ) → at ≤ length image → (at + width - 1) / width ≤ height
  rows-before-le at l =
      let valid = sized.valid in
      row-le (at + width - 1) height (omega (arith, sized.pixels, valid.wide))

  -- they reach up to it
  rows-before-ge : (at : ℕ) → at ≤ (at + width - 1) / width * width
  rows-before-ge at =
      let wide = sized.valid.wide in
      omega (arith, lt-div-mul-add {a = at + width - 1} {b = width} wide, wide)

  -- the band, of the top row and the end that `band_of` computes
  pub band-is : (first last top end : ℕ) → first ≤ last → last ≤ length image →
      ((i : ℕ) → i < first → get_or image i 0 ≡ 0) → ((i : ℕ) → last ≤ i → get_or image i 0 ≡ 0) →
      top ≡ first / width - 1 → end ≡ min ((last + width - 1) / width + 1) height →
      Band width height image top end
  band-is first last top end ordered within before behind top-is end_is =
      let valid = sized.valid in
      let rows = (last + width - 1) / width in
      let reach = rows-before-ge last in
      let above-le = row-le first rows (omega (arith, reach, valid.wide)) in
      let above-few = row-le first height (omega (arith, sized.pixels, valid.wide)) in
      record {
        ordered = omega (arith, above-le, above-few, valid.tall);
        within = omega arith;
        above =
            λ some i l.
            let e : suc top ≡ first / width = omega arith in
            before i (omega (arith, rw e at l, div-mul-le_self first width));
        below =
            λ short i l.
            let e : end - 1 ≡ rows = omega arith in
            behind i (omega (arith, rw e at l, reach));
      }
