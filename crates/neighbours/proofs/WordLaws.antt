-- Laws of words of pixels (`specs/Words.antt`).
--   bit-and, bit-or, bit-xor, bit-le   the pixels of what an operation makes
--   flat-full, flat-zero               words of one value
--   holds-left, holds-right            each pixel's neighbour on the left and on the right, with the carry
--   beside_value-inside, -outside      what a column counts for those beside it
--   filled_value-inside, -behind       a row filled up behind its end
--   beside_value-upright               a word put together with those above and below
--   without_background-is              the definition as an equation
--   bit-without_background             a pixel is kept exactly if no neighbour is background
--   bit-contour                        what is not kept of a word is its contour
--   bit-fill                           a word filled up behind the row's end
-- Assumes nothing.
use Prim.Native.Nat.{ℕ, zero, suc, ◌+◌, ◌-◌, ◌*◌, ◌/◌, ◌%◌, ◌^◌, ◌≤◌, ◌<◌, min, max}
use mathlib.Core.Path.{◌≡◌, refl, sym, ap, ap₂, ◌∙◌}
use mathlib.Core.Bool.{Bool, true, false, cond, ◌&&◌, not}
use mathlib.Core.List.{List}
use mathlib.Core.Logic.{◌⊎◌, inl, inr, ◌↔◌}
use native.Mathlib.Omega.{arith}
use native.Mathlib.Nat.{add-zero}
use lib.Bits.{bit_and, bit_or, bit_xor, differ}
use lib.Dec.{eqb, ltb}
use lib.ListN.{get_or}
use borrow.Author.Tests.{le-leb, lt-leb, eq-eqb, ne_eqb, eqb-true, eqb-false, not-true}
use Rattle.lists.specs.Lists.{count_from, tabulate, any, bit, Each}
use Rattle.lists.proofs.BoolLaws.{by-lt, by-eq, not-both, and_left, and_right, and_both}
use Rattle.lists.proofs.ListLaws.{each_map, any-false-each, each-any-false}
use Rattle.neighbours.specs.Grid.{is_connectivity, directions, across, down, right_side, all_sides, has_side}
use Rattle.neighbours.specs.Grid.{position, neighbour_value, has_neighbour}
use Rattle.neighbours.specs.Contour.{on_contour}
use Rattle.neighbours.specs.Packed.{bit_at}
use Rattle.neighbours.specs.Words.{word_bits, full_word, Holds, Flat, RowMask, place_value, filled_value}
use Rattle.neighbours.specs.Words.{beside_value}
use Rattle.neighbours.specs.Words.{without_background, LevelsRound}
use Rattle.neighbours.proofs.BitLaws.{digit, digit_and, digit_or, digit-xor, digit-above, digit-shr, digit-mod}
use Rattle.neighbours.proofs.BitLaws.{digit-shl, digit-shl-below, digit_ones}
use Rattle.neighbours.proofs.PlaceLaws.{place_value-inside, place_value-right, place_value-corner}
use Rattle.neighbours.proofs.PlaceLaws.{neighbour_value-place}

-- ---- the pixels of a word

pub bit-le-one : (w j : ℕ) → bit_at word_bits w j ≤ 1
bit-le-one w j = omega arith

pub bit-and : (a b j : ℕ) → bit_at word_bits (bit_and a b) j ≡ min (bit_at word_bits a j) (bit_at word_bits b j)
bit-and a b j = digit_and a b (63 - j)

pub bit-or : (a b j : ℕ) → bit_at word_bits (bit_or a b) j ≡ max (bit_at word_bits a j) (bit_at word_bits b j)
bit-or a b j = digit_or a b (63 - j)

pub bit-xor : (a b j : ℕ) → bit_at word_bits (bit_xor a b) j ≡ differ (bit_at word_bits a j) (bit_at word_bits b j)
bit-xor a b j = digit-xor a b (63 - j)

-- words of one value
pub flat-full : Flat 1 full_word
flat-full j l = digit_ones 64 (63 - j) (omega arith)

pub flat-zero : Flat 0 0
flat-zero j l = digit-above 0 0 (63 - j) (omega arith) (omega arith)

-- ---- the neighbours on the left

-- the first pixel's is the last of the word before
left-first : (before here : ℕ) → here < 2 ^ 64 →
    bit_at word_bits (bit_or (here / 2 ^ 1) ((before * 2 ^ 63) % 2 ^ 64)) 0 ≡ bit_at word_bits before 63
left-first before here l = bit-or (here / 2 ^ 1) ((before * 2 ^ 63) % 2 ^ 64) 0 ∙ omega arith

-- any other's is the one before it
left-next : (before here j : ℕ) → j < 63 →
    bit_at word_bits (bit_or (here / 2 ^ 1) ((before * 2 ^ 63) % 2 ^ 64)) (j + 1) ≡ bit_at word_bits here j
left-next before here j l =
    let up : 1 + (63 - (j + 1)) ≡ 63 - j = omega arith in
    let room : suc j + (63 - (j + 1)) ≡ 63 = omega arith in
    let more : suc (j + 1) + (63 - (j + 1)) ≡ 64 + 1 - 1 = omega arith in
    let none : digit ((before * 2 ^ 63) % 2 ^ 64) (63 - (j + 1)) ≡ 0 =
    (rw more at (digit-mod (before * 2 ^ 63) (j + 1) (63 - (j + 1))))
    ∙ (rw room at (digit-shl-below before j (63 - (j + 1)))) in
    bit-or (here / 2 ^ 1) ((before * 2 ^ 63) % 2 ^ 64) (j + 1)
    ∙ ap₂ max (rw up at (digit-shr here 1 (63 - (j + 1)))) none
    ∙ omega arith

pub holds-left : (pixels : ℕ → ℕ) (x before here : ℕ) → here < 2 ^ 64 →
    bit_at word_bits before 63 ≡ pixels x →
    Holds pixels (x + 1) here → Holds pixels x (bit_or (here / 2 ^ 1) ((before * 2 ^ 63) % 2 ^ 64))
holds-left pixels x before here l carry is zero h =
    let e : x + 0 ≡ x = omega arith in
    left-first before here l ∙ carry ∙ ap pixels (sym e)
holds-left pixels x before here l carry is (suc j) h =
    let e : suc j ≡ j + 1 = omega arith in
    let f : x + 1 + j ≡ x + (j + 1) = omega arith in
    rw e (left-next before here j (omega arith) ∙ is j (omega arith) ∙ ap pixels f)

-- ---- the neighbours on the right

-- the last pixel's is the first of the word behind
right-last : (here behind : ℕ) →
    bit_at word_bits (bit_or ((here * 2 ^ 1) % 2 ^ 64) (behind / 2 ^ 63)) 63 ≡ bit_at word_bits behind 0
right-last here behind =
    let none : digit ((here * 2 ^ 1) % 2 ^ 64) 0 ≡ 0 = digit-mod (here * 2 ^ 1) 63 0 ∙ digit-shl-below here 0 0 in
    let some : digit (behind / 2 ^ 63) 0 ≡ bit_at word_bits behind 0 = digit-shr behind 63 0 in
    bit-or ((here * 2 ^ 1) % 2 ^ 64) (behind / 2 ^ 63) 63 ∙ ap₂ max none some ∙ omega arith

-- any other's is the one behind it
right-next : (here behind j : ℕ) → behind < 2 ^ 64 → j < 63 →
    bit_at word_bits (bit_or ((here * 2 ^ 1) % 2 ^ 64) (behind / 2 ^ 63)) j ≡ bit_at word_bits here (j + 1)
right-next here behind j l h =
    let down : (63 - (j + 1)) + 1 ≡ 63 - j = omega arith in
    let more : suc j + (63 - j) ≡ 64 = omega arith in
    let none : digit (behind / 2 ^ 63) (63 - j) ≡ 0 =
    digit-shr behind 63 (63 - j) ∙ digit-above behind 64 (63 + (63 - j)) l (omega arith) in
    let some : digit ((here * 2 ^ 1) % 2 ^ 64) (63 - j) ≡ digit here (63 - (j + 1)) =
    (rw more at (digit-mod (here * 2 ^ 1) j (63 - j))) ∙ (rw down at (digit-shl here 1 (63 - (j + 1)))) in
    bit-or ((here * 2 ^ 1) % 2 ^ 64) (behind / 2 ^ 63) j ∙ ap₂ max some none ∙ omega arith

pub holds-right : (pixels : ℕ → ℕ) (x here behind : ℕ) → behind < 2 ^ 64 → Holds pixels x here →
    bit_at word_bits behind 0 ≡ pixels (x + word_bits) →
    Holds pixels (x + 1) (bit_or ((here * 2 ^ 1) % 2 ^ 64) (behind / 2 ^ 63))
holds-right pixels x here behind l is carry j h =
    by-lt j 63
    (λ t.
    let f : x + (j + 1) ≡ x + 1 + j = omega arith in
    right-next here behind j l t ∙ is (j + 1) (omega arith) ∙ ap pixels f)
    (λ t.
    let e : j ≡ 63 = omega arith in
    let f : x + 64 ≡ x + 1 + 63 = omega arith in
    rw e (right-last here behind ∙ carry ∙ ap pixels f))

-- ---- a word with those above and below

module _ (width height sides : ℕ) (image : List ℕ) where
  -- the value at a place
  abbrev value : ℕ → ℕ → ℕ
  value = place_value width height sides image

  -- inside the crop, the least of the pixels that count
  pub beside_value-inside : (connectivity y x : ℕ) → 1 ≤ x → x ≤ width →
      beside_value width height sides image connectivity y x
      ≡ min (value x (y + 1)) (max (min (value x y) (value x (y + 2))) (bit (eqb connectivity 4)))
  unfolding beside_value
  beside_value-inside connectivity y x left right = rw (le-leb 1 x left, le-leb x width right)

  -- outside, what lies beyond in the row
  pub beside_value-outside : (connectivity y x : ℕ) → (x < 1) ⊎ ((1 ≤ x) × (width < x)) →
      beside_value width height sides image connectivity y x ≡ value x (y + 1)
  unfolding beside_value
  beside_value-outside connectivity y x (inl l) = rw (lt-leb 1 x l)
  beside_value-outside connectivity y x (inr l) = rw (le-leb 1 x l.0, lt-leb x width l.1)

  -- a row filled up behind its end
  pub filled_value-inside : (y x : ℕ) → x ≤ width → filled_value width height sides image y x ≡ value x y
  unfolding filled_value
  filled_value-inside y x l = rw (le-leb x width l)

  pub filled_value-behind : (y x : ℕ) → width < x →
      filled_value width height sides image y x ≡ bit (has_side sides right_side)
  unfolding filled_value
  filled_value-behind y x l = rw (lt-leb x width l)

  -- rows filled up behind their end: what the word's columns count for those beside them
  pub beside_value-upright : (connectivity k y above here below four r : ℕ) → y < height →
      Holds (filled_value width height sides image y) (word_bits * k + 1) above →
      Holds (filled_value width height sides image (y + 1)) (word_bits * k + 1) here →
      Holds (filled_value width height sides image (y + 2)) (word_bits * k + 1) below →
      Flat (bit (eqb connectivity 4)) four →
      ((j : ℕ) → bit_at word_bits r j
      ≡ min (bit_at word_bits here j)
      (max (min (bit_at word_bits above j) (bit_at word_bits below j)) (bit_at word_bits four j))) →
      Holds (beside_value width height sides image connectivity y) (word_bits * k + 1) r
  unfolding filled_value
  beside_value-upright connectivity k y above here below four r ly is_above is_here is_below is_four made j l =
      let x = word_bits * k + 1 + j in
      made j
      ∙ rw (is_here j l, is_above j l, is_below j l, is_four j l)
      (by-lt width x
      (λ h.
      rw (
        lt-leb x width h,
        beside_value-outside connectivity y x (inr (omega arith, h)),
        place_value-right width height sides image x (y + 1) (omega arith) h (omega arith) (omega arith),
      )
      (omega arith))
      (λ h. rw (le-leb x width h, beside_value-inside connectivity y x (omega arith) h)))

  -- ---- the neighbours by name

  -- by 8, a column beside counts as its three pixels, where the pixel's own column is object above and below
  beside-eight : (x' x y : ℕ) → 1 ≤ x → x ≤ width → y < height → 1 ≤ value x y →
      1 ≤ value x (y + 2) →
      (1 ≤ beside_value width height sides image 8 y x')
      ↔ ((1 ≤ value x' y) × (1 ≤ value x' (y + 1)) × (1 ≤ value x' (y + 2)))
  beside-eight x' x y left right ly above below =
      by-lt x' 1 (λ l. outside (inl l))
      (λ l. by-lt width x' (λ h. outside (inr (l, h))) (λ h. inside l h))
    where
      outside : (x' < 1) ⊎ ((1 ≤ x') × (width < x')) →
          (1 ≤ beside_value width height sides image 8 y x')
          ↔ ((1 ≤ value x' y) × (1 ≤ value x' (y + 1)) × (1 ≤ value x' (y + 2)))
      outside out =
          let e = beside_value-outside 8 y x' out in (
            λ h.
                let beside : 1 ≤ value x' (y + 1) = omega (arith, e) in (
                  place_value-corner width height sides image x' x y y out left right ly beside above,
                  beside,
                  place_value-corner width height sides image x' x y (y + 2) out left right ly beside below,
                ),
            λ h. omega (arith, e, h.1),
          )

      inside : 1 ≤ x' → x' ≤ width →
          (1 ≤ beside_value width height sides image 8 y x')
          ↔ ((1 ≤ value x' y) × (1 ≤ value x' (y + 1)) × (1 ≤ value x' (y + 2)))
      inside l h = let e = beside_value-inside 8 y x' l h in (
        λ p. (omega (arith, e), omega (arith, e), omega (arith, e)),
        λ p. omega (arith, e, p.0, p.1, p.2),
      )

  -- by 4, as the pixel in the row
  beside-four : (x y : ℕ) →
      (1 ≤ beside_value width height sides image 4 y x) ↔ (1 ≤ value x (y + 1))
  beside-four x y =
      by-lt x 1 (λ l. outside (inl l))
      (λ l.
      by-lt width x (λ h. outside (inr (l, h)))
      (λ h. let e = beside_value-inside 4 y x l h in (λ p. omega (arith, e), λ p. omega (arith, e))))
    where
      outside : (x < 1) ⊎ ((1 ≤ x) × (width < x)) →
          (1 ≤ beside_value width height sides image 4 y x) ↔ (1 ≤ value x (y + 1))
      outside out = let e = beside_value-outside 4 y x out in (λ p. omega (arith, e), λ p. omega (arith, e))

  -- every one of the connectivity's neighbours of column x and row y, counted from zero, is object
  abbrev Surrounded : ℕ → ℕ → ℕ → Type 0
  Surrounded connectivity x y = Each (λ d. 1 ≤ value (x + across d) (y + down d)) (directions connectivity)

  -- what is made of a pixel, its column and those beside it
  abbrev least : ℕ → ℕ → ℕ → ℕ
  least connectivity x y =
      min
      (min (beside_value width height sides image connectivity y (x + 1))
      (max (min (value (x + 1) y) (value (x + 1) (y + 2))) (bit (eqb connectivity 8))))
      (min (beside_value width height sides image connectivity y x)
      (beside_value width height sides image connectivity y (x + 2)))

  first : (a b c : ℕ) → 1 ≤ min (min a b) c → 1 ≤ a
  first a b c h = omega arith

  second : (a b c : ℕ) → 1 ≤ min a (min b c) → 1 ≤ b
  second a b c h = omega arith

  third : (a b c : ℕ) → 1 ≤ min a (min b c) → 1 ≤ c
  third a b c h = omega arith

  above-below : {v : ℕ} (a b c : ℕ) → v ≡ min a (max (min b c) 0) → 1 ≤ v → (1 ≤ b) × (1 ≤ c)
  above-below a b c e h = (omega arith, omega arith)

  least-eight : (x y : ℕ) → x < width → y < height →
      (1 ≤ least 8 x y) ↔ ((1 ≤ value (x + 1) (y + 1)) × Surrounded 8 x y)
  unfolding directions tabulate count_from across down
  least-eight x y lx ly = (
    λ h.
        let column = beside_value-inside 8 y (x + 1) (omega arith) (omega arith) in
        let both = above-below (value (x + 1) (y + 1)) (value (x + 1) y) (value (x + 1) (y + 2)) column
        (first _ _ _ h) in
        let up = both.0 in
        let low = both.1 in
        let here = (beside-eight (x + 1) (x + 1) y (omega arith) (omega arith) ly up low).0 (first _ _ _ h) in
        let left = (beside-eight x (x + 1) y (omega arith) (omega arith) ly up low).0 (second _ _ _ h) in
        let right = (beside-eight (x + 2) (x + 1) y (omega arith) (omega arith) ly up low).0 (third _ _ _ h) in (
          here.1,
          (
            right.1,
            (
              rw (add-zero y) right.0,
              (
                rw (add-zero y) up,
                (
                  rw (add-zero x, add-zero y) left.0,
                  (rw (add-zero x) left.1, (rw (add-zero x) left.2, (low, (right.2, tt)))),
                ),
              ),
            ),
          ),
        ),
    λ h.
        let n = h.1 in
        let up = rw (add-zero y) at n.1.1.0 in
        let right_up = rw (add-zero y) at n.1.0 in
        let left_up = rw (add-zero x, add-zero y) at n.1.1.1.0 in
        let left = rw (add-zero x) at n.1.1.1.1.0 in
        let left_low = rw (add-zero x) at n.1.1.1.1.1.0 in
        let low = n.1.1.1.1.1.1.0 in
        let right_low = n.1.1.1.1.1.1.1.0 in
        let a = (beside-eight (x + 1) (x + 1) y (omega arith) (omega arith) ly up low).1 (up, h.0, low) in
        let b = (beside-eight x (x + 1) y (omega arith) (omega arith) ly up low).1 (left_up, left, left_low) in
        let c = (beside-eight (x + 2) (x + 1) y (omega arith) (omega arith) ly up low).1 (right_up, n.0, right_low) in
        omega arith,
  )

  least-four : (x y : ℕ) → (1 ≤ least 4 x y) ↔ ((1 ≤ value (x + 1) (y + 1)) × Surrounded 4 x y)
  unfolding directions tabulate count_from across down
  least-four x y = (
    λ h.
        let up : 1 ≤ value (x + 1) y = omega arith in
        let low : 1 ≤ value (x + 1) (y + 2) = omega arith in
        let here = (beside-four (x + 1) y).0 (omega arith) in
        let left = (beside-four x y).0 (omega arith) in
        let right = (beside-four (x + 2) y).0 (omega arith) in
        (here, (right, (rw (add-zero y) up, (rw (add-zero x) left, (low, tt))))),
    λ h.
        let n = h.1 in
        let up = rw (add-zero y) at n.1.0 in
        let low = n.1.1.1.0 in
        let a = (beside-four (x + 1) y).1 h.0 in
        let b = (beside-four x y).1 (rw (add-zero x) at n.1.1.0) in
        let c = (beside-four (x + 2) y).1 n.0 in
        omega arith,
  )

  least_iff : (connectivity x y : ℕ) → is_connectivity connectivity ≡ true → x < width → y < height →
      (1 ≤ least connectivity x y) ↔ ((1 ≤ value (x + 1) (y + 1)) × Surrounded connectivity x y)
  least_iff connectivity x y linking lx ly =
      by-eq connectivity 4 (λ e. rw e (least-four x y))
      (λ d.
      by-eq connectivity 8 (λ e. rw e (least-eight x y lx ly))
      (λ d'. not-both linking (rw (ne_eqb connectivity 4 d, ne_eqb connectivity 8 d'))))

  -- ---- one pixel

  -- a neighbour is background exactly if nothing is set there
  kept-iff : (connectivity x y : ℕ) → x < width → y < height →
      (without_background width height sides image connectivity (position width x y) ≡ true)
      ↔ ((get_or image (position width x y) 0 ≡ 1) × Surrounded connectivity x y)
  unfolding without_background has_neighbour
  kept-iff connectivity x y lx ly =
      let i = position width x y in
      let object = eqb (get_or image i 0) 1 in
      let test : ℕ → Bool = λ d. eqb (neighbour_value width height sides image i d) 0 in
      let none = not (any test (directions connectivity)) in (
        λ h. (
          eqb-true (get_or image i 0) 1 (and_left object none h),
          each_map set (directions connectivity)
              (any-false-each test (directions connectivity) (not-true _ (and_right object none h))),
        ),
        λ h.
            and_both object none (eq-eqb (get_or image i 0) 1 h.0)
            (rw (each-any-false test (directions connectivity) (each_map unset (directions connectivity) h.1)) refl),
      )
    where
      set : (d : ℕ) → eqb (neighbour_value width height sides image (position width x y) d) 0 ≡ false →
          1 ≤ value (x + across d) (y + down d)
      set d e =
          let place = neighbour_value-place width height sides image y d lx in
          let some = eqb-false (neighbour_value width height sides image (position width x y) d) 0 e in
          omega (arith, place, some)

      unset : (d : ℕ) → 1 ≤ value (x + across d) (y + down d) →
          eqb (neighbour_value width height sides image (position width x y) d) 0 ≡ false
      unset d l =
          ne_eqb (neighbour_value width height sides image (position width x y) d) 0
          (λ e. omega (arith, l, e, neighbour_value-place width height sides image y d lx))

  -- the definition as an equation
  pub without_background-is : (connectivity i : ℕ) →
      without_background width height sides image connectivity i
      ≡ eqb (get_or image i 0) 1 && not (has_neighbour width height connectivity sides 0 image i)
  unfolding without_background
  without_background-is connectivity i = refl

  bit-iff : (v : ℕ) (t : Bool) → v ≤ 1 → (1 ≤ v → t ≡ true) → (t ≡ true → 1 ≤ v) → v ≡ bit t
  bit-iff v true l f g = let h = g refl in omega arith
  bit-iff zero false l f g = refl
  bit-iff (suc v) false l f g = not-both (f (omega arith)) refl

  -- what an iteration of erosion keeps of a word, pixel by pixel
  pub bit-without_background : {connectivity k y left above here below right eight : ℕ} (both before behind : ℕ) →
      LevelsRound width height sides image connectivity k y left above here below right eight →
      ((j : ℕ) → bit_at word_bits both j
      ≡ min (bit_at word_bits here j)
      (max (min (bit_at word_bits above j) (bit_at word_bits below j)) (bit_at word_bits eight j))) →
      Holds (beside_value width height sides image connectivity y) (word_bits * k) before →
      Holds (beside_value width height sides image connectivity y) (word_bits * k + 1 + 1) behind →
      (j : ℕ) → j < word_bits → word_bits * k + j < width →
      bit_at word_bits (bit_and both (bit_and before behind)) j
      ≡ bit (without_background width height sides image connectivity (position width (word_bits * k + j) y))
  bit-without_background {connectivity} {k} {y} both before behind round is_both is_before is_behind j l h =
      let x = word_bits * k + j in
      let ly = round.row in
      let e1 : word_bits * k + 1 + j ≡ word_bits * k + j + 1 = omega arith in
      let e2 : word_bits * k + 1 + 1 + j ≡ word_bits * k + j + 2 = omega arith in
      let made : bit_at word_bits (bit_and both (bit_and before behind)) j ≡ least connectivity x y =
      bit-and both _ j
      ∙ ap₂ min
      (is_both j ∙ ap₂ min (rw e1 at (round.is_here j l)) (rw e1 at (round.is_upright j l h)))
      (bit-and before behind j ∙ ap₂ min (is_before j l) (rw e2 at (is_behind j l))) in
      let pixel = place_value-inside width height sides image x y h ly in
      let around = least_iff connectivity x y round.linking h ly in
      let kept = kept-iff connectivity x y h ly in
      made
      ∙ bit-iff (least connectivity x y) _ (omega (arith, made))
      (λ p.
      let set = around.0 p in
      kept.1 (omega (arith, set.0, pixel, round.bits (position width x y)), set.1))
      (λ p. let set = kept.0 p in around.1 (omega (arith, set.0, pixel), set.1))

-- the pixels of a word that an iteration by 4 with all sides object does not keep are on the contour
pub bit-contour : (width height : ℕ) (image : List ℕ) {k y left above here below right : ℕ} (kept : ℕ) →
    LevelsRound width height all_sides image 4 k y left above here below right 0 →
    (j : ℕ) → j < word_bits → word_bits * k + j < width →
    bit_at word_bits kept j
    ≡ bit (without_background width height all_sides image 4 (position width (word_bits * k + j) y)) →
    bit_at word_bits (bit_and here (bit_xor kept full_word)) j
    ≡ bit (on_contour width height image (position width (word_bits * k + j) y))
unfolding on_contour without_background
bit-contour width height image {k} {y} {left} {above} {here} kept round j l h e =
    let x = word_bits * k + j in
    let i = position width x y in
    let e1 : word_bits * k + 1 + j ≡ x + 1 = omega arith in
    let beside = beside_value-inside width height all_sides image 4 y (x + 1) (omega arith) (omega arith) in
    let place = place_value-inside width height all_sides image x y h round.row in
    let is : bit_at word_bits here j ≡ get_or image i 0 =
    omega (arith, rw e1 at (round.is_here j l), beside, place, round.bits i) in
    bit-and here _ j
    ∙ ap₂ min is (bit-xor kept full_word j ∙ ap₂ differ e (flat-full j l))
    ∙ pixel (get_or image i 0) (has_neighbour width height 4 all_sides 0 image i) (round.bits i)
  where
    pixel : (v : ℕ) (t : Bool) → v ≤ 1 → min v (differ (bit (eqb v 1 && not t)) 1) ≡ bit (eqb v 1 && t)
    pixel zero t l = refl
    pixel (suc zero) true l = refl
    pixel (suc zero) false l = refl
    pixel (suc (suc v)) t l = absurd (omega arith)

-- a word of a row filled up behind the row's end
pub bit-fill : {width sides k keep fill : ℕ} (word : ℕ) → RowMask width sides k keep fill → (j : ℕ) →
    j < word_bits →
    bit_at word_bits (bit_or (bit_and word keep) fill) j
    ≡ cond (ltb (word_bits * k + j) width) (bit_at word_bits word j) (bit (has_side sides right_side))
bit-fill {width} {sides} {k} {keep} {fill} word mask j l =
    bit-or _ fill j
    ∙ ap₂ max (bit-and word keep j ∙ ap (min (bit_at word_bits word j)) (mask.is_keep j l)) (mask.is_fill j l)
    ∙ chosen (ltb (word_bits * k + j) width) (bit_at word_bits word j) (has_side sides right_side) (bit-le-one word j)
  where
    chosen : (t : Bool) (v : ℕ) (side : Bool) → v ≤ 1 →
        max (min v (bit t)) (cond t 0 (bit side)) ≡ cond t v (bit side)
    chosen true v side h = omega arith
    chosen false v side h = omega arith
