-- Laws of how many pixels changed and how many are object. Assumes nothing.
--   occurrences-le            at most every pixel is object
--   area-le                   so that the area of packed rows is within the limit
--   changed-comm              as many pixels differ either way round
--   changed-less              where pixels only go, as many changed as went
--   changed-turned            the same of an image with object and background exchanged: by the areas' difference
-- Not here: a run of erosions only takes away (`iterate-erode_once-le` of `theorems/proofs/OperationLaws.antt`).
use Prim.Native.Nat.{ℕ, zero, suc, ◌+◌, ◌-◌, ◌*◌, ◌≤◌}
use mathlib.Core.Path.{◌≡◌, refl, ap}
use mathlib.Core.Bool.{Bool, true, false, not}
use mathlib.Core.List.{List}
use native.Mathlib.Omega.{arith}
use lib.Dec.{eqb}
use lib.ListN.{length, get_or, get_or-eq_default}
use Rattle.lists.specs.Lists.{occurrences, bit}
use Rattle.lists.proofs.BoolLaws.{by-lt, eqb_comm}
use Rattle.lists.proofs.ListLaws.{length-select-le, select-same}
use Rattle.neighbours.specs.Limits.{max_pixels}
use Rattle.neighbours.specs.Crop.{ValidSize, Binary}
use Rattle.neighbours.specs.Grid.{positions}
use Rattle.neighbours.specs.Words.{word_bits}
use Rattle.neighbours.proofs.PositionLaws.{size-le}
use Rattle.neighbours.proofs.PackedLaws.{unpacked-binary}
use Rattle.model.specs.Operations.{changed}
use Rattle.model.specs.Words.{unpacked_words}
use Rattle.words.specs.Frame.{turned}
use Rattle.words.proofs.TurnedLaws.{turned_zero, turned-binary, get_or-turned-one}
use Rattle.words.proofs.AreaLaws.{total-sum, length-select-total, occurrences-total}

module _ (width height : ℕ) where
  -- at most every pixel is object
  pub occurrences-le : (image : List ℕ) → Binary width height image → occurrences 1 image ≤ width * height
  unfolding occurrences
  occurrences-le image b = omega (arith, length-select-le (eqb 1) image, b.pixels)

  -- so that the area of packed rows is within the limit
  pub area-le : (words : List ℕ) {area : ℕ} → ValidSize width height →
      area ≡ occurrences 1 (unpacked_words width height words) → area ≤ max_pixels
  area-le words valid e =
      omega (arith, e, occurrences-le _ (unpacked-binary word_bits width height words), size-le valid)

  -- as many pixels differ either way round
  pub changed-comm : (before after : List ℕ) →
      changed width height before after ≡ changed width height after before
  unfolding changed
  changed-comm before after =
      ap length
      (select-same _ _ (positions width height) (λ i m. ap not (eqb_comm (get_or before i 0) (get_or after i 0))))

  -- where pixels only go, as many changed as went
  pub changed-less : (before after : List ℕ) → Binary width height before → Binary width height after →
      ((i : ℕ) → get_or after i 0 ≤ get_or before i 0) →
      changed width height before after + occurrences 1 after ≡ occurrences 1 before
  unfolding changed
  changed-less before after b a less =
      let n = width * height in
      let differs : ℕ → Bool = λ i. not (eqb (get_or before i 0) (get_or after i 0)) in
      rw (
        length-select-total differs n,
        occurrences-total n after a.pixels a.bits,
        occurrences-total n before b.pixels b.bits,
      )
      (total-sum _ _ _ n (λ i l. one (get_or before i 0) (get_or after i 0) (b.bits i) (less i)))
    where
      one : (x y : ℕ) → x ≤ 1 → y ≤ x → bit (not (eqb x y)) + y ≡ x
      one zero zero p q = refl
      one zero (suc y) p q = absurd (omega arith)
      one (suc zero) zero p q = refl
      one (suc zero) (suc zero) p q = refl
      one (suc zero) (suc (suc y)) p q = absurd (omega arith)
      one (suc (suc x)) y p q = absurd (omega arith)

  -- Pixels only go, of the image or of the one with object and background exchanged: as many changed as the areas
  -- are apart
  pub changed-turned : (turn : Bool) (before last : List ℕ) → Binary width height before →
      Binary width height last → ((i : ℕ) → get_or last i 0 ≤ get_or (turned (bit turn) before) i 0) →
      changed width height before (turned (bit turn) last)
      ≡ (occurrences 1 before - occurrences 1 (turned (bit turn) last))
      + (occurrences 1 (turned (bit turn) last) - occurrences 1 before)
  changed-turned false before last b l less =
      rw (turned_zero last)
      (omega (arith, changed-less before last b l (λ i. rw (turned_zero before) at (less i))))
  changed-turned true before last b l less =
      let after = turned 1 last in
      let binary = turned-binary width height 1 last l (omega arith) in
      omega (
        arith,
        changed-comm before after,
        changed-less after before binary b
            (λ i.
            by-lt i (width * height)
            (λ inside.
            omega (
              arith,
              less i,
              b.bits i,
              get_or-turned-one before b.bits i (omega (arith, inside, b.pixels)),
              get_or-turned-one last l.bits i (omega (arith, inside, l.pixels)),
            ))
            (λ outside. omega (arith, get_or-eq_default before 0 {n = i} (omega (arith, outside, b.pixels))))),
      )
