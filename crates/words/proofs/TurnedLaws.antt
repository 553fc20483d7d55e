-- Laws of `turned` (`specs/Frame.antt`): dilation is erosion of the image with object and background exchanged, where
-- all sides count as object. Assumes nothing.
--   differ-one                     a bit that differs from 1
--   length-turned, get_or-turned   its length and its entries
--   turned_zero, turned-turned     by 0 it is the image; twice gives it back
--   get_or-turned-one              by 1 object and background are exchanged
--   turned-binary                  it is an image of 0 and 1
--   dilate_once-turned             one iteration
--   iterate-turned                 a run
--   least_iterations-turned        how many iterations of a run change anything
use Prim.Native.Nat.{ℕ, zero, suc, ◌-◌, ◌*◌, ◌≤◌, ◌<◌}
use mathlib.Core.Path.{◌≡◌, refl, sym, ap, ◌∙◌}
use mathlib.Core.Logic.{◌⊎◌, inl, inr}
use mathlib.Core.List.{List}
use native.Mathlib.Omega.{arith}
use lib.Bits.{differ}
use lib.ListN.{length, get_or}
use lib.Seq.{ext_get_or}
use Rattle.lists.specs.Lists.{iterate}
use Rattle.lists.proofs.BoolLaws.{by-eq}
use Rattle.lists.proofs.ListLaws.{length-tabulate, get_or-tabulate, get_or-tabulate-le, tabulate-is}
use Rattle.lists.proofs.IterateLaws.{iterate-keeps}
use Rattle.neighbours.specs.Crop.{Binary}
use Rattle.neighbours.specs.Grid.{all_sides, Adjacent}
use Rattle.neighbours.proofs.BitLaws.{differ-le}
use Rattle.neighbours.proofs.GridLaws.{adjacent-lt}
use Rattle.model.specs.Steps.{erode_once, dilate_once}
use Rattle.model.specs.Operations.{least_iterations}
use Rattle.theorems.proofs.StepLaws.{length-erode_once, erode_once-bits, erode_once-iff}
use Rattle.theorems.proofs.StepLaws.{length-dilate_once, dilate_once-bits, dilate_once-iff}
use Rattle.theorems.proofs.OperationLaws.{dilate_once-binary, least_iterations-alike}
use Rattle.words.specs.Frame.{turned}

-- ---- a bit

differ-zero : (x : ℕ) → differ x 0 ≡ x
differ-zero zero = refl
differ-zero (suc x) = refl

pub differ-one : (x : ℕ) → x ≤ 1 → differ x 1 ≡ 1 - x
differ-one zero l = refl
differ-one (suc zero) l = refl
differ-one (suc (suc x)) l = absurd (omega arith)

-- ---- an image

pub length-turned : (flip : ℕ) (image : List ℕ) → length (turned flip image) ≡ length image
unfolding turned
length-turned flip image = length-tabulate (length image) _

pub get_or-turned : (flip : ℕ) (image : List ℕ) (i : ℕ) → i < length image →
    get_or (turned flip image) i 0 ≡ differ (get_or image i 0) flip
unfolding turned
get_or-turned flip image i l = get_or-tabulate (length image) _ i l

pub turned_zero : (image : List ℕ) → turned 0 image ≡ image
unfolding turned
turned_zero image = tabulate-is (length image) _ image refl (λ i l. differ-zero (get_or image i 0))

-- each entry is a pixel
turned_le : (flip : ℕ) (image : List ℕ) → ((i : ℕ) → get_or image i 0 ≤ 1) → flip ≤ 1 → (i : ℕ) →
    get_or (turned flip image) i 0 ≤ 1
unfolding turned
turned_le flip image bits turns =
    get_or-tabulate-le (length image) _ 1 (λ i l. differ-le (get_or image i 0) flip (bits i) turns)

pub turned-binary : (width height flip : ℕ) (image : List ℕ) → Binary width height image → flip ≤ 1 →
    Binary width height (turned flip image)
turned-binary width height flip image b turns =
    record { pixels = length-turned flip image ∙ b.pixels; bits = turned_le flip image b.bits turns }

-- object and background are exchanged
pub get_or-turned-one : (image : List ℕ) → ((i : ℕ) → get_or image i 0 ≤ 1) → (i : ℕ) → i < length image →
    get_or (turned 1 image) i 0 ≡ 1 - get_or image i 0
get_or-turned-one image bits i l = get_or-turned 1 image i l ∙ differ-one (get_or image i 0) (bits i)

pub turned-turned : (flip : ℕ) (image : List ℕ) → ((i : ℕ) → get_or image i 0 ≤ 1) → flip ≤ 1 →
    turned flip (turned flip image) ≡ image
turned-turned zero image bits turns = turned_zero (turned 0 image) ∙ turned_zero image
turned-turned (suc zero) image bits turns =
    let once = turned 1 image in
    let size = length-turned 1 image in
    ext_get_or 0 (turned 1 once) image (length-turned 1 once ∙ size)
    (λ i l.
    let inside : i < length once = omega (arith, length-turned 1 once) in
    omega (
      arith,
      bits i,
      get_or-turned-one once (turned_le 1 image bits turns) i inside,
      get_or-turned-one image bits i (omega (arith, size)),
    ))
turned-turned (suc (suc flip)) image bits turns = absurd (omega arith)

-- ---- iterations

module _ (width height connectivity : ℕ) where
  -- a pixel or a neighbour of it that has one property has another that follows from it
  near : (P Q : ℕ → Type 0) → ((j : ℕ) → j < width * height → P j → Q j) →
      (i : ℕ) → i < width * height →
      P i ⊎ ((j : ℕ) × Adjacent width height connectivity i j × P j) →
      Q i ⊎ ((j : ℕ) × Adjacent width height connectivity i j × Q j)
  near P Q follows i inside (inl p) = inl (follows i inside p)
  near P Q follows i inside (inr (j, a, p)) =
      inr (j, a, follows j (adjacent-lt width height connectivity a) p)

  -- one iteration
  pub dilate_once-turned : (image : List ℕ) → Binary width height image →
      dilate_once width height connectivity image
      ≡ turned 1 (erode_once width height connectivity all_sides (turned 1 image))
  dilate_once-turned image b =
      let exchanged = turned 1 image in
      let bits = turned_le 1 image b.bits (omega arith) in
      let dilated = dilate_once width height connectivity image in
      let eroded = erode_once width height connectivity all_sides exchanged in
      let size = length-erode_once width height connectivity all_sides exchanged in
      let clear = erode_once-bits width height connectivity all_sides exchanged bits in
      let other : (j : ℕ) → j < width * height → get_or exchanged j 0 ≡ 1 - get_or image j 0 =
      λ j l. get_or-turned-one image b.bits j (omega (arith, b.pixels)) in
      ext_get_or 0 dilated (turned 1 eroded)
      (length-dilate_once width height connectivity image ∙ sym (length-turned 1 eroded ∙ size))
      (λ i l.
      let inside : i < width * height = omega (arith, length-dilate_once width height connectivity image) in
      let (grows, grown) = dilate_once-iff width height connectivity image b.bits i inside in
      let (goes, gone) = erode_once-iff width height connectivity exchanged bits i inside in
      let back = get_or-turned-one eroded clear i (omega (arith, size)) in
      by-eq (get_or dilated i 0) 1
      (λ one.
      let none = gone (near _ _ (λ j lt e. omega (arith, e, other j lt)) i inside (grows one)) in
      omega (arith, one, none, back))
      (λ none.
      by-eq (get_or eroded i 0) 0
      (λ e.
      absurd (none (grown (near _ _ (λ j lt q. omega (arith, q, b.bits j, other j lt)) i inside (goes e)))))
      (λ some.
      let bit = dilate_once-bits width height connectivity image b.bits i in
      omega (arith, none, some, bit, clear i, back))))

  -- a run on the image with object and background exchanged
  run-turned : (image : List ℕ) → Binary width height image → (n : ℕ) →
      iterate (erode_once width height connectivity all_sides) n (turned 1 image)
      ≡ turned 1 (iterate (dilate_once width height connectivity) n image)
  unfolding iterate
  run-turned image b zero = refl
  run-turned image b (suc n) =
      let dilated = dilate_once width height connectivity image in
      let eroded = erode_once width height connectivity all_sides (turned 1 image) in
      let bits = erode_once-bits width height connectivity all_sides (turned 1 image)
      (turned_le 1 image b.bits (omega arith)) in
      let first : eroded ≡ turned 1 dilated =
      sym (ap (turned 1) (dilate_once-turned image b) ∙ turned-turned 1 eroded bits (omega arith)) in
      ap (iterate (erode_once width height connectivity all_sides) n) first
      ∙ run-turned dilated (dilate_once-binary width height connectivity image b) n

  -- a run
  pub iterate-turned : (image : List ℕ) → Binary width height image → (n : ℕ) →
      turned 1 (iterate (erode_once width height connectivity all_sides) n (turned 1 image))
      ≡ iterate (dilate_once width height connectivity) n image
  iterate-turned image b n =
      let kept = iterate-keeps (Binary width height) _ (dilate_once-binary width height connectivity) n image b in
      ap (turned 1) (run-turned image b n) ∙ turned-turned 1 _ kept.bits (omega arith)

  -- how many iterations of a run change anything
  pub least_iterations-turned : (image : List ℕ) → Binary width height image → (n : ℕ) →
      least_iterations (erode_once width height connectivity all_sides) n (turned 1 image)
      ≡ least_iterations (dilate_once width height connectivity) n image
  least_iterations-turned image b =
      least_iterations-alike (erode_once width height connectivity all_sides) (dilate_once width height connectivity)
      (turned 1 image) image
      (λ j k. (
        λ e. sym (iterate-turned image b j) ∙ ap (turned 1) e ∙ iterate-turned image b k,
        λ e. run-turned image b j ∙ ap (turned 1) e ∙ sym (run-turned image b k),
      ))
