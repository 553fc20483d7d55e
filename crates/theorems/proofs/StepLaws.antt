-- Laws of the whole-image steps (`specs/Steps.antt`): erode_once, dilate_once, propagate_once. Assumes nothing.
--   length-…       a step leaves as many pixels as the crop has
--   get_or-…         a pixel of the crop after a step
--   get_or-…-out     there is none outside
--   …-bits         a step on pixels of 0 and 1 leaves pixels of 0 and 1
--   dilate_once-iff, propagate_once-iff     which pixels are 1 after the step, said by neighbours inside
--   erode_once-iff                         which pixels are 0 after the step, where all sides count as object
--   erode_once-le                          erosion only takes away
--   ExposedFree                           no object pixel lies along a side that counts as background
--   erode_once-exposed_free                 after one erosion by sides this is so
--   erode_once-same, iterate-erode_once-same, iterate-erode_once-suc     so that then the sides no longer matter
use Prim.Native.Nat.{ℕ, suc, ◌*◌, ◌≤◌, ◌<◌, zero-le}
use mathlib.Core.Path.{◌≡◌, sym, ap, ◌∙◌}
use mathlib.Core.Bool.{Bool, true, false, cond, ◌&&◌, ◌||◌, or-false}
use mathlib.Core.Logic.{◌⊎◌, inl, inr, ⊎_elim, ◌↔◌}
use mathlib.Core.List.{List}
use native.Mathlib.Nat.{le_refl}
use native.Mathlib.Omega.{arith}
use lib.Dec.{eqb}
use lib.ListN.{length, get_or}
use borrow.Author.Tests.{eq-eqb, ne_eqb}
use Rattle.lists.specs.Lists.{any, iterate}
use Rattle.lists.proofs.BoolLaws.{by-test, by-eq, by-lt, not-both, and_right, and_both, or_right, cond-le}
use Rattle.lists.proofs.ListLaws.{length-tabulate, get_or-tabulate, get_or-tabulate-out, get_or-tabulate-le}
use Rattle.lists.proofs.ListLaws.{tabulate-same}
use Rattle.lists.proofs.IterateLaws.{iterate-same}
use Rattle.neighbours.specs.Grid.{is_connectivity, no_side, all_sides, has_neighbour, Adjacent}
use Rattle.neighbours.specs.Border.{exposed_positions}
use Rattle.neighbours.proofs.SideLaws.{all-object, none-object}
use Rattle.neighbours.proofs.GridLaws.{has_neighbour-iff}
use Rattle.neighbours.proofs.BorderLaws.{has_neighbour-exposed}
use Rattle.model.specs.Steps.{erode_once, dilate_once, propagate_once}

module _ (width height connectivity : ℕ) where
  -- ---- erosion

  -- it leaves as many pixels as the crop has
  pub length-erode_once : (sides : ℕ) (image : List ℕ) →
      length (erode_once width height connectivity sides image) ≡ width * height
  unfolding erode_once
  length-erode_once sides image = length-tabulate (width * height) _

  -- an object pixel with a background neighbour becomes 0, any other stays
  pub get_or-erode_once : (sides : ℕ) (image : List ℕ) (i : ℕ) → i < width * height →
      get_or (erode_once width height connectivity sides image) i 0
      ≡ cond (eqb (get_or image i 0) 1 && has_neighbour width height connectivity sides 0 image i) 0 (get_or image i 0)
  unfolding erode_once
  get_or-erode_once sides image i l = get_or-tabulate (width * height) _ i l

  -- outside there is no pixel
  pub get_or-erode_once-out : (sides : ℕ) (image : List ℕ) (i : ℕ) → width * height ≤ i →
      get_or (erode_once width height connectivity sides image) i 0 ≡ 0
  unfolding erode_once
  get_or-erode_once-out sides image i l = get_or-tabulate-out (width * height) _ i l

  -- it only takes away
  pub erode_once-le : (sides : ℕ) (image : List ℕ) (i : ℕ) →
      get_or (erode_once width height connectivity sides image) i 0 ≤ get_or image i 0
  erode_once-le sides image i =
      by-lt i (width * height)
      (λ l. rw (get_or-erode_once sides image i l) (search (cond-le, zero-le, le_refl)))
      (λ l. rw (get_or-erode_once-out sides image i l) zero-le)

  -- it keeps the pixels at 0 and 1
  pub erode_once-bits : (sides : ℕ) (image : List ℕ) → ((i : ℕ) → get_or image i 0 ≤ 1) → (i : ℕ) →
      get_or (erode_once width height connectivity sides image) i 0 ≤ 1
  unfolding erode_once
  erode_once-bits sides image bits =
      get_or-tabulate-le (width * height) _ 1 (λ i inside. search (cond-le, zero-le, bits))

  -- on pixels of 0 and 1, where all sides count as object, those are 0 that were or have a neighbour that was
  pub erode_once-iff : (image : List ℕ) → ((i : ℕ) → get_or image i 0 ≤ 1) →
      (i : ℕ) → i < width * height →
      (get_or (erode_once width height connectivity all_sides image) i 0 ≡ 0)
      ↔ ((get_or image i 0 ≡ 0) ⊎ ((j : ℕ) × Adjacent width height connectivity i j × (get_or image j 0 ≡ 0)))
  erode_once-iff image bits i l =
      let beside = has_neighbour-iff width height connectivity all_sides 0 image i (all-object width height) in
      let is_object = eqb (get_or image i 0) 1 in
      let reached = has_neighbour width height connectivity all_sides 0 image i in
      by-test (is_object && reached)
      (λ t.
      let cleared = rw t at (get_or-erode_once all_sides image i l) in
      (λ e. inr (beside.0 (and_right is_object reached t)), λ h. cleared))
      (λ t.
      let kept = rw t at (get_or-erode_once all_sides image i l) in (
        λ e. inl (sym kept ∙ e),
        λ h.
            kept
            ∙ ⊎_elim (λ e. e)
            (λ n.
            by-eq (get_or image i 0) 1 (λ o. not-both (and_both is_object reached (eq-eqb _ 1 o) (beside.1 n)) t)
            (λ d. omega (arith, bits i)))
            h,
      ))

  -- ---- dilation

  -- it leaves as many pixels as the crop has
  pub length-dilate_once : (image : List ℕ) → length (dilate_once width height connectivity image) ≡ width * height
  unfolding dilate_once
  length-dilate_once image = length-tabulate (width * height) _

  -- a background pixel with an object neighbour becomes 1, any other stays
  pub get_or-dilate_once : (image : List ℕ) (i : ℕ) → i < width * height →
      get_or (dilate_once width height connectivity image) i 0
      ≡ cond (eqb (get_or image i 0) 0 && has_neighbour width height connectivity no_side 1 image i) 1
      (get_or image i 0)
  unfolding dilate_once
  get_or-dilate_once image i l = get_or-tabulate (width * height) _ i l

  -- outside there is no pixel
  pub get_or-dilate_once-out : (image : List ℕ) (i : ℕ) → width * height ≤ i →
      get_or (dilate_once width height connectivity image) i 0 ≡ 0
  unfolding dilate_once
  get_or-dilate_once-out image i l = get_or-tabulate-out (width * height) _ i l

  -- it keeps the pixels at 0 and 1
  pub dilate_once-bits : (image : List ℕ) → ((i : ℕ) → get_or image i 0 ≤ 1) → (i : ℕ) →
      get_or (dilate_once width height connectivity image) i 0 ≤ 1
  unfolding dilate_once
  dilate_once-bits image bits =
      get_or-tabulate-le (width * height) _ 1 (λ i inside. search (cond-le, le_refl, bits))

  -- on pixels of 0 and 1, those are 1 that were or have a neighbour that was
  pub dilate_once-iff : (image : List ℕ) → ((i : ℕ) → get_or image i 0 ≤ 1) → (i : ℕ) → i < width * height →
      (get_or (dilate_once width height connectivity image) i 0 ≡ 1)
      ↔ ((get_or image i 0 ≡ 1) ⊎ ((j : ℕ) × Adjacent width height connectivity i j × (get_or image j 0 ≡ 1)))
  dilate_once-iff image bits i l =
      let beside = has_neighbour-iff width height connectivity no_side 1 image i (none-object width height) in
      let background = eqb (get_or image i 0) 0 in
      let reached = has_neighbour width height connectivity no_side 1 image i in
      by-test (background && reached)
      (λ t.
      let added = rw t at (get_or-dilate_once image i l) in
      (λ e. inr (beside.0 (and_right background reached t)), λ h. added))
      (λ t.
      let kept = rw t at (get_or-dilate_once image i l) in (
        λ e. inl (sym kept ∙ e),
        λ h.
            kept
            ∙ ⊎_elim (λ e. e)
            (λ n.
            by-eq (get_or image i 0) 0 (λ z. not-both (and_both background reached (eq-eqb _ 0 z) (beside.1 n)) t)
            (λ d. omega (arith, bits i)))
            h,
      ))

  -- ---- propagation

  -- it leaves as many pixels as the crop has
  pub length-propagate_once : (mask image : List ℕ) →
      length (propagate_once width height connectivity mask image) ≡ width * height
  unfolding propagate_once
  length-propagate_once mask image = length-tabulate (width * height) _

  -- a pixel of the mask is as dilation leaves it, any other 0
  pub get_or-propagate_once : (mask image : List ℕ) (i : ℕ) → i < width * height →
      get_or (propagate_once width height connectivity mask image) i 0
      ≡ cond (eqb (get_or mask i 0) 1) (get_or (dilate_once width height connectivity image) i 0) 0
  unfolding propagate_once
  get_or-propagate_once mask image i l = get_or-tabulate (width * height) _ i l

  -- outside there is no pixel
  pub get_or-propagate_once-out : (mask image : List ℕ) (i : ℕ) → width * height ≤ i →
      get_or (propagate_once width height connectivity mask image) i 0 ≡ 0
  unfolding propagate_once
  get_or-propagate_once-out mask image i l = get_or-tabulate-out (width * height) _ i l

  -- it keeps the pixels at 0 and 1
  pub propagate_once-bits : (mask image : List ℕ) → ((i : ℕ) → get_or image i 0 ≤ 1) → (i : ℕ) →
      get_or (propagate_once width height connectivity mask image) i 0 ≤ 1
  unfolding propagate_once
  propagate_once-bits mask image bits =
      get_or-tabulate-le (width * height) _ 1 (λ i inside. search (cond-le, zero-le, dilate_once-bits image bits))

  -- on pixels of 0 and 1, those are 1 that are in the mask and were 1 or have a neighbour that was
  pub propagate_once-iff : (mask image : List ℕ) → ((i : ℕ) → get_or image i 0 ≤ 1) → (i : ℕ) → i < width * height →
      (get_or (propagate_once width height connectivity mask image) i 0 ≡ 1)
      ↔ ((get_or mask i 0 ≡ 1) × ((get_or image i 0 ≡ 1)
      ⊎ ((j : ℕ) × Adjacent width height connectivity i j × (get_or image j 0 ≡ 1))))
  propagate_once-iff mask image bits i l =
      let dilated = dilate_once-iff image bits i l in
      by-eq (get_or mask i 0) 1
      (λ m.
      let masked = rw (eq-eqb (get_or mask i 0) 1 m) at (get_or-propagate_once mask image i l) in
      (λ e. (m, dilated.0 (sym masked ∙ e)), λ h. masked ∙ dilated.1 h.1))
      (λ d.
      let gone = rw (ne_eqb (get_or mask i 0) 1 d) at (get_or-propagate_once mask image i l) in
      (λ e. absurd (omega arith), λ h. absurd (d h.0)))

-- ---- the sides of an erosion

-- no object pixel lies along a side that counts as background
abbrev pub ExposedFree : ℕ → ℕ → ℕ → List ℕ → Type 0
ExposedFree width height sides image =
    (i : ℕ) → i < width * height → any (eqb i) (exposed_positions width height sides) ≡ true →
    get_or image i 0 ≡ 0

module _ (width height connectivity : ℕ) (c : is_connectivity connectivity ≡ true) (sides : ℕ) where
  -- after one erosion by sides this is so
  pub erode_once-exposed_free : (image : List ℕ) → ((i : ℕ) → get_or image i 0 ≤ 1) →
      ExposedFree width height sides (erode_once width height connectivity sides image)
  erode_once-exposed_free image bits i l exposed =
      let inside = has_neighbour width height connectivity all_sides 0 image i in
      let near = has_neighbour-exposed width height sides i l connectivity image c ∙ or_right inside _ exposed in
      by-eq (get_or image i 0) 1
      (λ e. get_or-erode_once width height connectivity sides image i l ∙ rw (eq-eqb (get_or image i 0) 1 e, near))
      (λ d.
      get_or-erode_once width height connectivity sides image i l
      ∙ rw (ne_eqb (get_or image i 0) 1 d) (omega (arith, bits i)))

  -- erosion keeps it so
  pub erode_once-keeps_exposed_free : (image : List ℕ) → ExposedFree width height sides image →
      ExposedFree width height sides (erode_once width height connectivity sides image)
  erode_once-keeps_exposed_free image free i l exposed =
      get_or-erode_once width height connectivity sides image i l ∙ rw (free i l exposed)

  -- then it makes no difference what lies outside
  pub erode_once-same : (image : List ℕ) → ExposedFree width height sides image →
      erode_once width height connectivity sides image ≡ erode_once width height connectivity all_sides image
  unfolding erode_once
  erode_once-same image free =
      tabulate-same (width * height) _ _
      (λ i l.
      by-eq (get_or image i 0) 1
      (λ e.
      let exposed = any (eqb i) (exposed_positions width height sides) in
      let hidden : exposed ≡ false = by-test exposed (λ t. absurd (omega (arith, free i l t))) (λ t. t) in
      let inside = has_neighbour width height connectivity all_sides 0 image i in
      let same : has_neighbour width height connectivity sides 0 image i ≡ inside =
      has_neighbour-exposed width height sides i l connectivity image c
      ∙ ap (◌||◌ inside) hidden
      ∙ or-false inside in
      ap (λ (t : Bool). cond (eqb (get_or image i 0) 1 && t) 0 (get_or image i 0)) same)
      (λ d. rw (ne_eqb (get_or image i 0) 1 d)))

  -- nor in any number of iterations
  pub iterate-erode_once-same : (n : ℕ) (image : List ℕ) → ExposedFree width height sides image →
      iterate (erode_once width height connectivity sides) n image
      ≡ iterate (erode_once width height connectivity all_sides) n image
  iterate-erode_once-same =
      iterate-same (ExposedFree width height sides)
      (erode_once width height connectivity sides) (erode_once width height connectivity all_sides)
      erode_once-keeps_exposed_free erode_once-same

  -- so after the first iteration of an erosion the sides no longer matter
  pub iterate-erode_once-suc : (n : ℕ) (image : List ℕ) → ((i : ℕ) → get_or image i 0 ≤ 1) →
      iterate (erode_once width height connectivity sides) (suc n) image
      ≡ iterate (erode_once width height connectivity all_sides) n (erode_once width height connectivity sides image)
  unfolding iterate
  iterate-erode_once-suc n image bits =
      iterate-erode_once-same n (erode_once width height connectivity sides image) (erode_once-exposed_free image bits)
