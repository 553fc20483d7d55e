-- The whole-image operations of document 01, said by what n iterations of propagation reach (`ReachLaws`).
--   dilate-reach, dilate-used          n dilations
--   erode-reach, erode-used            n erosions where outside counts as object: what is not reached
--   propagate-reach, propagate-used    n propagations from an image inside the mask
--   within_all                         without a mask, every pixel has the new value or is open

--   reached-image                      the image after layers that turn background to object is what they reach
--   Flooded, flood                     a visit, and layers from what it changed
--   flood-none                         where the visit changes nothing, they leave the image as it is
--   flooded-changed                    they list the pixels that changed, each once
--   flooded-reachable                  as many layers as there are pixels reach what is connected
--   flood-fill, clear-border           flood fill and clear border are such, with as many layers as there are pixels
--   flood-fill-object                  the flood fill of an object pixel changes nothing
-- That after its first iteration the sides of an erosion no longer matter is in the crate `theorems`:
-- `iterate-erode_once-suc` (StepLaws) and `least_iterations-erode_once-suc` (OperationLaws).
-- Assumes nothing.
use Prim.Native.Nat.{ℕ, zero, suc, ◌+◌, ◌-◌, ◌*◌, ◌≤◌, ◌<◌}
use mathlib.Core.Path.{◌≡◌, refl, sym, ap, ap₂, ◌∙◌}
use mathlib.Core.Bool.{Bool, true, false, not, cond, ◌&&◌, ◌||◌, and-true, and-false, and_comm, or-false}
use mathlib.Core.Logic.{◌⊎◌, inl, inr, ⊎_elim}
use mathlib.Core.List.{List, ◌++◌}
use native.Mathlib.Omega.{arith}
use lib.Dec.{eqb}
use lib.ListN.{length, get_or}
use lib.Seq.{ext_get_or}
use borrow.Author.Tests.{eqb-true, eq-eqb, ne_eqb}
use Rattle.lists.specs.Lists.{tabulate, any, occurrences, iterate, bit}
use Rattle.lists.proofs.BoolLaws.{by-test, by-eq, bool_same, not-both, and_right, or_left, or_right, or-true-cases}
use Rattle.lists.proofs.BoolLaws.{bit-eqb}
use Rattle.lists.proofs.ListLaws.{get_or-tabulate, tabulate-is, tabulate-same, occurrences-append}
use Rattle.lists.proofs.IterateLaws.{iterate-suc, iterate-keeps, iterate-same}
use Rattle.neighbours.specs.Grid.{on_border, all_sides}
use Rattle.neighbours.specs.Crop.{Binary}
use Rattle.neighbours.proofs.GridLaws.{adjacent-lt}
use Rattle.model.specs.Steps.{erode_once, dilate_once, propagate_once}
use Rattle.model.specs.Operations.{least_iterations, changed}
use Rattle.model.specs.Connectivity.{of_value, only, border_objects, reachable, component, flood_fill, clear_border}
use Rattle.theorems.proofs.StepLaws.{erode_once-iff, length-dilate_once, length-propagate_once}
use Rattle.theorems.proofs.StepLaws.{get_or-propagate_once}
use Rattle.theorems.proofs.OperationLaws.{erode_once-binary, least_iterations-alike, least_iterations-same}
use Rattle.theorems.proofs.OperationLaws.{changed-once}
use Rattle.engine.specs.declared.Rule.{Rule}
use Rattle.engine.specs.Spread.{Fits, is_open, Changed, Layered}
use Rattle.engine.proofs.FrontierLaws.{area, is_new, fits-same, Colours, colours-cases, Frontier}
use Rattle.engine.proofs.FrontierLaws.{is_open-unmasked, is_open-masked, is_open-same}
use Rattle.engine.proofs.FrontierLaws.{is_open-old, changed-frontier, changed-open}
use Rattle.engine.proofs.ReachLaws.{seeds, within, onward, reach, reached, length-reach, reach-bits}
use Rattle.engine.proofs.ReachLaws.{reach-zero-iff, reach-suc-iff}
use Rattle.engine.proofs.ReachLaws.{reach-active, reach-within, Reached, layered-reach, reach-none}

-- of two values of 0 and 1 exactly one is 1
one_of : (a b : ℕ) → a ≤ 1 → b ≤ 1 → (a ≡ 0 → b ≡ 1) → (b ≡ 1 → a ≡ 0) → a + b ≡ 1
one_of a b p q f g =
    by-eq b 1 (λ e. omega (arith, g e)) (λ d. by-eq a 0 (λ z. absurd (d (f z))) (λ z. omega arith))

module _ (rule : Rule) (mask image : List ℕ) where
  -- in an image of 0 and 1, the object pixels are the image
  seeds-image : rule.new ≡ 1 → Binary rule.width rule.height image → seeds rule (is_new rule image) ≡ image
  unfolding seeds
  seeds-image new b =
      tabulate-is (area rule) _ image b.pixels (λ k l. rw new (sym (bit-eqb (get_or image k 0) (b.bits k))))

  module _ (colours : Colours rule) (none : length mask ≡ 0) (b : Binary rule.width rule.height image) where
    -- without a mask, every pixel has the new value or is open
    pub within_all : (k : ℕ) → is_new rule image k || is_open rule mask image k ≡ true
    within_all k =
        ⊎_elim (λ o. or_right (is_new rule image k) _
        (is_open-unmasked rule mask none image k ∙ eq-eqb (get_or image k 0) rule.old o))
        (λ n. or_left (is_new rule image k) _ (eq-eqb (get_or image k 0) rule.new n))
        (colours-cases rule colours (get_or image k 0) (b.bits k))

    -- so an iteration is a dilation
    onward-dilate : (xs : List ℕ) →
        dilate_once rule.width rule.height rule.connectivity xs ≡ onward rule mask (is_new rule image) image xs
    unfolding within
    onward-dilate xs =
        ext_get_or 0 _ _
        (length-dilate_once rule.width rule.height rule.connectivity xs
        ∙ sym (length-propagate_once rule.width rule.height
        rule.connectivity (within rule mask (is_new rule image) image) xs))
        (λ k lk.
        let l : k < area rule = omega (arith, length-dilate_once rule.width rule.height rule.connectivity xs) in
        let one : get_or (within rule mask (is_new rule image) image) k 0 ≡ 1 =
        get_or-tabulate (area rule) _ k l ∙ ap bit (within_all k) in
        sym
        (get_or-propagate_once rule.width rule.height rule.connectivity
        (within rule mask (is_new rule image) image) xs k l
        ∙ rw (eq-eqb (get_or (within rule mask (is_new rule image) image) k 0) 1 one)))

  -- ---- dilation

  module _ (old : rule.old ≡ 0) (new : rule.new ≡ 1)
      (none : length mask ≡ 0) (b : Binary rule.width rule.height image) where
    -- n dilations are what n iterations reach
    pub dilate-reach : (n : ℕ) →
        iterate (dilate_once rule.width rule.height rule.connectivity) n image
        ≡ reach rule mask (is_new rule image) image n
    unfolding reach
    dilate-reach n =
        iterate-same (λ xs. Unit {0}) (dilate_once rule.width rule.height rule.connectivity)
        (onward rule mask (is_new rule image) image) (λ xs u. u)
        (λ xs u. onward-dilate (inl (old, new)) none b xs) n image tt
        ∙ ap (iterate (onward rule mask (is_new rule image) image) n) (sym (seeds-image new b))

    -- and the same number of iterations is used
    pub dilate-used : (n : ℕ) →
        least_iterations (dilate_once rule.width rule.height rule.connectivity) n image
        ≡ least_iterations (onward rule mask (is_new rule image) image) n (seeds rule (is_new rule image))
    unfolding reach
    dilate-used = least_iterations-same _ _ _ _ dilate-reach

  -- ---- erosion

  module _ (old : rule.old ≡ 1) (new : rule.new ≡ 0)
      (none : length mask ≡ 0) (b : Binary rule.width rule.height image) where
    -- the image after n erosions where all sides count as object
    abbrev eroded : ℕ → List ℕ
    eroded n = iterate (erode_once rule.width rule.height rule.connectivity all_sides) n image

    -- it is of 0 and 1
    eroded-binary : (n : ℕ) → Binary rule.width rule.height (eroded n)
    eroded-binary n =
        iterate-keeps (Binary rule.width rule.height)
        (erode_once rule.width rule.height rule.connectivity all_sides)
        (erode_once-binary rule.width rule.height rule.connectivity all_sides) n image b

    -- each pixel is left or is reached
    eroded-or-reached : (n k : ℕ) → k < area rule →
        get_or (eroded n) k 0 + get_or (reach rule mask (is_new rule image) image n) k 0 ≡ 1
    unfolding iterate
    eroded-or-reached zero k l =
        let reach0 = reach-zero-iff rule mask (is_new rule image) image k in
        one_of _ _ (b.bits k) (reach-bits rule mask (is_new rule image) image 0 k)
        (λ e. reach0.1 (l, eq-eqb (get_or image k 0) rule.new (e ∙ sym new)))
        (λ e. eqb-true (get_or image k 0) rule.new (reach0.0 e).1 ∙ new)
    eroded-or-reached (suc n) k l =
        let ih = eroded-or-reached n in
        let last = iterate-suc (erode_once rule.width rule.height rule.connectivity all_sides) n image in
        let step =
        erode_once-iff rule.width rule.height rule.connectivity (eroded n) (eroded-binary n).bits k l in
        let onto = reach-suc-iff rule mask (is_new rule image) image n k l in
        one_of _ _ ((eroded-binary (suc n)).bits k) (reach-bits rule mask (is_new rule image) image (suc n) k)
        (λ e.
        onto.1 (
          within_all (inr (old, new)) none b k,
          ⊎_elim (λ z. inl (omega (arith, ih k l)))
              (λ h.
              let (j, a, z) = h in
              inr (j, a, omega (arith, ih j (adjacent-lt rule.width rule.height rule.connectivity a))))
              (step.0 (sym (ap (λ (xs : List ℕ). get_or xs k 0) last) ∙ e)),
        ))
        (λ e.
        ap (λ (xs : List ℕ). get_or xs k 0) last
        ∙ step.1
        (⊎_elim (λ z. inl (omega (arith, ih k l)))
        (λ h.
        let (j, a, z) = h in
        inr (j, a, omega (arith, ih j (adjacent-lt rule.width rule.height rule.connectivity a))))
        (onto.0 e).1))

    -- what is left of n erosions is what n iterations do not reach
    pub erode-reach : (n k : ℕ) → k < area rule →
        get_or (iterate (erode_once rule.width rule.height rule.connectivity all_sides) n image) k 0
        ≡ 1 - get_or (reach rule mask (is_new rule image) image n) k 0
    erode-reach n k l = omega (arith, eroded-or-reached n k l)

    -- and the same number of iterations is used
    pub erode-used : (n : ℕ) →
        least_iterations (erode_once rule.width rule.height rule.connectivity all_sides) n image
        ≡ least_iterations (onward rule mask (is_new rule image) image) n (seeds rule (is_new rule image))
    unfolding reach
    erode-used = least_iterations-alike _ _ _ _ (λ j k. (there j k, back j k))
      where
        there : (j k : ℕ) → eroded j ≡ eroded k →
            reach rule mask (is_new rule image) image j ≡ reach rule mask (is_new rule image) image k
        there j k e =
            ext_get_or 0 _ _ (length-reach rule mask (is_new rule image) image j
            ∙ sym (length-reach rule mask (is_new rule image) image k))
            (λ i li.
            let l : i < area rule = omega (arith, length-reach rule mask (is_new rule image) image j) in
            omega (arith, eroded-or-reached j i l, eroded-or-reached k i l, ap (λ (xs : List ℕ). get_or xs i 0) e))

        back : (j k : ℕ) → reach rule mask (is_new rule image) image j ≡ reach rule mask (is_new rule image) image k →
            eroded j ≡ eroded k
        back j k e =
            ext_get_or 0 _ _ ((eroded-binary j).pixels ∙ sym (eroded-binary k).pixels)
            (λ i li.
            let l : i < area rule = omega (arith, (eroded-binary j).pixels) in
            omega (arith, eroded-or-reached j i l, eroded-or-reached k i l, ap (λ (xs : List ℕ). get_or xs i 0) e))

  -- ---- propagation

  module _ (old : rule.old ≡ 0) (new : rule.new ≡ 1) (allowed : rule.allowed ≡ 1)
      (m : Binary rule.width rule.height mask) (b : Binary rule.width rule.height image)
      (inside : (k : ℕ) → get_or image k 0 ≡ 1 → get_or mask k 0 ≡ 1) where
    -- the object pixels and the open ones are the mask
    within-mask : within rule mask (is_new rule image) image ≡ mask
    unfolding within
    within-mask = tabulate-is (area rule) _ mask m.pixels pixel
      where
        pixel : (k : ℕ) → k < area rule → bit (is_new rule image k || is_open rule mask image k) ≡ get_or mask k 0
        pixel k l =
            let free = is_open-masked rule mask (omega (arith, m.pixels)) image k in
            by-eq (get_or image k 0) 1
            (λ e. rw (eq-eqb (get_or image k 0) rule.new (e ∙ sym new)) (sym (inside k e)))
            (λ d.
            let z : get_or image k 0 ≡ 0 = omega (arith, b.bits k) in
            rw (
              ne_eqb (get_or image k 0) rule.new (λ q. d (q ∙ new)),
              free,
              eq-eqb (get_or image k 0) rule.old (z ∙ sym old),
              allowed,
            )
            (sym (bit-eqb (get_or mask k 0) (m.bits k))))

    -- n propagations are what n iterations reach
    pub propagate-reach : (n : ℕ) →
        iterate (propagate_once rule.width rule.height rule.connectivity mask) n image
        ≡ reach rule mask (is_new rule image) image n
    unfolding reach
    propagate-reach n =
        ap (λ (xs : List ℕ). iterate (propagate_once rule.width rule.height rule.connectivity xs) n image)
        (sym within-mask)
        ∙ ap (iterate (onward rule mask (is_new rule image) image) n) (sym (seeds-image new b))

    -- and the same number of iterations is used
    pub propagate-used : (n : ℕ) →
        least_iterations (propagate_once rule.width rule.height rule.connectivity mask) n image
        ≡ least_iterations (onward rule mask (is_new rule image) image) n (seeds rule (is_new rule image))
    unfolding reach
    propagate-used = least_iterations-same _ _ _ _ propagate-reach

-- the image after layers that turn background to object is what they reach
pub reached-image : (rule : Rule) (mask image : List ℕ) → rule.new ≡ 1 → Binary rule.width rule.height image →
    {n filled : ℕ} {image' last total : List ℕ} →
    Reached rule mask (is_new rule image) image n image' last total filled →
    image' ≡ reach rule mask (is_new rule image) image n
reached-image rule mask image new b {n} {image' = image'} r =
    ext_get_or 0 _ _ (size ∙ sym (length-reach rule mask (is_new rule image) image n))
    (λ k lk. pixel k (omega (arith, size)))
  where
    size : length image' ≡ area rule
    size = r.size ∙ b.pixels

    pixel : (k : ℕ) → k < area rule → get_or image' k 0 ≡ get_or (reach rule mask (is_new rule image) image n) k 0
    pixel k l =
        let free = is_open rule mask image k in
        let active = is_new rule image k in
        let now = reached rule mask (is_new rule image) image n k in
        by-test now
        (λ t.
        let one = eqb-true _ 1 t in
        by-test free
        (λ o.
        let turned : get_or image' k 0 ≡ rule.new = rw (o, t) at (r.pixel k l) in
        turned ∙ new ∙ sym one)
        (λ o.
        let kept : get_or image' k 0 ≡ get_or image k 0 = rw o at (r.pixel k l) in
        let was : active ≡ true =
        sym (or-false active) ∙ (rw o at (reach-within rule mask (is_new rule image) image n k one)) in
        kept ∙ eqb-true (get_or image k 0) rule.new was ∙ new ∙ sym one))
        (λ t.
        let kept : get_or image' k 0 ≡ get_or image k 0 = rw (t, and-false free) at (r.pixel k l) in
        by-eq (get_or image k 0) 1
        (λ e.
        let was = eq-eqb (get_or image k 0) rule.new (e ∙ sym new) in
        not-both (eq-eqb _ 1 (reach-active rule mask (is_new rule image) image n k l was)) t)
        (λ d.
        by-eq (get_or (reach rule mask (is_new rule image) image n) k 0) 1 (λ e. not-both (eq-eqb _ 1 e) t)
        (λ z. kept ∙ omega (arith, b.bits k, reach-bits rule mask (is_new rule image) image n k))))

-- ---- layers from what a visit changed

-- the open pixels, as an image
unfoldable pub open_pixels : Rule → List ℕ → List ℕ → List ℕ
open_pixels rule mask image = tabulate (area rule) (λ k. bit (is_open rule mask image k))

-- what n iterations reach among the open pixels from those that are visited
unfoldable pub flooded : Rule → List ℕ → List ℕ → List ℕ → ℕ → List ℕ
flooded rule mask image at n =
    iterate (propagate_once rule.width rule.height rule.connectivity (open_pixels rule mask image)) n
    (seeds rule (λ k. any (eqb k) at && is_open rule mask image k))

-- What a visit of the positions `at` and n layers from the pixels that it changed do: by the image after
-- them and all positions changed
pub record Flooded (rule : Rule) (mask image at : List ℕ) (n : ℕ) (image' all : List ℕ) : Type 0 where
  -- the image has as many pixels as before
  pub size : length image' ≡ length image
  -- what is flooded gets the new value, any other pixel keeps its own
  pub pixel : (k : ℕ) → k < area rule →
      get_or image' k 0 ≡ cond (eqb (get_or (flooded rule mask image at n) k 0) 1) rule.new (get_or image k 0)
  -- the pixels that changed are listed, each once
  pub once : (k : ℕ) → k < area rule → occurrences k all ≡ bit (not (eqb (get_or image k 0) (get_or image' k 0)))
  -- and nothing else is
  pub no_other : (k : ℕ) → area rule ≤ k → occurrences k all ≡ 0

module _ (rule : Rule) (mask image at image₁ first : List ℕ) (fits : Fits rule mask image)
    (c : Changed rule mask image at image₁ first) where
  -- the pixels that the visit changed
  abbrev marked : ℕ → Bool
  marked k = any (eqb k) at && is_open rule mask image k

  -- they and those open afterwards are those that were open
  marked-or-open : (k : ℕ) → k < area rule → marked k || is_open rule mask image₁ k ≡ is_open rule mask image k
  marked-or-open k l =
      bool_same _ _
      (λ e.
      ⊎_elim (λ m. and_right (any (eqb k) at) _ m) (λ o. (changed-open rule mask image at image₁ first fits c k l o).0)
      (or-true-cases (marked k) (is_open rule mask image₁ k) e))
      (λ o.
      by-test (marked k) (or_left (marked k) _)
      (λ m.
      let kept : get_or image₁ k 0 ≡ get_or image k 0 = rw m at (c.pixel k (rw fits.pixels l)) in
      or_right (marked k) _ (is_open-same rule mask image₁ image k kept ∙ o)))

  -- so what is reached from them is what is flooded
  flooded-reach : (n : ℕ) → reach rule mask marked image₁ n ≡ flooded rule mask image at n
  unfolding reach flooded within open_pixels
  flooded-reach n =
      ap
      (λ (xs : List ℕ). iterate
      (propagate_once rule.width rule.height rule.connectivity xs) n (seeds rule marked))
      (tabulate-same (area rule) _ _ (λ k l. ap bit (marked-or-open k l)))

  module _ (n filled : ℕ) (image' last total : List ℕ)
      (layers : Layered rule mask image₁ first n image' last total filled) where
    -- the rule fits the image after the visit, from where its layers go
    fits₁ : Fits rule mask image₁
    fits₁ = fits-same image image₁ fits c.size

    own : Frontier rule mask marked image₁ first
    own = changed-frontier rule mask image at image₁ first fits c

    run : Reached rule mask marked image₁ n image' last total filled
    run = layered-reach rule mask marked image₁ fits₁ own layers

    -- a pixel is flooded, held the old value and has the new one, and is listed once; or it is none of these
    flood-cases : (k : ℕ) → k < area rule →
        ((reached rule mask marked image₁ n k ≡ true)
        × (get_or image k 0 ≡ rule.old)
        × (get_or image' k 0 ≡ rule.new)
        × (occurrences k (first ++ total) ≡ 1))
        ⊎ ((reached rule mask marked image₁ n k ≡ false)
        × (get_or image' k 0 ≡ get_or image k 0)
        × (occurrences k (first ++ total) ≡ 0))
    flood-cases k l =
        let was = get_or image k 0 in
        let free = is_open rule mask image₁ k in
        let now = reached rule mask marked image₁ n k in
        let seeded = c.pixel k (rw fits.pixels l) in
        let listed = c.once k (rw fits.pixels l) in
        let counted = occurrences-append k first total in
        by-test now
        (λ t.
        by-test (marked k)
        (λ m.
        let shut : free ≡ false = own.held k l m in
        let old = is_open-old rule mask image k (and_right (any (eqb k) at) _ m) in
        inl (
          t,
          old,
          (rw (shut, seeded, m) at (run.pixel k l)),
          counted ∙ omega (arith, rw m at listed, rw shut at (run.all k l)),
        ))
        (λ m.
        let inside = reach-within rule mask marked image₁ n k (eqb-true _ 1 t) in
        let o : free ≡ true = rw m at inside in
        let old = is_open-old rule mask image k (sym (marked-or-open k l) ∙ inside) in
        inl (
          t,
          old,
          (rw (o, t) at (run.pixel k l)),
          counted
              ∙ omega (arith, rw m at listed, rw (o, t) at (run.all k l)),
        )))
        (λ t.
        let m : marked k ≡ false =
        by-test (marked k) (λ m. not-both (eq-eqb _ 1 (reach-active rule mask marked image₁ n k l m)) t) (λ m. m) in
        let shut : free && now ≡ false = ap (λ (b : Bool). free && b) t ∙ and-false free in
        inr (
          t,
          (rw (shut, seeded, m) at (run.pixel k l)),
          counted
              ∙ omega (arith, rw m at listed, rw shut at (run.all k l)),
        ))

    -- the visit and the layers flood
    pub flood : Flooded rule mask image at n image' (first ++ total)
    flood =
        record {
          size = run.size ∙ c.size;
          pixel = λ k l.
              rw (← (flooded-reach n))
              (⊎_elim (λ h. rw h.0 h.2) (λ h. rw h.0 h.1) (flood-cases k l));
          once = λ k l.
              ⊎_elim (λ h. rw (h.1, h.2, ne_eqb rule.old rule.new fits.differs) h.3)
              (λ h. rw (h.1, eq-eqb (get_or image k 0) (get_or image k 0) refl) h.2)
              (flood-cases k l);
          no_other = λ k l.
              occurrences-append k first total ∙ omega (arith, run.all_out k l, c.no_other k (rw fits.pixels l));
        }

    -- where the visit changes nothing, they leave the image as it is
    pub flood-none : ((k : ℕ) → k < area rule → any (eqb k) at && is_open rule mask image k ≡ false) → image' ≡ image
    flood-none nothing =
        ext_get_or 0 image' image (run.size ∙ c.size)
        (λ k lk.
        ⊎_elim (λ h. absurd (reach-none rule mask marked image₁ nothing n k (eqb-true _ 1 h.0))) (λ h. h.1)
        (flood-cases k (omega (arith, run.size, c.size, fits.pixels))))

-- as many positions are listed as pixels changed
pub flooded-changed : (rule : Rule) (mask image at : List ℕ) (n : ℕ) (image' all : List ℕ) →
    Flooded rule mask image at n image' all → length all ≡ changed rule.width rule.height image image'
flooded-changed rule mask image at n image' all f =
    changed-once rule.width rule.height image image' all f.once f.no_other

-- as many iterations as there are pixels reach what is connected
pub flooded-reachable : (rule : Rule) (mask image at open' seeds' : List ℕ) → open_pixels rule mask image ≡ open' →
    seeds rule (λ k. any (eqb k) at && is_open rule mask image k) ≡ seeds' →
    flooded rule mask image at (area rule) ≡ reachable rule.width rule.height rule.connectivity open' seeds'
unfolding flooded reachable
flooded-reachable rule mask image at open' seeds' p q =
    ap₂
    (λ (xs ys : List ℕ).
    iterate (propagate_once rule.width rule.height rule.connectivity xs) (area rule) ys)
    p
    q

-- ---- flood fill and clear border

module _ (rule : Rule) (mask image at : List ℕ) (none : length mask ≡ 0) where
  module _ (old : rule.old ≡ 0) (new : rule.new ≡ 1) (i : ℕ) (background : get_or image i 0 ≡ 0)
      (visited : (k : ℕ) → k < area rule → any (eqb k) at ≡ eqb k i) where
    -- from a background pixel, its component is flooded
    flooded-component : flooded rule mask image at (area rule)
        ≡ component rule.width rule.height rule.connectivity image i
    unfolding component of_value only open_pixels seeds
    flooded-component =
        flooded-reachable rule mask image at _ _
        (tabulate-same (area rule) _ _ (λ k l. ap bit (free k)))
        (tabulate-same (area rule) _ _ (λ k l. ap bit (mark k l)))
      where
        free : (k : ℕ) → is_open rule mask image k ≡ eqb (get_or image k 0) (get_or image i 0)
        free k = is_open-unmasked rule mask none image k ∙ rw (old, background)

        mark : (k : ℕ) → k < area rule → any (eqb k) at && is_open rule mask image k ≡ eqb k i
        mark k l =
            by-eq k i
            (λ e.
            let o = is_open-unmasked rule mask none image k ∙ eq-eqb _ rule.old (rw e (background ∙ sym old)) in
            rw (visited k l, o) (and-true (eqb k i)))
            (λ d. rw (visited k l, ne_eqb k i d))

    -- a visit of the pixel and as many layers as there are pixels are the flood fill
    pub flood-fill : (image' all : List ℕ) → length image ≡ area rule →
        Flooded rule mask image at (area rule) image' all →
        image' ≡ flood_fill rule.width rule.height rule.connectivity image i
    unfolding flood_fill
    flood-fill image' all pixels f =
        sym
        (tabulate-is (area rule) _ image' (f.size ∙ pixels)
        (λ k l. sym (f.pixel k l ∙ rw (flooded-component, new, background))))

  module _ (old : rule.old ≡ 1) (new : rule.new ≡ 0) (b : Binary rule.width rule.height image)
      (visited : (k : ℕ) → k < area rule → any (eqb k) at ≡ on_border rule.width rule.height k) where
    -- from the border, the components with a pixel there are flooded
    flooded-border : flooded rule mask image at (area rule)
        ≡ reachable rule.width rule.height rule.connectivity image
        (border_objects rule.width rule.height image)
    unfolding border_objects open_pixels seeds
    flooded-border =
        flooded-reachable rule mask image at _ _
        (tabulate-is (area rule) _ image b.pixels
        (λ k l. rw (object k) (sym (bit-eqb (get_or image k 0) (b.bits k)))))
        (tabulate-same (area rule) _ _ (λ k l. ap bit (mark k l)))
      where
        object : (k : ℕ) → is_open rule mask image k ≡ eqb (get_or image k 0) 1
        object k = is_open-unmasked rule mask none image k ∙ rw old

        mark : (k : ℕ) → k < area rule →
            any (eqb k) at && is_open rule mask image k
            ≡ eqb (get_or image k 0) 1 && on_border rule.width rule.height k
        mark k l =
            rw (visited k l, object k) (and_comm (on_border rule.width rule.height k) (eqb (get_or image k 0) 1))

    -- a visit of the border and as many layers as there are pixels clear it
    pub clear-border : (image' all : List ℕ) → Flooded rule mask image at (area rule) image' all →
        image' ≡ clear_border rule.width rule.height rule.connectivity image
    unfolding clear_border
    clear-border image' all f =
        sym
        (tabulate-is (area rule) _ image' (f.size ∙ b.pixels)
        (λ k l. sym (f.pixel k l ∙ rw (flooded-border, new))))

-- the flood fill of an object pixel changes nothing
pub flood-fill-object : (width height connectivity : ℕ) (image : List ℕ) (i : ℕ) → length image ≡ width * height →
    (get_or image i 0 ≡ 0 → ⊥) → flood_fill width height connectivity image i ≡ image
unfolding flood_fill
flood-fill-object width height connectivity image i pixels object =
    tabulate-is (width * height) _ image pixels (λ k l. rw (ne_eqb (get_or image i 0) 0 object))
