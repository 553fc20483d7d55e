-- The layers of an erosion, and the outer boundary of the objects before and after them.
--   erosion                      the rule: object pixels become background
--   layers-erode                 n layers from a frontier of the background are n erosions by all sides
--   layers-binary, layers-fits   they leave an image of 0 and 1, that the rule fits
--   layers-used                  as many of them are not empty as iterations are used
--   layers-frontier              the last layer is a frontier of the background after them
--   layers-le                    they only take away
--   layers-once, layers-other    all layers together list the pixels that changed, each once and no other
--   OuterBoundary                every background pixel next to an object pixel is listed
--   outer_boundary-frontier      where only background is listed too, that is a frontier of the background
--   visited-outer_boundary       a visit that covers a frontier's neighbours changes exactly those
--   layers-outer_boundary        so they are in the last layer
--   outer_boundary-contour       then the object pixels with a listed 4-neighbour are the contour
--   gathered-iff                 gathered from the contour are the background pixels with an object 4-neighbour
-- Assumes nothing.
use Prim.Native.Nat.{ℕ, ◌-◌, ◌*◌, ◌≤◌, ◌<◌, zero-le}
use native.Mathlib.Nat.{le_refl}
use mathlib.Core.Path.{◌≡◌, refl, sym, ap, ◌∙◌}
use mathlib.Core.Bool.{true, false, not, ◌&&◌}
use mathlib.Core.Logic.{◌↔◌}
use mathlib.Core.List.{List, [], flat_map}
use native.Mathlib.Omega.{arith}
use lib.Dec.{eqb}
use lib.ListN.{length, get_or, take}
use lib.Seq.{slice, ext_get_or}
use borrow.Author.Tests.{eqb-true, eq-eqb, ne_eqb}
use Rattle.lists.specs.Lists.{any, occurrences, iterate, bit}
use Rattle.lists.proofs.BoolLaws.{by-test, by-eq, by-lt, bool_same, not-both, and_left, and_right, and_both, cond-le}
use Rattle.lists.proofs.BoolLaws.{bit_le}
use Rattle.lists.proofs.BoolLaws.{bit-one}
use Rattle.lists.proofs.ListLaws.{member-occurs, occurs-member}
use Rattle.lists.proofs.IterateLaws.{iterate-keeps}
use Rattle.neighbours.specs.Grid.{is_connectivity, all_sides, Adjacent}
use Rattle.neighbours.specs.Crop.{Binary, neighbours, Ready}
use Rattle.neighbours.specs.Contour.{on_contour}
use Rattle.neighbours.proofs.GridLaws.{adjacent-lt, adjacent-sym, around-iff, adjacent-four}
use Rattle.neighbours.proofs.ContourLaws.{on_contour-object, on_contour-iff}
use Rattle.model.specs.Steps.{erode_once}
use Rattle.model.specs.Operations.{least_iterations}
use Rattle.theorems.proofs.OperationLaws.{erode_once-binary}
use Rattle.engine.specs.declared.Rule.{Rule}
use Rattle.engine.specs.Spread.{Fits, is_open, Changed, Layered, start, layer}
use Rattle.operations.specs.Inner.{InHand, Gathered}
use Rattle.engine.proofs.FrontierLaws.{around, is_new, fits-same, Frontier, frontier-same, is_open-unmasked}
use Rattle.engine.proofs.FrontierLaws.{is_open-old}
use Rattle.engine.proofs.FrontierLaws.{changed-member, changed-open}
use Rattle.engine.proofs.ReachLaws.{reach, reached, reach-bits, reach-active, Reached, layered-reach}
use Rattle.engine.proofs.WholeLaws.{erode-reach, erode-used}
use Rattle.operations.proofs.OpenLaws.{hand-member, hand-inside}

module _ (width height connectivity : ℕ) where
  -- object pixels become background
  abbrev pub erosion : Rule
  erosion = record { width = width; height = height; connectivity = connectivity; old = 1; new = 0; allowed = 1 }

  -- an object pixel is open
  object-open : (image : List ℕ) (k : ℕ) → get_or image k 0 ≡ 1 → is_open erosion [] image k ≡ true
  object-open image k e = is_open-unmasked erosion [] refl image k ∙ eq-eqb (get_or image k 0) 1 e

  -- and no other is
  other-shut : (image : List ℕ) (k : ℕ) → (get_or image k 0 ≡ 1 → ⊥) → is_open erosion [] image k ≡ false
  other-shut image k d = is_open-unmasked erosion [] refl image k ∙ ne_eqb (get_or image k 0) 1 d

  -- ---- layers from a frontier

  module _ {image first : List ℕ} (fits : Fits erosion [] image) (b : Binary width height image)
      (f : Frontier erosion [] (is_new erosion image) image first)
      {n filled : ℕ} {image' last total : List ℕ}
      (layers : Layered erosion [] image first n image' last total filled) where
    -- what is reached by them
    run : Reached erosion [] (is_new erosion image) image n image' last total filled
    run = layered-reach erosion [] (is_new erosion image) image fits f layers

    -- a pixel after them is object if it is not reached
    layers-pixel : (k : ℕ) → k < width * height →
        get_or image' k 0 ≡ 1 - get_or (reach erosion [] (is_new erosion image) image n) k 0
    layers-pixel k l =
        by-eq (get_or image k 0) 1
        (λ object.
        let after = run.pixel k l in
        by-eq (get_or (reach erosion [] (is_new erosion image) image n) k 0) 1
        (λ e. (rw (object-open image k object, eq-eqb _ 1 e) at after) ∙ omega (arith, e))
        (λ d.
        (rw (object-open image k object, ne_eqb _ 1 d) at after)
        ∙ omega (arith, object, reach-bits erosion [] (is_new erosion image) image n k)))
        (λ other.
        let background : get_or image k 0 ≡ 0 = omega (arith, b.bits k) in
        let e = reach-active erosion [] (is_new erosion image) image n k l (eq-eqb (get_or image k 0) 0 background) in
        (rw (other-shut image k other) at (run.pixel k l)) ∙ omega (arith, e))

    -- n layers are n erosions where outside counts as object
    pub layers-erode : image' ≡ iterate (erode_once width height connectivity all_sides) n image
    layers-erode =
        let sized : length image' ≡ width * height = run.size ∙ fits.pixels in
        let eroded = iterate-keeps (Binary width height) (erode_once width height connectivity all_sides)
        (erode_once-binary width height connectivity all_sides) n image b in
        ext_get_or 0 _ _ (sized ∙ sym eroded.pixels)
        (λ k lk.
        let l : k < width * height = omega (arith, sized) in
        layers-pixel k l ∙ sym (erode-reach erosion [] image refl refl refl b n k l))

    -- of 0 and 1
    pub layers-binary : Binary width height image'
    layers-binary =
        rw layers-erode
        (iterate-keeps (Binary width height) (erode_once width height connectivity all_sides)
        (erode_once-binary width height connectivity all_sides) n image b)

    -- as many of them are not empty as iterations are used
    pub layers-used : filled ≡ least_iterations (erode_once width height connectivity all_sides) n image
    layers-used = run.used ∙ sym (erode-used erosion [] image refl refl refl b n)

    -- the last one is a frontier of the background
    pub layers-frontier : Frontier erosion [] (is_new erosion image') image' last
    layers-frontier =
        frontier-same erosion [] (reached erosion [] (is_new erosion image) image n) (is_new erosion image') image' last
        (λ k l.
        let pixel = layers-pixel k l in
        let value = get_or (reach erosion [] (is_new erosion image) image n) k 0 in
        bool_same _ _ (λ e. eq-eqb (get_or image' k 0) 0 (omega (arith, pixel, eqb-true value 1 e)))
        (λ e. eq-eqb value 1 (omega (
          arith,
          pixel,
          eqb-true (get_or image' k 0) 0 e,
          reach-bits erosion [] (is_new erosion image) image n k,
        ))))
        run.frontier

    -- they only take away
    pub layers-le : (k : ℕ) → k < width * height → get_or image' k 0 ≤ get_or image k 0
    layers-le k l = rw (run.pixel k l) (search (cond-le, zero-le, le_refl))

    -- all of them together list the pixels that changed, each once
    pub layers-once : (k : ℕ) → k < width * height →
        occurrences k total ≡ bit (not (eqb (get_or image k 0) (get_or image' k 0)))
    layers-once k l =
        let gone = is_open erosion [] image k && reached erosion [] (is_new erosion image) image n k in
        by-test gone
        (λ t.
        let was = is_open-old erosion [] image k (and_left (is_open erosion [] image k) _ t) in
        let now : get_or image' k 0 ≡ 0 = rw t at (run.pixel k l) in
        rw (was, now) (run.all k l ∙ ap bit t))
        (λ t.
        let now : get_or image' k 0 ≡ get_or image k 0 = rw t at (run.pixel k l) in
        rw (now, eq-eqb (get_or image k 0) (get_or image k 0) refl) (run.all k l ∙ ap bit t))

    -- and no other
    pub layers-other : (k : ℕ) → width * height ≤ k → occurrences k total ≡ 0
    layers-other k l = run.all_out k l

    -- the rule fits the image after them
    pub layers-fits : Fits erosion [] image'
    layers-fits = fits-same image image' fits run.size

  -- ---- the background next to the object

  -- every background pixel next to an object pixel is listed
  abbrev pub OuterBoundary : List ℕ → List ℕ → Type 0
  OuterBoundary image listed =
      (k j : ℕ) → k < width * height → get_or image k 0 ≡ 1 → Adjacent width height connectivity k j →
      get_or image j 0 ≡ 0 → any (eqb j) listed ≡ true

  -- where only background is listed too, that is a frontier of the background
  pub outer_boundary-frontier : {image listed : List ℕ} →
      is_connectivity connectivity ≡ true → OuterBoundary image listed →
      ((k : ℕ) → any (eqb k) listed ≡ true → (k < width * height) × (get_or image k 0 ≡ 0)) →
      Frontier erosion [] (is_new erosion image) image listed
  outer_boundary-frontier {image} {listed} c boundary background =
      record {
        inside = λ k m. (background k m).0;
        is_active = λ k m. eq-eqb (get_or image k 0) 0 (background k m).1;
        held = λ k l e. other-shut image k (λ o. omega (arith, o, eqb-true (get_or image k 0) 0 e));
        covers = λ k j l o a e.
            (around-iff width height connectivity listed k).1 (
              j,
              boundary k j l (is_open-old erosion [] image k o) a (eqb-true (get_or image j 0) 0 e),
              adjacent-sym width height connectivity c l a,
            );
      }

  -- where the neighbours of a frontier are visited, and maybe others, those that change are all of it: next to
  -- one that was background before, an object pixel is visited and changes
  pub visited-outer_boundary : {image first at image' added : List ℕ} → Fits erosion [] image →
      Frontier erosion [] (is_new erosion image) image first →
      Changed erosion [] image at image' added →
      ((k : ℕ) → k < width * height → any (eqb k) (around erosion first) ≡ true → any (eqb k) at ≡ true) →
      OuterBoundary image' added
  visited-outer_boundary {image} {first} {at} {image'} {added} fits f c among k j l object a background =
      let lj = adjacent-lt width height connectivity a in
      by-test (any (eqb j) added) (λ m. m)
      (λ m.
      let kept = sym (changed-member erosion [] image at image' added fits c j lj) ∙ m in
      let was : get_or image j 0 ≡ 0 = sym (rw kept at (c.pixel j (rw fits.pixels lj))) ∙ background in
      let (free, missed) = changed-open erosion [] image at image' added fits c k l (object-open image' k object) in
      let visited = among k l (f.covers k j l free a (eq-eqb (get_or image j 0) 0 was)) in
      not-both (and_both (any (eqb k) at) _ visited free) missed)

  -- so it is with the last of some layers, where it was so with the list that they start from
  pub layers-outer_boundary : {image first image' last total : List ℕ} {n filled : ℕ} → Fits erosion [] image →
      Binary width height image →
      Frontier erosion [] (is_new erosion image) image first →
      OuterBoundary image first → Layered erosion [] image first n image' last total filled → OuterBoundary image' last
  layers-outer_boundary fits b f boundary start = boundary
  layers-outer_boundary fits b f boundary (layer before c) =
      visited-outer_boundary (layers-fits fits b f before) (layers-frontier fits b f before) c (λ k l m. m)

  -- where all of it is listed, and only background, the object pixels with a listed 4-neighbour are the contour
  pub outer_boundary-contour : is_connectivity connectivity
      ≡ true → {image listed : List ℕ} → OuterBoundary image listed →
      Frontier erosion [] (is_new erosion image) image listed →
      (k : ℕ) → k < width * height →
      eqb (get_or image k 0) 1 && any (eqb k) (flat_map (neighbours width height 4) listed)
      ≡ on_contour width height image k
  outer_boundary-contour c {image} {listed} boundary f k l =
      let near = around-iff width height 4 listed k in
      let on = on_contour-iff width height image k in
      let object = eqb (get_or image k 0) 1 in
      bool_same _ _
      (λ e.
      let (i, m, a) = near.0 (and_right object _ e) in
      on.1 (
        eqb-true (get_or image k 0) 1 (and_left object _ e),
        (i, adjacent-sym width height 4 refl (f.inside i m) a, eqb-true (get_or image i 0) 0 (f.is_active i m)),
      ))
      (λ e.
      let (o, n) = on.0 e in
      let (j, a, z) = n in
      and_both object _ (eq-eqb (get_or image k 0) 1 o)
      (near.1 (
        j,
        boundary k j l o (adjacent-four width height connectivity c a) z,
        adjacent-sym width height 4 refl l a,
      )))

-- ---- the background next to the contour in hand

module _ {width height : ℕ} {image queue queue₁ : List ℕ} {len begin : ℕ} (ready : Ready width height image queue)
    (hand : InHand width height image queue len)
    (gathered : Gathered width height image (slice 0 len queue) 0 queue queue₁ begin) where
  -- what is gathered from the contour are the background pixels with an object 4-neighbour
  pub gathered-iff : (k : ℕ) →
      (any (eqb k) (take begin queue₁) ≡ true)
      ↔ ((k < width * height) × (get_or image k 0 ≡ 0)
      × ((j : ℕ) × Adjacent width height 4 k j × (get_or image j 0 ≡ 1)))
  gathered-iff k =
      let background = eqb (get_or image k 0) 0 in
      let beside = any (eqb k) (flat_map (neighbours width height 4) (slice 0 len queue)) in
      let near = around-iff width height 4 (slice 0 len queue) k in (
        λ m.
            let once = member-occurs k (take begin queue₁) m in
            by-lt k (width * height)
            (λ l.
            let t = bit-one (background && beside)
            (omega (arith, once, gathered.once k l, bit_le (background && beside))) in
            let (i, mi, a) = near.0 (and_right background beside t) in
            let li = hand-inside ready hand i mi in
            let contoured = sym (hand-member ready hand i li) ∙ mi in (
              l,
              eqb-true (get_or image k 0) 0 (and_left background beside t),
              (i, adjacent-sym width height 4 refl li a, on_contour-object width height image i contoured),
            ))
            (λ l. absurd (omega (arith, once, gathered.no_other k l))),
        λ h.
            let (l, z, n) = h in
            let (j, a, o) = n in
            let lj = adjacent-lt width height 4 a in
            let back = adjacent-sym width height 4 refl l a in
            let contoured = (on_contour-iff width height image j).1 (o, (k, back, z)) in
            let mj = hand-member ready hand j lj ∙ contoured in
            let t = and_both background beside (eq-eqb (get_or image k 0) 0 z) (near.1 (j, mj, back)) in
            occurs-member k (take begin queue₁) (omega (arith, gathered.once k l, ap bit t)),
      )
