-- Dilation from the contour in hand: what it asks of the functions that it calls, and what it gives. Assumes nothing.
--   dilated-pixel, dilated-image   after n layers from the object pixels the image is what n iterations reach
--   last-once                      each position of the contour after is in the last layer once
--   dilate-start                   what the layers ask
--   dilated                        what it gives
use Prim.Native.Nat.{ℕ, suc, ◌-◌, ◌*◌, ◌≤◌, ◌<◌}
use mathlib.Core.Path.{◌≡◌, refl, sym, ap, ◌∙◌}
use mathlib.Core.Bool.{Bool, true, false, not, ◌&&◌, and-false}
use mathlib.Core.Logic.{inl, inr}
use mathlib.Core.List.{List, [], ◌++◌}
use native.Mathlib.Omega.{arith}
use lib.Dec.{eqb}
use lib.ListN.{length, get_or, take, replicate}
use lib.Seq.{slice, length-slice, ext_get_or}
use borrow.Author.Tests.{eqb-true, eqb-false, eq-eqb}
use Rattle.lists.specs.Lists.{select, any, occurrences, bit}
use Rattle.lists.proofs.BoolLaws.{by-test, not-both, and_both}
use Rattle.lists.proofs.ListLaws.{occurrences-zero-iff}
use Rattle.neighbours.specs.Grid.{is_connectivity}
use Rattle.neighbours.specs.Crop.{Binary, Appended}
use Rattle.neighbours.specs.Contour.{on_contour}
use Rattle.neighbours.proofs.GridLaws.{adjacent-lt, adjacent-sym, adjacent-four}
use Rattle.neighbours.proofs.ContourLaws.{on_contour-iff}
use Rattle.model.specs.Operations.{apply, used, effect, applied, used_by}
use Rattle.model.specs.declared.Step.TheVariants.{Dilate}
use Rattle.engine.specs.declared.Rule.{Rule}
use Rattle.engine.specs.declared.Growth.{Growth}
use Rattle.engine.specs.Spread.{is_open, Layered, start, layer, Stretch, Grown}
use Rattle.operations.specs.Inner.{Prepared, Operated}
use Rattle.engine.proofs.FrontierLaws.{area, is_new, is_open-unmasked}
use Rattle.engine.proofs.ReachLaws.{reach, reached, length-reach, reach-bits, reach-active, reach-suc-iff}
use Rattle.engine.proofs.ReachLaws.{Reached, layered-reach, reached-changed}
use Rattle.engine.proofs.WholeLaws.{within_all, dilate-reach, dilate-used}
use Rattle.operations.proofs.HandOnLaws.{HandedOn, handed-on, handed_on-length, kept-handed-on}
use Rattle.operations.proofs.OpenLaws.{to_object, hand_once, to_object-stretch, to_object-frontier}
use Rattle.operations.proofs.PreparedLaws.{step-passes}

-- ---- the image after

module _ (rule : Rule) (mask image : List ℕ) (old : rule.old ≡ 0) (new : rule.new ≡ 1) (none : length mask ≡ 0)
    (b : Binary rule.width rule.height image) {n filled : ℕ} {image' last total : List ℕ}
    (r : Reached rule mask (is_new rule image) image n image' last total filled) where
  -- a pixel after n layers from the object pixels is what n iterations give
  pub dilated-pixel : (k : ℕ) → k < area rule →
      get_or image' k 0 ≡ get_or (reach rule mask (is_new rule image) image n) k 0
  dilated-pixel k l =
      let free = is_open rule mask image k in
      let value = get_or (reach rule mask (is_new rule image) image n) k 0 in
      by-test (eqb value 1)
      (λ t.
      by-test free
      (λ o.
      let turned : get_or image' k 0 ≡ rule.new = rw (o, t) at (r.pixel k l) in
      turned ∙ new ∙ sym (eqb-true value 1 t))
      (λ o.
      let kept : get_or image' k 0 ≡ get_or image k 0 = rw o at (r.pixel k l) in
      let object = eqb-false (get_or image k 0) rule.old (sym (is_open-unmasked rule mask none image k) ∙ o) in
      omega (arith, b.bits k, old, object, eqb-true value 1 t)))
      (λ t.
      let shut : free && eqb value 1 ≡ false = ap (λ (s : Bool). free && s) t ∙ and-false free in
      let kept : get_or image' k 0 ≡ get_or image k 0 = rw shut at (r.pixel k l) in
      let background : get_or image k 0 ≡ 1 → ⊥ =
      λ e.
      let active = eq-eqb (get_or image k 0) rule.new (e ∙ sym new) in
      not-both (eq-eqb value 1 (reach-active rule mask (is_new rule image) image n k l active)) t in
      omega (arith, b.bits k, background, eqb-false value 1 t, reach-bits rule mask (is_new rule image) image n k))

  -- so the image is what they give
  pub dilated-image : image' ≡ reach rule mask (is_new rule image) image n
  dilated-image =
      let sized = r.size ∙ b.pixels in
      ext_get_or 0 image' _ (sized ∙ sym (length-reach rule mask (is_new rule image) image n))
      (λ k l. dilated-pixel k (omega (arith, sized)))

-- ---- from the contour in hand

module _ {width height connectivity iterations : ℕ} {image queue : List ℕ} {len : ℕ}
    (p : Prepared width height (Dilate connectivity iterations) image queue len) where
  -- what is prepared
  connected : is_connectivity connectivity ≡ true
  connected = step-passes p

  -- background is turned to object
  abbrev rule : Rule
  rule = to_object width height connectivity

  -- what the layers ask
  pub dilate-start : Stretch rule [] image queue 0 len
  dilate-start = to_object-stretch p.ready p.hand connected

  -- the layers from it do what as many iterations do
  run : {n filled : ℕ} {image' last total : List ℕ} →
      Layered rule [] image (take len queue) n image' last total filled →
      Reached rule [] (is_new rule image) image n image' last total filled
  run =
      layered-reach rule [] (is_new rule image) image dilate-start.fits
      (to_object-frontier p.ready p.hand connected)

  -- A position on the contour after a layer was reached by that layer: had it been reached before, its background
  -- 4-neighbour would have been reached with the layer
  last-reached : {m filled : ℕ} {image' last total : List ℕ} →
      Reached rule [] (is_new rule image) image (suc m) image' last total filled → (i : ℕ) → i < width * height →
      on_contour width height image' i ≡ true →
      reached rule [] (is_new rule image) image (suc m) i && not (reached rule [] (is_new rule image) image m i) ≡ true
  last-reached {m} {image' = image'} r i l e =
      let pixel = dilated-pixel rule [] image refl refl refl p.ready.binary r in
      let on = (on_contour-iff width height image' i).0 e in
      let (j, beside, background) = on.1 in
      let lj = adjacent-lt width height 4 beside in
      let toward = adjacent-four width height connectivity connected (adjacent-sym width height 4 refl l beside) in
      let all = within_all rule [] image (inl (refl, refl)) refl p.ready.binary j in
      let onto = reach-suc-iff rule [] (is_new rule image) image m j lj in
      let before : reached rule [] (is_new rule image) image m i ≡ false =
      by-test (reached rule [] (is_new rule image) image m i)
      (λ t. absurd (omega (arith, background, pixel j lj, onto.1 (all, inr (i, toward, eqb-true _ 1 t)))))
      (λ t. t) in
      and_both _ _ (eq-eqb _ 1 (sym (pixel i l) ∙ on.0)) (ap not before)

  -- each position on the contour after is in the last layer once; where there is no layer, in the contour in hand
  last-once : {n : ℕ} {image' last total : List ℕ} {filled : ℕ} →
      Layered rule [] image (take len queue) n image' last total filled →
      (i : ℕ) → i < width * height → on_contour width height image' i ≡ true → occurrences i last ≡ 1
  last-once start i l e = hand_once p.ready p.hand i l ∙ ap bit e
  last-once (layer {n = m} before c) i l e =
      let r = run (layer before c) in
      r.last_layer m refl i l ∙ ap bit (last-reached r i l e)

  module _ {image' queue₁ : List ℕ} {layers : Growth}
      (g : Grown rule [] image queue 0 len iterations image' queue₁ layers) where
    -- the last layer's stretch is inside the queue
    short : length (slice layers.from layers.to queue₁) ≤ length queue₁
    short =
        let within : layers.to ≤ length queue₁ = omega (arith, g.stretch.room) in
        omega (arith, length-slice layers.from layers.to queue₁ within)

    module _ {queue₂ : List ℕ} {kept : ℕ}
        (k : Appended queue₁ 0
        (select (on_contour width height image') (slice layers.from layers.to queue₁)) queue₂ kept) where
      -- what dilation gives
      pub dilated : {queue' : List ℕ} → queue' ≡ take kept queue₂ ++ replicate (length queue₂ - kept) 0 →
          Operated width height (Dilate connectivity iterations) [] image queue
          (record { changed = layers.to - len; used = layers.used; contour_len = kept }) image' queue'
      unfolding apply used effect applied used_by
      dilated {queue'} zeros =
          record {
            pictured =
                dilated-image rule [] image refl refl refl p.ready.binary r
                ∙ sym (dilate-reach rule [] image refl refl refl p.ready.binary iterations);
            counted =
                omega (
                  arith,
                  g.extended.counted,
                  reached-changed rule [] (is_new rule image) image dilate-start.fits r,
                );
            least = r.used ∙ sym (dilate-used rule [] image refl refl refl p.ready.binary iterations);
            lasting = handed_on-length width height image' queue queue₂ kept queue' handed;
            queued = handed-on width height image' queue queue₂ kept queue' handed p.ready.room;
          }
        where
          -- what the layers do
          r : Reached rule [] (is_new rule image) image iterations image' g.last g.total layers.used
          r = run g.layered

          -- the last one lists positions of the crop
          inside : (i : ℕ) → width * height ≤ i → any (eqb i) g.last ≡ false
          inside i l = by-test (any (eqb i) g.last) (λ m. absurd (omega (arith, r.frontier.inside i m))) (λ m. m)

          -- those of them on the contour are the contour
          handed : HandedOn width height image' queue queue₂ kept queue'
          handed =
              kept-handed-on width height image' queue₁ _ short k queue g.kept
              (λ i l e. ap (occurrences i) g.stands ∙ last-once g.layered i l e)
              (λ i l. ap (occurrences i) g.stands ∙ (occurrences-zero-iff i g.last).1 (inside i l))
              zeros
