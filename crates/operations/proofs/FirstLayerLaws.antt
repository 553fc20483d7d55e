-- The first layer of an erosion (`Peeled`, of `specs/Inner.antt`), from the contour in hand. By 4 the contour is
-- painted, which is a visit of its positions; by any connectivity the neighbours of the background next to the contour
-- are visited. Either way these are the object pixels next to the background. Then the exposed positions of the border
-- are visited, and all of it is one erosion.
--   painted-changed                     to paint distinct open positions is to visit them
--   Next                                of object pixels, those next to the background are visited
--   peeled                              these and the border are the first layer
--   contour-paint, beside-gather        what it asks to paint the contour, and to gather the background next to it
--   contour-visited, contour-next       by 4: the contour is visited; it is the object pixels next to the background
--   contour-border, contour-peeled      what the border asks then; it is the first layer
--   beside-stretch, beside-frontier     by any connectivity: the background can be started from, and is a frontier
--   beside_spread, beside-next          what the visit of its neighbours asks; they are next to the background
--   beside-border, beside-peeled        what the border asks then; it is the first layer
-- Assumes nothing.
use Prim.Native.Nat.{ℕ, ◌+◌, ◌≤◌, ◌<◌, zero-le}
use mathlib.Core.Path.{◌≡◌, refl, sym, ap, ap₂, ◌∙◌}
use mathlib.Core.Bool.{Bool, true, cond, ◌&&◌, and-true, and-false}
use mathlib.Core.Logic.{inl, inr}
use mathlib.Core.List.{List, [], ◌++◌, flat_map, append-nil}
use native.Mathlib.Omega.{arith}
use lib.Dec.{eqb}
use lib.ListN.{length, get_or, take, length-append}
use lib.Seq.{slice, ext_get_or, length-take-le}
use borrow.Author.Tests.{eqb-true}
use Rattle.lists.specs.Lists.{any, occurrences, bit, range, select}
use Rattle.lists.proofs.BoolLaws.{by-test, and_left}
use Rattle.lists.proofs.ListLaws.{any_append, occurrences-append, occurrences-select, occurrences-select-out}
use Rattle.lists.proofs.ListLaws.{length-once}
use Rattle.neighbours.specs.Grid.{all_sides, has_neighbour}
use Rattle.neighbours.specs.Crop.{neighbours, Ready}
use Rattle.neighbours.specs.Border.{exposed_positions}
use Rattle.neighbours.proofs.ExtendedLaws.{slice-extended}
use Rattle.neighbours.proofs.SideLaws.{all-object}
use Rattle.neighbours.proofs.GridLaws.{has_neighbour-inside}
use Rattle.neighbours.proofs.ContourLaws.{on_contour-object, on_contour-test}
use Rattle.neighbours.proofs.BorderLaws.{has_neighbour-exposed}
use Rattle.theorems.proofs.StepLaws.{length-erode_once, get_or-erode_once}
use Rattle.engine.specs.declared.Rule.{Rule}
use Rattle.engine.specs.Spread.{Fits, is_open, open_count, Room, Changed, Visited, Stretch, start}
use Rattle.engine.specs.Leaves.{Positions, Painted}
use Rattle.engine.proofs.SpreadLaws.{visited-append, end-visited, room-left, stretch-room, old-is_open}
use Rattle.engine.proofs.FrontierLaws.{area, next_to, around, is_new, Frontier, turns, frontier-turns, is_open-unmasked}
use Rattle.engine.proofs.FrontierLaws.{is_open-old}
use Rattle.engine.proofs.FrontierLaws.{is_open-same, is_open-other, open_count-unmasked, contour-frontier}
use Rattle.engine.proofs.PaintLaws.{painted-member, painted-other}
use Rattle.engine.proofs.WholeLaws.{Flooded, flood}
use Rattle.operations.specs.Inner.{InHand, Gatherable, Gathered, Peelable, Peeled}
use Rattle.operations.proofs.OpenLaws.{open_count-le, hand_once, hand-member, hand-other, hand-within}
use Rattle.operations.proofs.OpenLaws.{hand-entries}
use Rattle.operations.proofs.OpenLaws.{hand-room, member-front, length-once-apart}
use Rattle.operations.proofs.OuterBoundaryLaws.{gathered-iff}

-- ---- to paint is to visit

-- distinct positions that are open get the new value: that is a visit of them
painted-changed : (rule : Rule) (mask image positions image' : List ℕ) → (rule.old ≡ rule.new → ⊥) →
    Painted image positions rule.new image' →
    ((k : ℕ) → k < length image → occurrences k positions ≡ bit (any (eqb k) positions)) →
    ((k : ℕ) → length image ≤ k → occurrences k positions ≡ 0) →
    ((k : ℕ) → k < length image → any (eqb k) positions ≡ true → is_open rule mask image k ≡ true) →
    Changed rule mask image positions image' positions
unfolding open_count
painted-changed rule mask image positions image' differs p once other opened =
    record {
      size = p.size;
      pixel = λ k l. rw (← (among k l)) (p.pixel k l);
      once = λ k l. once k l ∙ ap bit (among k l);
      no_other = other;
      room =
          sym (length-append positions left)
          ∙ length-once (is_open rule mask image) (length image) (positions ++ left)
          (λ k l. occurrences-append k positions left ∙ ap₂ ◌+◌ (once k l) (kept k l) ∙ parts k l)
          (λ k l. occurrences-append k positions left ∙ omega (arith, other k l, out k l));
    }
  where
    among : (k : ℕ) → k < length image → any (eqb k) positions ≡ any (eqb k) positions && is_open rule mask image k
    among k l = by-test (any (eqb k) positions) (λ m. rw (m, opened k l m)) (λ m. rw m)

    left : List ℕ
    left = select (is_open rule mask image') (range (length image'))

    kept : (k : ℕ) → k < length image → occurrences k left ≡ bit (is_open rule mask image' k)
    kept k l = occurrences-select (is_open rule mask image') (length image') k (rw p.size l)

    out : (k : ℕ) → length image ≤ k → occurrences k left ≡ 0
    out k l = occurrences-select-out (is_open rule mask image') (length image') k (rw p.size l)

    parts : (k : ℕ) → k < length image →
        bit (any (eqb k) positions) + bit (is_open rule mask image' k) ≡ bit (is_open rule mask image k)
    parts k l =
        by-test (any (eqb k) positions)
        (λ m.
        let shut = is_open-other rule mask image' k (λ e. differs (sym e ∙ painted-member p k l m)) in
        rw (m, shut, opened k l m))
        (λ m. rw (m, is_open-same rule mask image' image k (painted-other p k l m)) (omega arith))

-- ---- the object pixels next to the background, and the border

-- object pixels are open, where they are what changes
open-object : (rule : Rule) → rule.old ≡ 1 → (image : List ℕ) (k : ℕ) →
    is_open rule [] image k ≡ eqb (get_or image k 0) 1
open-object rule old image k = is_open-unmasked rule [] refl image k ∙ ap (eqb (get_or image k 0)) old

-- of object pixels, those in `at` are the ones next to the background
abbrev Next : Rule → List ℕ → List ℕ → Type 0
Next rule image at = (k : ℕ) → k < area rule →
    any (eqb k) at && is_open rule [] image k
    ≡ is_open rule [] image k && has_neighbour rule.width rule.height rule.connectivity all_sides 0 image k

-- the positions `at` are visited, and then the exposed border
module _ (rule : Rule) (sides : ℕ) (old : rule.old ≡ 1) (new : rule.new ≡ 0)
    {image queue at image₁ queue₁ image₂ queue₂ : List ℕ} {from mid to : ℕ} (r : Room rule [] image queue from)
    (v : Visited rule [] image queue from at image₁ queue₁ mid)
    (next : Next rule image at)
    (w : Visited rule [] image₁ queue₁ mid
    (exposed_positions rule.width rule.height sides) image₂ queue₂ to) where
  -- all positions visited
  abbrev visits : List ℕ
  visits = at ++ exposed_positions rule.width rule.height sides

  both : Visited rule [] image queue from visits image₂ queue₂ to
  both = visited-append rule [] v r.fits.differs w

  -- of object pixels, those are visited that have a background neighbour
  goes : (k : ℕ) → k < area rule →
      any (eqb k) visits && is_open rule [] image k
      ≡ eqb (get_or image k 0) 1 && has_neighbour rule.width rule.height rule.connectivity sides 0 image k
  goes k l =
      by-test (is_open rule [] image k)
      (λ o.
      let e = sym (and-true (any (eqb k) at)) ∙ (rw o at (next k l)) in
      let split = has_neighbour-exposed rule.width rule.height sides k l rule.connectivity image
      r.fits.connected in
      let parts = any_append (eqb k) at (exposed_positions rule.width rule.height sides) in
      rw (← (open-object rule old image k), o, parts, e, split) (and-true _))
      (λ o. rw (← (open-object rule old image k), o) (and-false (any (eqb k) visits)))

  -- they are listed, each once
  listed : slice from to queue₂ ≡ both.added ++ []
  listed = slice-extended both.extended (end-visited rule [] both r.room) ∙ sym (append-nil both.added)

  flooded : Flooded rule [] image visits 0 image₂ (both.added ++ [])
  flooded = flood rule [] image visits image₂ both.added r.fits both.changed 0 0 image₂ both.added [] start

  -- that is the first layer
  peeled : {queue₀ : List ℕ} → length queue ≡ length queue₀ →
      Peeled rule sides image queue₀ image₂ queue₂ (record { from = from; to = to })
  peeled same =
      record {
        size = both.extended.size ∙ same;
        pictured =
            ext_get_or 0 _ _
            (both.changed.size
            ∙ r.fits.pixels
            ∙ sym (length-erode_once rule.width rule.height rule.connectivity sides image))
            (λ k lk.
            let l : k < area rule = omega (arith, both.changed.size, r.fits.pixels) in
            both.changed.pixel k (rw r.fits.pixels l)
            ∙ ap₂ (λ (t : Bool) (v : ℕ). cond t v (get_or image k 0)) (goes k l) new
            ∙ sym (get_or-erode_once rule.width rule.height rule.connectivity sides image k l));
        ordered = omega (arith, both.extended.counted);
        room = rw (← old, ← (open_count-unmasked rule [] refl image₂)) (room-left rule [] both r).room;
        once = λ k l. ap (occurrences k) listed ∙ flooded.once k l;
        no_other = λ k l. ap (occurrences k) listed ∙ flooded.no_other k l;
      }

-- ---- from the contour in hand

module _ {width height : ℕ} {image queue : List ℕ} {len : ℕ} (ready : Ready width height image queue)
    (hand : InHand width height image queue len) where
  -- what it asks to paint it
  pub contour-paint : Positions queue 0 len (length image)
  contour-paint =
      record {
        ordered = zero-le;
        within = hand-within ready hand;
        entries = λ k a l. rw ready.binary.pixels (hand-entries ready hand k l);
      }

  -- and to gather the background next to it
  pub beside-gather : Gatherable width height image queue 0 len 0
  beside-gather =
      record {
        valid = ready.valid;
        binary = ready.binary;
        is_bit = zero-le;
        ordered = zero-le;
        room = hand-room ready hand;
        entries = λ k a l. hand-entries ready hand k l;
      }

module _ (rule : Rule) {image queue : List ℕ} {len : ℕ} (p : Peelable rule image queue len) where
  -- the rule fits
  peel-fits : Fits rule [] image
  peel-fits =
      record {
        valid = p.ready.valid;
        connected = p.connected;
        differs = λ e. omega (arith, e, p.old, p.new);
        pixels = p.ready.binary.pixels;
        masked = inl refl;
      }

  -- ---- by 4

  -- there is room for all object pixels
  contour-room : Room rule [] image queue 0
  contour-room =
      record {
        fits = peel-fits;
        room = omega (arith, open_count-le rule [] image, p.ready.binary.pixels, p.ready.room);
      }

  -- of object pixels, the contour is those next to the background
  contour-next : rule.connectivity ≡ 4 → Next rule image (take len queue)
  contour-next four k l =
      let on = hand-member p.ready p.hand k l ∙ on_contour-test rule.width rule.height image k in
      by-test (is_open rule [] image k) (λ o. rw (on, ← (open-object rule p.old image k), o, four) (and-true _))
      (λ o. rw o (and-false (any (eqb k) (take len queue))))

  module _ {image₁ : List ℕ} (painted : Painted image (slice 0 len queue) 0 image₁) where
    -- the contour is visited
    contour-visited : Visited rule [] image queue 0 (take len queue) image₁ queue len
    contour-visited =
        record {
          added = take len queue;
          changed =
              painted-changed rule [] image (take len queue) image₁ peel-fits.differs (rw p.new painted)
              (λ k l.
              hand_once p.ready p.hand k (inside k l)
              ∙ ap bit (sym (hand-member p.ready p.hand k (inside k l))))
              (λ k l. hand-other p.ready p.hand k (rw p.ready.binary.pixels at l))
              (λ k l m.
              let on = sym (hand-member p.ready p.hand k (inside k l)) ∙ m in
              let object = on_contour-object rule.width rule.height image k on in
              old-is_open rule [] image k (object ∙ sym p.old) (inl refl));
          extended =
              record {
                counted = omega (arith, length-take-le len queue (hand-within p.ready p.hand));
                size = refl;
                front = refl;
              };
        }
      where
        inside : (k : ℕ) → k < length image → k < area rule
        inside k l = rw p.ready.binary.pixels at l

    -- what it asks to visit the border
    pub contour-border : Room rule [] image₁ queue len
    contour-border = room-left rule [] contour-visited contour-room

    -- the contour and the exposed border are the first layer by 4
    pub contour-peeled : rule.connectivity ≡ 4 → {sides : ℕ} {image₂ queue₂ : List ℕ} {end : ℕ} →
        Visited rule [] image₁ queue len
        (exposed_positions rule.width rule.height sides) image₂ queue₂ end →
        Peeled rule sides image queue image₂ queue₂ (record { from = 0; to = end })
    contour-peeled four {sides} w =
        peeled rule sides p.old p.new contour-room contour-visited (contour-next four) w refl

  -- ---- by any connectivity

  module _ {image₀ queue₁ : List ℕ} {begin : ℕ}
      (gathered : Gathered rule.width rule.height image (slice 0 len queue) 0 queue queue₁ begin
      × (image₀ ≡ image)) where
    -- the background next to the contour is gathered
    g : Gathered rule.width rule.height image (slice 0 len queue) 0 queue queue₁ begin
    g = gathered.0

    -- which is inside the queue
    begin-le : begin ≤ length queue₁
    begin-le = omega (arith, g.size, g.within)

    -- a layer can start from it
    beside-stretch : Stretch rule [] image queue₁ 0 begin
    unfolding open_count
    beside-stretch =
        record {
          fits = peel-fits;
          room =
              let beside : ℕ → Bool =
              λ k. any (eqb k) (flat_map (neighbours rule.width rule.height 4) (slice 0 len queue)) in
              let all =
              length-once-apart (λ k. eqb (get_or image k 0) 0 && beside k) (is_open rule [] image) (area rule)
              (take begin queue₁)
              g.once g.no_other
              (λ k t o.
              let zero = eqb-true (get_or image k 0) 0 (and_left (eqb (get_or image k 0) 0) (beside k) t) in
              omega (arith, zero, is_open-old rule [] image k o, p.old)) in
              rw p.ready.binary.pixels
              (omega (arith, length-take-le begin queue₁ begin-le, all, g.size, p.ready.room));
          ordered = zero-le;
          entries = λ k a l.
              let m = member-front begin queue₁ k begin-le l in
              rw p.ready.binary.pixels ((gathered-iff p.ready p.hand g (get_or queue₁ k 0)).0 m).0;
        }

    -- it is a frontier of the background
    beside-frontier : Frontier rule [] (is_new rule image) image (take begin queue₁)
    beside-frontier =
        contour-frontier rule [] image (take begin queue₁) peel-fits (inr (p.old, p.new)) p.ready.binary.bits
        (λ k. rw (p.old, p.new) (gathered-iff p.ready p.hand g k))

    -- what the visit of its neighbours asks
    pub beside_spread : Stretch rule [] image₀ queue₁ 0 begin
    beside_spread = rw gathered.1 beside-stretch

    -- behind it there is room
    beside-room : Room rule [] image queue₁ begin
    beside-room = stretch-room rule [] beside-stretch

    module _ {image₁ queue₂ : List ℕ} {mid : ℕ}
        (visited : Visited rule [] image₀ queue₁ begin (around rule (slice 0 begin queue₁)) image₁ queue₂ mid) where
      -- said of the image before
      v : Visited rule [] image queue₁ begin (around rule (slice 0 begin queue₁)) image₁ queue₂ mid
      v = rw gathered.1 at visited

      -- of object pixels, those are visited that are next to the background
      beside-next : Next rule image (around rule (take begin queue₁))
      unfolding turns
      beside-next k l =
          frontier-turns rule [] (is_new rule image) image (take begin queue₁) peel-fits beside-frontier k l
          ∙ ap (λ (v : ℕ). is_open rule [] image k && any (λ j. eqb (get_or image j 0) v) (next_to rule k)) p.new
          ∙ ap (◌&&◌ (is_open rule [] image k))
          (sym (has_neighbour-inside rule.width rule.height rule.connectivity all_sides 0 image k
          (all-object rule.width rule.height)))

      -- what it asks to visit the border
      pub beside-border : Room rule [] image₁ queue₂ mid
      beside-border = room-left rule [] v beside-room

      -- these and the exposed border are the first layer
      pub beside-peeled : {sides : ℕ} {image₂ queue₃ : List ℕ} {end : ℕ} →
          Visited rule [] image₁ queue₂ mid
          (exposed_positions rule.width rule.height sides) image₂ queue₃ end →
          Peeled rule sides image queue image₂ queue₃ (record { from = begin; to = end })
      beside-peeled {sides} w = peeled rule sides p.old p.new beside-room v beside-next w g.size
