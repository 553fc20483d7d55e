-- Flood fill behind the contour in hand: what it asks of the functions that it calls, and what it gives.
-- Assumes nothing.
--   on_contour-flood_fill      what is on the contour of the filled image was on the contour before
--   fill-visit, fill-stretch, fill-keep      what the three calls ask
--   flood-filled               what it gives
use Prim.Native.Nat.{ℕ, ◌-◌, ◌*◌, ◌≤◌, ◌<◌, zero-le}
use mathlib.Core.Path.{◌≡◌, refl, sym, ap, ◌∙◌}
use mathlib.Core.Bool.{true, cond, or-false, and-false}
use mathlib.Core.Logic.{inl, inr, ⊎_elim, ◌↔◌}
use mathlib.Core.List.{List, [], ◌++◌}
use native.Mathlib.Omega.{arith}
use lib.Dec.{eqb}
use lib.ListN.{length, get_or, take, replicate}
use lib.Seq.{length-take-le}
use borrow.Author.Tests.{eq-eqb, ne_eqb}
use Rattle.lists.specs.Lists.{select, any, occurrences, bit}
use Rattle.lists.proofs.BoolLaws.{by-eq, cond-true, cond-false}
use Rattle.neighbours.specs.Grid.{is_connectivity, position}
use Rattle.neighbours.specs.Crop.{Sized, Appended, Extended, inside}
use Rattle.neighbours.proofs.AroundLaws.{inside-at}
use Rattle.neighbours.specs.Contour.{on_contour}
use Rattle.std.specs.Prelude.{Some}
use Rattle.neighbours.proofs.PositionLaws.{position-lt}
use Rattle.neighbours.proofs.GridLaws.{adjacent-lt, adjacent-sym, adjacent-four}
use Rattle.neighbours.proofs.ContourLaws.{on_contour-iff}
use Rattle.neighbours.proofs.ExtendedLaws.{extended-append, get_or-extended, front-extended, slice-extended}
use Rattle.model.specs.Connectivity.{next, flood_fill}
use Rattle.model.specs.Operations.{apply, used, changed, effect, applied, used_by}
use Rattle.model.specs.declared.Step.TheVariants.{FloodFill}
use Rattle.theorems.proofs.ConnectivityLaws.{flood_fill-iff}
use Rattle.theorems.proofs.OperationLaws.{changed-zero-iff, used_once-same, used_once-other}
use Rattle.engine.specs.declared.Rule.{Rule}
use Rattle.engine.specs.declared.Growth.{Growth}
use Rattle.engine.specs.Spread.{Room, Visited, Layered, Stretch, Grown}
use Rattle.engine.specs.Leaves.{Positions}
use Rattle.operations.specs.Inner.{Prepared, Operated}
use Rattle.engine.proofs.SpreadLaws.{is_open-other, end-visited, stretch-room, stretch-visited}
use Rattle.engine.proofs.WholeLaws.{Flooded, flood, flood-none, flooded-changed, flood-fill, flood-fill-object}
use Rattle.operations.proofs.HandOnLaws.{HandedOn, handed-on, handed_on-length, kept-handed-on}
use Rattle.operations.proofs.OpenLaws.{to_object, hand_once, hand-other, hand-within, hand-entries}
use Rattle.operations.proofs.OpenLaws.{to_object-stretch}
use Rattle.operations.proofs.PreparedLaws.{step-passes}

-- What is on the contour of the filled image was on the contour before: a pixel that was filled has no background
-- 4-neighbour left
pub on_contour-flood_fill : (width height connectivity : ℕ) (image : List ℕ) (at : ℕ) →
    is_connectivity connectivity ≡ true → ((k : ℕ) → get_or image k 0 ≤ 1) → at < width * height →
    (i : ℕ) → i < width * height →
    on_contour width height (flood_fill width height connectivity image at) i ≡ true →
    on_contour width height image i ≡ true
on_contour-flood_fill width height connectivity image at connected bits inside i l e =
    let on = (on_contour-iff width height (flood_fill width height connectivity image at) i).0 e in
    let (j, beside, background) = on.1 in
    let lj = adjacent-lt width height 4 beside in
    let toward = adjacent-four width height connectivity connected (adjacent-sym width height 4 refl l beside) in
    let filled = flood_fill-iff width height connectivity image at in
    let was : get_or image j 0 ≡ 0 =
    by-eq (get_or image j 0) 1 (λ one. absurd (omega (arith, background, (filled j inside lj).1 (inl one))))
    (λ d. omega (arith, bits j)) in
    let object : get_or image i 0 ≡ 1 =
    ⊎_elim (λ one. one)
    (λ p. absurd (omega (arith, background, (filled j inside lj).1 (inr (p.0, next p.1 toward lj was)))))
    ((filled i inside l).0 on.0) in
    (on_contour-iff width height image i).1 (object, (j, beside, was))

module _ {width height connectivity x y : ℕ} {image queue : List ℕ} {len : ℕ}
    (p : Prepared width height (FloodFill connectivity x y) image queue len) where
  -- what is prepared
  connected : is_connectivity connectivity ≡ true
  connected = (step-passes p).0

  -- background is turned to object
  abbrev rule : Rule
  rule = to_object width height connectivity

  -- from the pixel in column x and row y
  abbrev at : ℕ
  at = position width x y

  -- it is inside
  at_lt : at < width * height
  at_lt = position-lt (step-passes p).1 (step-passes p).2

  -- the rule fits, and the queue has room behind the contour
  behind : Stretch rule [] image queue 0 len
  behind = to_object-stretch p.ready p.hand connected

  -- what visiting the pixel asks
  pub fill-visit : Room rule [] image queue len × ((j : ℕ) → Some at ≡ Some j → j < length image)
  fill-visit = (
    stretch-room rule [] behind,
    λ j e. let same : at ≡ j = cc in omega (arith, at_lt, p.ready.binary.pixels),
  )

  module _ {image₁ queue₁ : List ℕ} {end : ℕ}
      (v : Visited rule [] image queue len (inside (Some at)) image₁ queue₁ end) where
    -- from what it changed the layers can start
    pub fill-stretch : Stretch rule [] image₁ queue₁ len end
    fill-stretch = stretch-visited rule [] behind v

    module _ {image' queue₂ : List ℕ} {layers : Growth}
        (g : Grown rule [] image₁ queue₁ len end (width * height) image' queue₂ layers) where
      -- the queue keeps its length
      size : length queue₂ ≡ length queue
      size = g.kept ∙ v.extended.size

      -- all is written behind the contour
      whole : Extended queue len (v.added ++ g.total) queue₂ layers.to
      whole = extended-append v.extended g.extended

      -- and inside the queue
      within : layers.to ≤ length queue
      within = omega (arith, g.stretch.room, size)

      -- so the contour still stands there
      front : take len queue₂ ≡ take len queue
      front = front-extended whole within

      -- inside the queue
      short : length (take len queue₂) ≤ length queue₂
      short =
          let room = hand-within p.ready p.hand in
          omega (arith, ap length front, length-take-le len queue room, room, size)

      -- the image keeps its size
      pixels : length image' ≡ width * height
      pixels = g.size ∙ v.changed.size ∙ p.ready.binary.pixels

      -- what keeping the contour asks
      pub fill-keep : Sized width height image' × Positions queue₂ 0 len (width * height)
      fill-keep = (
        record { valid = p.ready.valid; pixels = pixels },
        record {
          ordered = zero-le;
          within = omega (arith, size, hand-within p.ready p.hand);
          entries = λ k a b. rw (get_or-extended whole within k b) (hand-entries p.ready p.hand k b);
        },
      )

      -- the layers start from what the visit changed, and flood with it
      layered : Layered rule [] image₁ v.added (width * height) image' g.last g.total layers.used
      layered = rw (slice-extended v.extended (end-visited rule [] v behind.room)) at g.layered

      flooded : Flooded rule [] image (inside (Some at)) (width * height) image' (v.added ++ g.total)
      flooded =
          flood rule [] image (inside (Some at)) image₁ v.added behind.fits v.changed (width * height)
          layers.used image' g.last g.total layered

      -- one position is visited
      visited : (k : ℕ) → any (eqb k) (inside (Some at)) ≡ eqb k at
      unfolding any
      visited k = rw inside-at (or-false (eqb k at))

      -- they are the flood fill
      filled : image' ≡ flood_fill width height connectivity image at
      filled =
          by-eq (get_or image at 0) 0
          (λ background.
          flood-fill rule [] image (inside (Some at)) refl refl refl at background (λ k l. visited k) image'
          (v.added ++ g.total) p.ready.binary.pixels flooded)
          (λ object.
          flood-none rule [] image (inside (Some at)) image₁ v.added behind.fits v.changed (width * height)
          layers.used image' g.last g.total layered
          (λ k l.
          by-eq k at (λ e. rw (e, is_open-other rule [] image at object) (and-false (any (eqb at) (inside (Some at)))))
          (λ d. rw (visited k, ne_eqb k at d)))
          ∙ sym (flood-fill-object width height connectivity image at p.ready.binary.pixels object))

      -- so many pixels changed
      counted : layers.to - len ≡ changed width height image image'
      counted =
          let all = v.added ++ g.total in
          omega (
            arith,
            whole.counted,
            flooded-changed rule [] image (inside (Some at)) (width * height) image' all flooded,
          )

      module _ {queue₃ : List ℕ} {kept : ℕ}
          (k : Appended queue₂ 0 (select (on_contour width height image') (take len queue₂)) queue₃ kept) where
        -- what flood fill gives
        pub flood-filled : {used' : ℕ} {queue' : List ℕ} → used' ≡ cond (eqb (layers.to - len) 0) 0 1 →
            queue' ≡ take kept queue₃ ++ replicate (length queue₃ - kept) 0 →
            Operated width height (FloodFill connectivity x y) [] image queue
            (record { changed = layers.to - len; used = used'; contour_len = kept }) image' queue'
        unfolding apply used effect applied used_by
        flood-filled {queue' = queue'} once zeros =
            record {
              pictured = filled;
              counted = counted;
              least = once ∙ least;
              lasting = handed_on-length width height image' queue queue₃ kept queue' handed;
              queued = handed-on width height image' queue queue₃ kept queue' handed p.ready.room;
            }
          where
            -- no pixel changed exactly if the image is as it was
            same : (changed width height image image' ≡ 0) ↔ (image ≡ image')
            same = changed-zero-iff width height image image' p.ready.binary.pixels pixels

            -- so one iteration is used if any changed
            least : cond (eqb (layers.to - len) 0) 0 1 ≡ used width height (FloodFill connectivity x y) [] image
            least =
                by-eq (layers.to - len) 0
                (λ z. cond-true 0 1 (eq-eqb _ 0 z) ∙ sym (used_once-same image _ (same.0 (sym counted ∙ z) ∙ filled)))
                (λ d.
                cond-false 0 1 (ne_eqb _ 0 d)
                ∙ sym (used_once-other image _ (λ e. d (counted ∙ same.1 (e ∙ sym filled)))))

            -- what is left of the contour in hand is the contour
            handed : HandedOn width height image' queue queue₃ kept queue'
            handed =
                kept-handed-on width height image' queue₂ _ short k queue size
                (λ i l e.
                ap (occurrences i) front
                ∙ hand_once p.ready p.hand i l
                ∙ ap bit
                (on_contour-flood_fill width height connectivity image at connected p.ready.binary.bits at_lt i l
                (rw filled at e)))
                (λ i l. ap (occurrences i) front ∙ hand-other p.ready p.hand i l)
                zeros
