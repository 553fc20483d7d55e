-- Erosion from the contour in hand (`inner::erode`): what it asks of its callees, and what it gives by what they
-- give. The first layer (`Peeled`) takes in the sides; the further layers go on as where all sides count as object;
-- the contour after is gathered from the last layer.
--   differ-twice                             a pixel that goes is listed once, in the first layer or in a further one
--   first-binary, first-le                   the first layer leaves an image of 0 and 1, and only takes away
--   first-background, first-outer_boundary   what it changed is background, and all its outer boundary
--   first-frontier, first-changed            so it is a frontier, and as many positions as pixels changed
--   erode-first, erode-further               what the first layer asks, and what the further ones ask
--   erode-changed, erode-fits                as many positions are queued as pixels changed; they fit
--   erode-pictured, erode-least              the layers are the erosion, and so many iterations are used
--   erode-last                               what the gathering of the contour after asks
--   erode-front, kept-fits                   the contour is gathered, and its length fits
--   erode-none, eroded                       what erosion gives, with no iteration and with some
-- Assumes nothing.
use Prim.Native.Nat.{ℕ, suc, ◌+◌, ◌-◌, ◌*◌, ◌≤◌, ◌<◌, zero-le}
use mathlib.Core.Path.{◌≡◌, refl, sym, ap, ap₂, ◌∙◌}
use mathlib.Core.Bool.{Bool, true, not, cond}
use mathlib.Core.Logic.{inl}
use mathlib.Core.List.{List, [], ◌++◌}
use native.Mathlib.Omega.{arith}
use lib.Dec.{eqb}
use lib.ListN.{length, get_or, take, replicate, length-append}
use lib.Seq.{slice, length-slice}
use borrow.Author.Tests.{eq-eqb, ne_eqb}
use Rattle.neighbours.specs.Limits.{max_pixels}
use Rattle.lists.specs.Lists.{any, occurrences, iterate, bit}
use Rattle.lists.proofs.BoolLaws.{by-eq, by-lt, or_left, and_both, cond-true}
use Rattle.lists.proofs.ListLaws.{same_not, occurrences-append, member-occurs, occurs-member, member-get_or}
use Rattle.lists.proofs.ListLaws.{get_or-slice}
use Rattle.lists.proofs.IterateLaws.{iterate_fixed}
use Rattle.neighbours.specs.Grid.{is_connectivity, all_sides}
use Rattle.neighbours.specs.Crop.{Binary}
use Rattle.neighbours.specs.Contour.{contour}
use Rattle.neighbours.proofs.SideLaws.{all-object}
use Rattle.neighbours.proofs.GridLaws.{adjacent-lt, any-neighbours-iff, has_neighbour-inside}
use Rattle.neighbours.proofs.BorderLaws.{has_neighbour-exposed}
use Rattle.neighbours.proofs.ContourLaws.{occurrences-contour, occurrences-contour-out, length-contour-le}
use Rattle.neighbours.proofs.PositionLaws.{size-le}
use Rattle.model.specs.Steps.{erode_once}
use Rattle.model.specs.Operations.{apply, changed, used, least_iterations, effect, applied, used_by}
use Rattle.model.specs.declared.Report.{Report}
use Rattle.model.specs.declared.Step.TheVariants.{ErodeBySides}
use Rattle.theorems.proofs.StepLaws.{get_or-erode_once, erode_once-le, iterate-erode_once-suc}
use Rattle.theorems.proofs.OperationLaws.{erode_once-binary, least_iterations-is, least_iterations-erode_once-suc}
use Rattle.theorems.proofs.OperationLaws.{changed-le}
use Rattle.theorems.proofs.OperationLaws.{changed-once, changed-zero-iff}
use Rattle.engine.specs.declared.Rule.{Rule}
use Rattle.engine.specs.declared.Growth.{Growth}
use Rattle.engine.specs.Spread.{Fits, Stretch, Grown}
use Rattle.engine.proofs.FrontierLaws.{is_new, Frontier, open_count-unmasked}
use Rattle.operations.specs.declared.Layer.{Layer}
use Rattle.operations.specs.Inner.{Prepared, Operated, Gatherable, Gathered}
use Rattle.operations.specs.Inner.{Peelable, Peeled}
use Rattle.operations.proofs.HandOnLaws.{HandedOn, handed-on, handed_on-length, unchanged-operated}
use Rattle.operations.proofs.PreparedLaws.{step-passes}
use Rattle.operations.proofs.OuterBoundaryLaws.{erosion, layers-erode, layers-binary, layers-le, layers-once}
use Rattle.operations.proofs.OuterBoundaryLaws.{layers-other, layers-used, layers-frontier}
use Rattle.operations.proofs.OuterBoundaryLaws.{OuterBoundary, outer_boundary-frontier}
use Rattle.operations.proofs.OuterBoundaryLaws.{layers-outer_boundary, outer_boundary-contour}

-- of three values of 0 and 1, each at most the one before: where the first and the last differ, just one step does
differ-twice : (a b c : ℕ) → a ≤ 1 → b ≤ a → c ≤ b → bit (not (eqb a b)) + bit (not (eqb b c)) ≡ bit (not (eqb a c))
differ-twice a b c la lb lc =
    by-eq a b (λ e. rw (e, eq-eqb b b refl) (omega arith))
    (λ d.
    let z : b ≡ c = omega arith in
    rw (ne_eqb a b d, eq-eqb b c z, ← z, ne_eqb a b d))

module _ {width height connectivity sides iterations : ℕ} {image queue : List ℕ} {len : ℕ}
    (p : Prepared width height (ErodeBySides connectivity sides iterations) image queue len) where
  -- what is prepared
  connected : is_connectivity connectivity ≡ true
  connected = (step-passes p).0

  -- with no iteration nothing changes
  pub erode-none : {report : Report} {queue' : List ℕ} → iterations ≡ 0 →
      report ≡ record { changed = 0; used = 0; contour_len = len } →
      queue' ≡ take len queue ++ replicate (length queue - len) 0 →
      Operated width height (ErodeBySides connectivity sides iterations) [] image queue report image queue'
  unfolding apply used iterate effect applied used_by
  erode-none {queue' = queue'} none reported zeros =
      rw (none, reported)
      (unchanged-operated width height (ErodeBySides connectivity sides 0) [] image queue len p.ready p.hand refl
      (least_iterations-is (erode_once width height connectivity sides) 0 image 0 zero-le refl
      (λ k l. absurd (omega arith)))
      queue'
      zeros)

  -- the rule
  abbrev rule : Rule
  rule = erosion width height connectivity

  -- what the first layer asks
  pub erode-first : Peelable rule image queue len
  erode-first =
      record { ready = p.ready; hand = p.hand; connected = connected; old = refl; new = refl }

  module _ {image₁ queue₁ : List ℕ} {first : Layer}
      (peeled : Peeled rule sides image queue image₁ queue₁ first) where
    -- ---- the first layer

    -- the positions that it changed
    abbrev added : List ℕ
    added = slice first.from first.to queue₁

    -- they stand inside the queue
    to_le : first.to ≤ length queue₁
    to_le = omega (arith, peeled.room)

    -- it leaves an image of 0 and 1
    first-binary : Binary width height image₁
    first-binary =
        rw peeled.pictured (erode_once-binary width height connectivity sides image p.ready.binary)

    -- it only takes away
    first-le : (k : ℕ) → get_or image₁ k 0 ≤ get_or image k 0
    first-le k = rw peeled.pictured (erode_once-le width height connectivity sides image k)

    -- what it changed is background then
    first-background : (k : ℕ) → any (eqb k) added ≡ true → (k < width * height) × (get_or image₁ k 0 ≡ 0)
    first-background k m =
        let some = member-occurs k added m in
        by-lt k (width * height)
        (λ l.
        by-eq (get_or image k 0) (get_or image₁ k 0)
        (λ e.
        let none = peeled.once k l ∙ ap (λ (t : Bool). bit (not t)) (eq-eqb (get_or image k 0) (get_or image₁ k 0) e) in
        absurd (omega (arith, some, none)))
        (λ d. (l, omega (arith, d, first-le k, p.ready.binary.bits k))))
        (λ l. absurd (omega (arith, some, peeled.no_other k l)))

    -- and all its outer boundary: next to what was background before, no object pixel is left
    first-outer_boundary : OuterBoundary width height connectivity image₁ added
    first-outer_boundary k j l object a background =
        by-eq (get_or image j 0) 0
        (λ z.
        let inside =
        (any-neighbours-iff width height connectivity (λ i. eqb (get_or image i 0) 0) k).1
        (j, a, eq-eqb (get_or image j 0) 0 z) in
        let near =
        has_neighbour-exposed width height sides k l connectivity image connected
        ∙ or_left _ _
        (has_neighbour-inside width height connectivity all_sides 0 image k (all-object width height) ∙ inside) in
        let was : get_or image k 0 ≡ 1 = omega (arith, object, first-le k, p.ready.binary.bits k) in
        let gone = and_both (eqb (get_or image k 0) 1) _ (eq-eqb (get_or image k 0) 1 was) near in
        let zero =
        ap (λ (xs : List ℕ). get_or xs k 0) peeled.pictured
        ∙ get_or-erode_once width height connectivity sides image k l
        ∙ cond-true 0 (get_or image k 0) gone in
        absurd (omega (arith, object, zero)))
        (λ d.
        let e = ne_eqb (get_or image j 0) (get_or image₁ j 0) (λ e. d (e ∙ background)) in
        occurs-member j added
        (omega (arith, peeled.once j (adjacent-lt width height connectivity a), ap (λ (t : Bool). bit (not t)) e)))

    -- so it is a frontier of the background
    first-frontier : Frontier rule [] (is_new rule image₁) image₁ added
    first-frontier = outer_boundary-frontier width height connectivity connected first-outer_boundary first-background

    -- as many positions are queued as pixels changed
    first-changed : first.to - first.from ≡ changed width height image image₁
    first-changed =
        sym (length-slice first.from first.to queue₁ to_le)
        ∙ changed-once width height image image₁ added peeled.once peeled.no_other

    -- ---- the further layers

    -- the rule fits the image after the first one
    first_fits : Fits rule [] image₁
    first_fits =
        record {
          valid = p.ready.valid;
          connected = connected;
          differs = λ e. omega (arith, e);
          pixels = first-binary.pixels;
          masked = inl refl;
        }

    -- what they ask
    pub erode-further : Stretch rule [] image₁ queue₁ first.from first.to
    erode-further =
        record {
          fits = first_fits;
          room = rw (open_count-unmasked rule [] refl image₁) peeled.room;
          ordered = peeled.ordered;
          entries = λ k a l.
              let long = length-slice first.from first.to queue₁ to_le in
              let m = member-get_or added (k - first.from) (omega (arith, long)) in
              let inside = (first-background _ m).0 in
              omega (arith, inside, get_or-slice first.from first.to k queue₁ a l, first-binary.pixels);
        }

    module _ {m : ℕ} {image₂ queue₂ : List ℕ} {layers : Growth}
        (grown : Grown rule [] image₁ queue₁ first.from first.to m image₂ queue₂ layers) where
      -- the image after them is of 0 and 1
      erode-binary : Binary width height image₂
      erode-binary = layers-binary width height connectivity first_fits first-binary first-frontier grown.layered

      -- as many positions are queued as pixels changed
      erode-changed : layers.to - first.from ≡ changed width height image image₂
      erode-changed =
          let rest = layers-once width height connectivity first_fits first-binary first-frontier grown.layered in
          let all = changed-once width height image image₂ (added ++ grown.total)
          (λ k l.
          occurrences-append k added grown.total
          ∙ ap₂ ◌+◌ (peeled.once k l) (rest k l)
          ∙ differ-twice (get_or image k 0) (get_or image₁ k 0) (get_or image₂ k 0) (p.ready.binary.bits k) (first-le k)
          (layers-le width height connectivity first_fits first-binary first-frontier grown.layered k l))
          (λ k l.
          occurrences-append k added grown.total
          ∙ omega (
            arith,
            peeled.no_other k l,
            layers-other width height connectivity first_fits first-binary first-frontier grown.layered k l,
          )) in
          omega (
            arith,
            all,
            length-append added grown.total,
            length-slice first.from first.to queue₁ to_le,
            peeled.ordered,
            grown.extended.counted,
          )

      -- they fit
      pub erode-fits : layers.to - first.from ≤ max_pixels
      erode-fits = omega (arith, erode-changed, changed-le width height image image₂, size-le p.ready.valid)

      -- with the first layer they are the erosion
      erode-pictured : iterations ≡ suc m →
          image₂ ≡ iterate (erode_once width height connectivity sides) iterations image
      erode-pictured e =
          layers-erode width height connectivity first_fits first-binary first-frontier grown.layered
          ∙ ap (iterate (erode_once width height connectivity all_sides) m) peeled.pictured
          ∙ sym (iterate-erode_once-suc width height connectivity connected sides m image p.ready.binary.bits)
          ∙ ap (λ (k : ℕ). iterate (erode_once width height connectivity sides) k image) (sym e)

      -- none of its iterations is used where the first layer is empty, else that one and those of the further layers
      erode-least : iterations ≡ suc m →
          cond (eqb (first.to - first.from) 0) 0 (layers.used + 1)
          ≡ least_iterations (erode_once width height connectivity sides) iterations image
      unfolding iterate
      erode-least e =
          let f = erode_once width height connectivity sides in
          let still = changed-zero-iff width height image image₁ p.ready.binary.pixels first-binary.pixels in
          by-eq (first.to - first.from) 0
          (λ z.
          let fixed : f image ≡ image = sym (still.0 (sym first-changed ∙ z) ∙ peeled.pictured) in
          rw (eq-eqb (first.to - first.from) 0 z)
          (sym (least_iterations-is f iterations image 0 zero-le (sym (iterate_fixed f iterations image fixed))
          (λ k l. absurd (omega arith)))))
          (λ d.
          let moved = same_not image (f image) (λ q. d (first-changed ∙ still.1 (q ∙ sym peeled.pictured))) in
          let all = least_iterations-erode_once-suc width height connectivity sides m image connected
          p.ready.binary in
          let rest = layers-used width height connectivity first_fits first-binary first-frontier grown.layered in
          rw (ne_eqb (first.to - first.from) 0 d, e) (omega (arith, rw moved at all, rw peeled.pictured at rest)))

      -- ---- the contour after

      -- what is asked to gather it
      pub erode-last : Gatherable width height image₂ queue₂ layers.from layers.to 1
      erode-last =
          record {
            valid = p.ready.valid;
            binary = erode-binary;
            is_bit = omega arith;
            ordered = grown.stretch.ordered;
            room = omega (arith, grown.stretch.room, open_count-unmasked rule [] refl image₂);
            entries = λ k a l. omega (arith, grown.stretch.entries k a l, erode-binary.pixels);
          }

      module _ {image' queue₃ : List ℕ} {kept : ℕ}
          (gathered' : Gathered width height image₂ (slice layers.from layers.to queue₂) 1 queue₂ queue₃ kept
          × (image' ≡ image₂)) where
        -- it is gathered
        g' : Gathered width height image₂ (slice layers.from layers.to queue₂) 1 queue₂ queue₃ kept
        g' = gathered'.0

        -- from the last layer
        erode-front : (i : ℕ) → occurrences i (take kept queue₃) ≡ occurrences i (contour width height image₂)
        erode-front i =
            let boundary = layers-outer_boundary width height connectivity
            first_fits first-binary first-frontier first-outer_boundary
            grown.layered in
            let last = layers-frontier width height connectivity first_fits first-binary first-frontier
            grown.layered in
            by-lt i (width * height)
            (λ l.
            (rw grown.stands at (g'.once i l))
            ∙ ap bit (outer_boundary-contour width height connectivity connected boundary last i l)
            ∙ sym (occurrences-contour width height image₂ i l))
            (λ l. g'.no_other i l ∙ sym (occurrences-contour-out width height image₂ i l))

        module _ {queue' : List ℕ} (zeros : queue' ≡ take kept queue₃ ++ replicate (length queue₃ - kept) 0) where
          -- the contour is handed on
          handed : HandedOn width height image₂ queue queue₃ kept queue'
          handed =
              record {
                size = g'.size ∙ grown.kept ∙ peeled.size;
                within = omega (arith, g'.size, g'.within);
                front = erode-front;
                zeros = zeros;
              }

          -- its length fits
          pub kept-fits : kept ≤ max_pixels
          kept-fits =
              let long = handed_on-length width height image₂ queue queue₃ kept queue' handed in
              omega (arith, long, length-contour-le width height image₂, size-le p.ready.valid)

          -- what erosion gives
          pub eroded : {count : ℕ} → iterations ≡ suc m →
              count ≡ cond (eqb (first.to - first.from) 0) 0 (layers.used + 1) →
              Operated width height (ErodeBySides connectivity sides iterations) [] image queue
              (record { changed = layers.to - first.from; used = count; contour_len = kept }) image' queue'
          unfolding apply used effect applied used_by
          eroded e counted =
              rw gathered'.1
              (record {
                pictured = erode-pictured e;
                counted = erode-changed;
                least = counted ∙ erode-least e;
                lasting = handed_on-length width height image₂ queue queue₃ kept queue' handed;
                queued = handed-on width height image₂ queue queue₃ kept queue' handed p.ready.room;
              })
