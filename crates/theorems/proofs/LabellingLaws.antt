-- Laws of `specs/Labelling.antt`: the labels, the holes, the enclosing component and the records are what
-- 01, "Parts, holes, depth", says, with holes by the other connectivity (02, Point 4). Assumes nothing.
--   length-components, label-le      a label for each pixel, at most their count
--   label-object                     0 exactly for what is not an object pixel
--   same-label-iff                   one label for each connected set
--   first_pixel-label, -lt, -le      each label from 1 to the count has a first pixel, its lowest position
--   label-lt, first_pixel-order      before it stand lower labels: the numbers go by first pixels
--   count-lt, holes-count-lt         there are fewer components than pixels, and fewer holes
--   hole_connectivity-is             holes are taken by 4 or by 8
--   holes-components, length-holes   holes are components of an image, so these laws hold of them
--   hole-label-iff, same-hole-iff    which pixels have a hole's label, and which the same
--   hole_parent-pos, -above          a hole has an enclosing component, which the pixel above its first one tells too
--   parent-lt, -above                a component's enclosing component has a lower number; the pixel above the
--                                     component's first one is in the same hole as the pixel to its left
--   length-records, get_or-records       ten numbers a component, in the order of their labels
--   parent_in-records                    the enclosing component by the records is the enclosing component
--   depth-records-outermost, -enclosed   01's depth, by the enclosing component
use Prim.Native.Nat.{ℕ, zero, suc, ◌+◌, ◌-◌, ◌*◌, ◌≤◌, ◌<◌}
use mathlib.Core.Path.{◌≡◌, refl, sym, ap, ◌∙◌}
use mathlib.Core.Bool.{Bool, true, false, cond, ◌&&◌, ◌||◌}
use mathlib.Core.Logic.{⊎_elim, ◌↔◌}
use mathlib.Core.List.{List, ◌++◌}
use native.Mathlib.Omega.{arith}
use lib.Dec.{eqb}
use lib.ListN.{length, get_or, replicate, length-replicate, get_or-replicate, length-append, get_or-append}
use lib.ListN.{get_or-eq_default}
use borrow.Author.Tests.{eqb-true, eqb-false, eq-eqb, ne_eqb}
use Rattle.lists.specs.Lists.{count_from}
use Rattle.lists.proofs.BoolLaws.{by-test, by-eq, by-lt, or-true-cases, or-false-left, or-false-right, not-both}
use Rattle.lists.proofs.BoolLaws.{cond-true, cond-false}
use Rattle.lists.proofs.ListLaws.{length-count_from, length-tabulate, get_or-tabulate, get_or-tabulate-out}
use Rattle.lists.proofs.ListLaws.{select-first}
use Rattle.lists.proofs.ListLaws.{length-flat_map}
use Rattle.lists.proofs.ListLaws.{get_or-flat_map-count_from}
use Rattle.neighbours.specs.Grid.{is_connectivity, on_border, column, Adjacent}
use Rattle.neighbours.specs.Square.{left_of, above_of, HasSquare}
use Rattle.neighbours.proofs.GridLaws.{adjacent-lt, adjacent-sym, adjacent-left, adjacent-first}
use Rattle.neighbours.proofs.GridLaws.{on_border-left, not_border-behind, column-pos}
use Rattle.model.specs.Limits.{record_length}
use Rattle.model.specs.Depth.{parent_in, depth}
use Rattle.model.specs.Connectivity.{Connected, here, next, of_value, component, clear_border}
use Rattle.model.specs.Labelling.{Labels, hole_connectivity, paint, unlabelled, start_if, label_from, components}
use Rattle.model.specs.Labelling.{holes_by, holes, pixels_of, first_pixel, hole_parent, parent, record_of, records}
use Rattle.theorems.proofs.DepthLaws.{parent_in-is, depth-outermost, depth-enclosed}
use Rattle.theorems.proofs.ConnectivityLaws.{connected-lt, connected-value, connected-trans, connected-sym}
use Rattle.theorems.proofs.ConnectivityLaws.{connected-map, connected-before}
use Rattle.theorems.proofs.ConnectivityLaws.{component-iff, hole_pixels-iff}

-- ---- the scan

-- position f, below d, is the first with label a: before it stand lower labels only
pub record First (labels : List ℕ) (d a f : ℕ) : Type 0 where
  pub inside : f < d
  pub label : get_or labels f 0 ≡ a
  pub lower : (j : ℕ) → j < f → get_or labels j 0 < a

-- What holds of the labels when the positions below d have been looked at: they are labels of object
-- pixels, every object pixel below d has one, connected pixels have the same and no others have, and the
-- numbers go by first pixels
pub record Scanned (width height connectivity : ℕ) (image : List ℕ) (d : ℕ) (l : Labels) : Type 0 where
  pub pixels : length l.labels ≡ width * height
  pub most : (j : ℕ) → get_or l.labels j 0 ≤ l.count
  pub object : (j : ℕ) → 1 ≤ get_or l.labels j 0 → get_or image j 0 ≡ 1
  pub seen : (j : ℕ) → j < d → get_or image j 0 ≡ 1 → 1 ≤ get_or l.labels j 0
  pub same : (i j : ℕ) → Connected width height connectivity 1 image i j → get_or l.labels i 0 ≡ get_or l.labels j 0
  pub joined : (i j : ℕ) → 1 ≤ get_or l.labels i 0 → get_or l.labels i 0 ≡ get_or l.labels j 0 →
      Connected width height connectivity 1 image i j
  pub first : (a : ℕ) → 1 ≤ a → a ≤ l.count → (f : ℕ) × First l.labels d a f

module _ (width height : ℕ) where
  -- a label after painting
  get_or-paint : (pixels : List ℕ) (l : Labels) (j : ℕ) → j < width * height →
      get_or (paint width height pixels l).labels j 0
      ≡ cond (eqb (get_or pixels j 0) 1) (suc l.count) (get_or l.labels j 0)
  unfolding paint
  get_or-paint pixels l j inside = get_or-tabulate (width * height) _ j inside

  -- 0 outside
  get_or-paint-out : (pixels : List ℕ) (l : Labels) (j : ℕ) → width * height ≤ j →
      get_or (paint width height pixels l).labels j 0 ≡ 0
  unfolding paint
  get_or-paint-out pixels l j outside = get_or-tabulate-out (width * height) _ j outside

  -- a label for each pixel
  length-paint : (pixels : List ℕ) (l : Labels) → length (paint width height pixels l).labels ≡ width * height
  unfolding paint
  length-paint pixels l = length-tabulate (width * height) _

  -- no label
  get_or-unlabelled : (j : ℕ) → get_or (unlabelled width height).labels j 0 ≡ 0
  unfolding unlabelled
  get_or-unlabelled j =
      by-lt j (width * height) (λ inside. get_or-replicate (width * height) j 0 0 inside)
      (λ outside. get_or-eq_default (replicate (width * height) 0) 0 (rw (length-replicate {A = ℕ}) outside))

module _ (width height connectivity : ℕ) (image : List ℕ) where
  -- nothing is labelled before the scan
  pub scanned-unlabelled : Scanned width height connectivity image 0 (unlabelled width height)
  unfolding unlabelled
  scanned-unlabelled =
      record {
        pixels = length-replicate (width * height) 0;
        most = λ j. omega (arith, none j);
        object = λ j l. absurd (omega (arith, none j));
        seen = λ j l e. absurd (omega arith);
        same = λ i j path. none i ∙ sym (none j);
        joined = λ i j l e. absurd (omega (arith, none i));
        first = λ a l m. absurd (omega arith);
      }
    where
      none : (j : ℕ) → get_or (unlabelled width height).labels j 0 ≡ 0
      none j = get_or-unlabelled width height j

  -- a position that starts no component leaves the labels
  pub scanned-pass : {d : ℕ} {l : Labels} → Scanned width height connectivity image d l →
      (get_or image d 0 ≡ 1 → 1 ≤ get_or l.labels d 0) → Scanned width height connectivity image (suc d) l
  scanned-pass {d} {l} s h =
      record {
        pixels = s.pixels;
        most = s.most;
        object = s.object;
        seen = λ j below e. by-eq j d (λ q. rw q (h (rw q at e))) (λ n. s.seen j (omega arith) e);
        same = s.same;
        joined = s.joined;
        first = λ a one most.
            let (f, r) = s.first a one most in
            (f, record { inside = omega (arith, r.inside); label = r.label; lower = r.lower });
      }

  module _ (c : is_connectivity connectivity ≡ true) (d : ℕ)
      (l : Labels) (s : Scanned width height connectivity image d l)
      (inside : d < width * height) (object : get_or image d 0 ≡ 1) (free : get_or l.labels d 0 ≡ 0) where
    -- the labels after position d has started a component
    abbrev pub after : Labels
    after = paint width height (component width height connectivity image d) l

    -- a path of object pixels joins position d to position j
    abbrev pub Member : ℕ → Type 0
    Member j = Connected width height connectivity 1 image d j

    -- by cases: a pixel that is joined to position d gets the next label, another keeps its own
    by-member {ℓ} : {C : Type ℓ} (j : ℕ) → (Member j → get_or after.labels j 0 ≡ suc l.count → C) →
        ((Member j → ⊥) → get_or after.labels j 0 ≡ get_or l.labels j 0 → C) → C
    by-member j f g =
        let found = rw object at (component-iff width height connectivity image d inside j) in
        let pixels = component width height connectivity image d in
        by-lt j (width * height)
        (λ within.
        let new = get_or-paint width height pixels l j within in
        by-eq (get_or pixels j 0) 1 (λ e. f (found.0 e) (new ∙ cond-true _ _ (eq-eqb _ 1 e)))
        (λ n. g (λ path. n (found.1 path)) (new ∙ cond-false _ _ (ne_eqb _ 1 n))))
        (λ beyond.
        g (λ path. omega (arith, (connected-lt width height connectivity path).1))
        (get_or-paint-out width height pixels l j beyond
        ∙ sym (get_or-eq_default l.labels 0 (omega (arith, s.pixels)))))

    -- a pixel that is joined to it has had no label
    pub member-free : (j : ℕ) → Member j → get_or l.labels j 0 ≡ 0
    member-free j path = sym (s.same d j path) ∙ free

    -- and does not come before it
    member-new : (j : ℕ) → Member j → j < d → ⊥
    member-new j path below =
        omega (arith, member-free j path, s.seen j below (connected-value width height connectivity path).1)

    -- position d is the first pixel of its component
    first-start : First after.labels (suc d) (suc l.count) d
    first-start =
        record {
          inside = omega arith;
          label = by-member d (λ path e. e) (λ n e. absurd (n (here inside object)));
          lower = λ j below.
              by-member j (λ path e. absurd (member-new j path below)) (λ n e. omega (arith, s.most j));
        }

    -- the first pixels of earlier labels stay
    first-earlier : (a f : ℕ) → 1 ≤ a → First l.labels d a f → First after.labels (suc d) a f
    first-earlier a f one r =
        record {
          inside = omega (arith, r.inside);
          label = by-member f (λ path e. absurd (member-new f path r.inside)) (λ n e. e ∙ r.label);
          lower = λ j below.
              by-member j (λ path e. absurd (member-new j path (omega (arith, r.inside))))
              (λ n e. omega (arith, r.lower j below));
        }

    -- connected pixels have one label
    same_after : (i j : ℕ) → Connected width height connectivity 1 image i j →
        get_or after.labels i 0 ≡ get_or after.labels j 0
    same_after i j path =
        by-member i
        (λ p e. by-member j (λ q f. e ∙ sym f) (λ n f. absurd (n (connected-trans width height connectivity p path))))
        (λ n e.
        by-member j
        (λ q f. absurd (n (connected-trans width height connectivity q
        (connected-sym width height connectivity c path))))
        (λ m f. e ∙ s.same i j path ∙ sym f))

    -- pixels with one label are connected
    joined-after : (i j : ℕ) → 1 ≤ get_or after.labels i 0 → get_or after.labels i 0 ≡ get_or after.labels j 0 →
        Connected width height connectivity 1 image i j
    joined-after i j one e =
        by-member i
        (λ p x.
        by-member j (λ q y. connected-trans width height connectivity (connected-sym width height connectivity c p) q)
        (λ n y. absurd (omega (arith, s.most j))))
        (λ n x. by-member j (λ q y. absurd (omega (arith, s.most i)))
        (λ m y. s.joined i j (omega arith) (omega arith)))

    -- so all that is kept
    pub scanned-start : Scanned width height connectivity image (suc d) after
    unfolding paint
    scanned-start =
        record {
          pixels = length-paint width height (component width height connectivity image d) l;
          most = λ j. by-member j (λ path e. omega arith) (λ n e. omega (arith, s.most j));
          object = λ j one.
              by-member j (λ path e. (connected-value width height connectivity path).1)
              (λ n e. s.object j (omega arith));
          seen = λ j below v. by-eq j d (λ q. rw q (omega (arith, first-start.label)))
              (λ m. by-member j (λ path e. omega arith) (λ n e. omega (arith, s.seen j (omega arith) v)));
          same = same_after;
          joined = joined-after;
          first = λ a one upto. by-eq a (suc l.count) (λ e. (d, rw e first-start))
              (λ n. let (f, r) = s.first a one (omega arith) in (f, first-earlier a f one r));
        }

  -- one position of the scan
  scanned-start_if : (c : is_connectivity connectivity ≡ true) (d : ℕ) (l : Labels) →
      Scanned width height connectivity image d l →
      d < width * height →
      Scanned width height connectivity image (suc d)
      (start_if width height connectivity (eqb (get_or image d 0) 1 && eqb (get_or l.labels d 0) 0) image d l)
  unfolding start_if
  scanned-start_if c d l s inside = go (eqb (get_or image d 0) 1) (eqb (get_or l.labels d 0) 0) refl refl
    where
      go : (a b : Bool) → eqb (get_or image d 0) 1 ≡ a → eqb (get_or l.labels d 0) 0 ≡ b →
          Scanned width height connectivity image (suc d) (start_if width height connectivity (a && b) image d l)
      go true true e f = scanned-start c d l s inside (eqb-true _ 1 e) (eqb-true _ 0 f)
      go true false e f = scanned-pass s (λ v. omega (arith, eqb-false (get_or l.labels d 0) 0 f))
      go false b e f = scanned-pass s (λ v. absurd (eqb-false _ 1 e v))

  -- the scan from position d on
  scanned-label_from : (c : is_connectivity connectivity ≡ true) (n d : ℕ) (l : Labels) → d + n ≡ width * height →
      Scanned width height connectivity image d l →
      Scanned width height connectivity image (width * height)
      (label_from width height connectivity image (count_from d n) l)
  unfolding label_from count_from
  scanned-label_from c zero d l e s = let q : d ≡ width * height = omega arith in rw q at s
  scanned-label_from c (suc n) d l e s =
      scanned-label_from c n (suc d) _ (omega arith) (scanned-start_if c d l s (omega arith))

  -- the whole scan
  scanned-components : is_connectivity connectivity ≡ true →
      Scanned width height connectivity image (width * height) (components width height connectivity image)
  unfolding components
  scanned-components c = scanned-label_from c (width * height) 0
      (unlabelled width height) (omega arith) scanned-unlabelled

-- ---- components

module _ (width height connectivity : ℕ) (image : List ℕ) (c : is_connectivity connectivity ≡ true) where
  -- a label for each pixel
  pub length-components : length (components width height connectivity image).labels ≡ width * height
  length-components = (scanned-components width height connectivity image c).pixels

  -- at most the count
  pub label-le : (i : ℕ) → let cs = components width height connectivity image in get_or cs.labels i 0 ≤ cs.count
  label-le = (scanned-components width height connectivity image c).most

  -- an object pixel has a label
  pub label-pos : (i : ℕ) → i < width * height → get_or image i 0 ≡ 1 →
      1 ≤ get_or (components width height connectivity image).labels i 0
  label-pos = (scanned-components width height connectivity image c).seen

  -- 01: background is 0, and nothing else is
  pub label-object : (i : ℕ) → i < width * height →
      (get_or (components width height connectivity image).labels i 0 ≡ 0) ↔ (get_or image i 0 ≡ 1 → ⊥)
  label-object i l =
      let label = get_or (components width height connectivity image).labels i 0 in (
        λ e v. omega (arith, label-pos i l v),
        λ n. by-eq label 0 (λ e. e)
            (λ d. absurd (n ((scanned-components width height connectivity image c).object i (omega arith)))),
      )

  -- the pixels with the label of an object pixel are those that are connected to it
  pub same-label-iff : (i j : ℕ) → i < width * height → get_or image i 0 ≡ 1 →
      let labels = (components width height connectivity image).labels in
      (get_or labels i 0 ≡ get_or labels j 0) ↔ Connected width height connectivity 1 image i j
  same-label-iff i j l v =
      let s = scanned-components width height connectivity image c in
      (s.joined i j (label-pos i l v), s.same i j)

  -- where the scan started a label is its first pixel
  first-components : (a : ℕ) → 1 ≤ a → a ≤ (components width height connectivity image).count →
      let labels = (components width height connectivity image).labels in
      First labels (width * height) a (first_pixel width height labels a)
  unfolding first_pixel pixels_of
  first-components a one most =
      let labels = (components width height connectivity image).labels in
      let (f, r) = (scanned-components width height connectivity image c).first a one most in
      let is =
      select-first (λ i. eqb (get_or labels i 0) a) (width * height) f r.inside (eq-eqb _ a r.label)
      (λ j l. ne_eqb (get_or labels j 0) a (λ e. omega (arith, r.lower j l))) in
      rw is r

  module _ (a : ℕ) (one : 1 ≤ a) (most : a ≤ (components width height connectivity image).count) where
    -- a label from 1 to the count has a first pixel, inside the crop
    pub first_pixel-lt : first_pixel width height (components width height connectivity image).labels a < width * height
    first_pixel-lt = (first-components a one most).inside

    -- which has the label
    pub first_pixel-label : let labels = (components width height connectivity image).labels in
        get_or labels (first_pixel width height labels a) 0 ≡ a
    first_pixel-label = (first-components a one most).label

    -- before it stand lower labels only
    pub label-lt : (j : ℕ) → let labels = (components width height connectivity image).labels in
        j < first_pixel width height labels a → get_or labels j 0 < a
    label-lt = (first-components a one most).lower

    -- so it is the lowest position with the label
    pub first_pixel-le : (j : ℕ) → let labels = (components width height connectivity image).labels in
        get_or labels j 0 ≡ a → first_pixel width height labels a ≤ j
    first_pixel-le j e =
        by-lt j (first_pixel width height (components width height connectivity image).labels a)
        (λ l. absurd (omega (arith, label-lt j l)))
        (λ l. l)

  -- 01: the numbers go by first pixels
  pub first_pixel-order : (a b : ℕ) → 1 ≤ a → a < b → b ≤ (components width height connectivity image).count →
      let labels = (components width height connectivity image).labels in
      first_pixel width height labels a < first_pixel width height labels b
  first_pixel-order a b one less most =
      let labels = (components width height connectivity image).labels in
      let first = first-components a one (omega arith) in
      let last = first-components b (omega arith) most in
      by-lt (first_pixel width height labels a) (first_pixel width height labels b) (λ l. l)
      (λ l.
      by-eq (first_pixel width height labels a) (first_pixel width height labels b)
      (λ e. absurd (omega (arith, first.label, last.label, ap (λ (i : ℕ). get_or labels i 0) e)))
      (λ d. absurd (omega (arith, first.lower (first_pixel width height labels b) (omega arith), last.label))))

  module _ (two : 1 < width * height) where
    -- The first two pixels are neighbours, so they do not both start a component
    first_pixel-second : 2 ≤ (components width height connectivity image).count →
        2 ≤ first_pixel width height (components width height connectivity image).labels 2
    first_pixel-second most =
        let labels = (components width height connectivity image).labels in
        let s = scanned-components width height connectivity image c in
        let first = first-components 1 (omega arith) (omega arith) in
        let second = first-components 2 (omega arith) most in
        let order = first_pixel-order 1 2 (omega arith) (omega arith) most in
        by-eq (first_pixel width height labels 2) 1
        (λ e.
        let start : first_pixel width height labels 1 ≡ 0 = omega (arith, order) in
        let one : get_or labels 0 0 ≡ 1 = rw start at first.label in
        let other : get_or labels 1 0 ≡ 2 = rw e at second.label in
        let path : Connected width height connectivity 1 image 0 1 =
        next (here (omega arith) (s.object 0 (omega arith))) (adjacent-first width height connectivity c two) two
        (s.object 1 (omega arith)) in
        absurd (omega (arith, s.same 0 1 path)))
        (λ n. omega (arith, order))

    -- so from 2 on a label is at most its first pixel's position
    first_pixel-ge : (n a : ℕ) → a ≡ 2 + n → a ≤ (components width height connectivity image).count →
        a ≤ first_pixel width height (components width height connectivity image).labels a
    first_pixel-ge zero a e most = rw e (first_pixel-second (omega arith))
    first_pixel-ge (suc n) a e most =
        omega (
          arith,
          first_pixel-ge n (a - 1) (omega arith) (omega arith),
          first_pixel-order (a - 1) a (omega arith) (omega arith) most,
        )

    -- and a crop of two pixels or more has fewer components than pixels
    pub count-lt : (components width height connectivity image).count < width * height
    count-lt =
        let count = (components width height connectivity image).count in
        by-lt count 2 (λ few. omega arith)
        (λ many.
        omega (
          arith,
          first_pixel-ge (count - 2) count (omega arith) (omega arith),
          first_pixel-lt count (omega arith) (omega arith),
        ))

-- ---- holes

-- holes are taken by 4 or by 8
pub hole_connectivity-is : (connectivity : ℕ) → is_connectivity (hole_connectivity connectivity) ≡ true
unfolding hole_connectivity
hole_connectivity-is connectivity = by-test (eqb connectivity 4) (λ t. rw t) (λ t. rw t)

-- by 8 round 4-connected components
hole_connectivity-four : (connectivity : ℕ) → connectivity ≡ 4 → hole_connectivity connectivity ≡ 8
unfolding hole_connectivity
hole_connectivity-four connectivity four = rw four

-- by 4 round 8-connected ones alone
hole_connectivity-eight : (connectivity : ℕ) → is_connectivity connectivity ≡ true →
    hole_connectivity connectivity ≡ 4 → connectivity ≡ 8
unfolding hole_connectivity
hole_connectivity-eight connectivity c four =
    ⊎_elim (λ e. absurd (omega (arith, rw e at four))) (eqb-true connectivity 8)
    (or-true-cases (eqb connectivity 4) (eqb connectivity 8) c)

module _ (width height connectivity : ℕ) (image : List ℕ) where
  -- the pixels of the holes, as an image
  abbrev pub hole_pixels : List ℕ
  hole_pixels =
      let by = hole_connectivity connectivity in
      clear_border width height by (of_value width height 0 image)

  -- the holes are the components of these pixels: what is said of `components` is said of `holes`
  pub holes-components : holes width height connectivity image
      ≡ components width height (hole_connectivity connectivity) hole_pixels
  unfolding holes holes_by
  holes-components = refl

  -- a label for each pixel
  pub length-holes : length (holes width height connectivity image).labels ≡ width * height
  length-holes = rw holes-components (length-components width height _ hole_pixels (hole_connectivity-is connectivity))

  -- 01, hole: background with no path of background to the first or last row or column; all else is 0
  pub hole-label-iff : (i : ℕ) → i < width * height →
      (get_or (holes width height connectivity image).labels i 0 ≡ 0 → ⊥) ↔ (
      (get_or image i 0 ≡ 0)
      × ((j : ℕ) → on_border width height j ≡ true →
      Connected width height (hole_connectivity connectivity) 0 image j i → ⊥))
  unfolding holes holes_by
  hole-label-iff i l =
      let by = hole_connectivity connectivity in
      let is = hole_connectivity-is connectivity in
      let pixel = hole_pixels-iff width height by image i l in
      let label = label-object width height by hole_pixels is i l in (
        λ d. pixel.0 (by-eq (get_or hole_pixels i 0) 1 (λ e. e) (λ n. absurd (d (label.1 n)))),
        λ h e. label.0 e (pixel.1 h),
      )

  -- a path of background from a hole's pixel is in the hole
  hole-path : {i j : ℕ} → get_or hole_pixels i 0 ≡ 1 →
      Connected width height (hole_connectivity connectivity) 0 image i j →
      Connected width height (hole_connectivity connectivity) 1 hole_pixels i j
  hole-path e (here l v) = here l e
  hole-path {i} e (next {j = j} {k = k} path a l v) =
      let by = hole_connectivity connectivity in
      let is = hole_connectivity-is connectivity in
      let inner = ((hole_pixels-iff width height by image i (connected-lt width height by path).0).0 e).1 in
      let back = connected-sym width height by is (next path a l v) in
      next (hole-path e path) a l
      ((hole_pixels-iff width height by image j l).1 (v, λ b o q. inner b o (connected-trans width height by q back)))

  -- the pixels with the label of a hole's pixel are those that are connected to it
  pub same-hole-iff : (i j : ℕ) → i < width * height →
      let labels = (holes width height connectivity image).labels in
      (get_or labels i 0 ≡ 0 → ⊥) →
      (get_or labels i 0 ≡ get_or labels j 0) ↔ Connected width height (hole_connectivity connectivity) 0 image i j
  unfolding holes holes_by
  same-hole-iff i j l d =
      let by = hole_connectivity connectivity in
      let is = hole_connectivity-is connectivity in
      let hole = (hole_pixels-iff width height by image i l).1 ((hole-label-iff i l).0 d) in
      let same = same-label-iff width height by hole_pixels is i j l hole in (
        λ e. connected-map width height by (λ k m v. ((hole_pixels-iff width height by image k m).0 v).0) (same.0 e),
        λ path. same.1 (hole-path hole path),
      )

-- ---- the enclosing component

module _ (width height connectivity : ℕ) (image : List ℕ) where
  -- a hole's pixel is not on the border, so it has a square
  hole-square : (i : ℕ) → i < width * height →
      (get_or (holes width height connectivity image).labels i 0 ≡ 0 → ⊥) → HasSquare width height i
  hole-square i l d =
      let (background, inner) = (hole-label-iff width height connectivity image i l).0 d in
      by-test (on_border width height i) (λ o. absurd (inner i o (here l background)))
      (λ off.
      record {
        inside = l;
        below = omega (arith, not_border-behind width height i l off);
        far = by-eq (column width i) 0 (λ e. not-both (on_border-left width height i e) off) (λ d. omega arith);
      })

  -- background next to it is in the hole
  hole-beside : (i j : ℕ) → i < width * height → let labels = (holes width height connectivity image).labels in
      (get_or labels i 0 ≡ 0 → ⊥) → Adjacent width height (hole_connectivity connectivity) i j →
      get_or image j 0 ≡ 0 → get_or labels i 0 ≡ get_or labels j 0
  hole-beside i j l d a e =
      let by = hole_connectivity connectivity in
      let back = adjacent-sym width height by (hole_connectivity-is connectivity) l a in
      let background = ((hole-label-iff width height connectivity image i l).0 d).0 in
      (same-hole-iff width height connectivity image i j l d).1 (
      next (here l background) back (adjacent-lt width height by a) e)

  -- a hole's label is at most their count
  pub hole-label-le : (i : ℕ) →
      let hs = holes width height connectivity image in get_or hs.labels i 0 ≤ hs.count
  hole-label-le i =
      rw holes-components
      (label-le width height _ (hole_pixels width height connectivity image) (hole_connectivity-is connectivity) i)

  module _ (hole : ℕ) (one : 1 ≤ hole) (most : hole ≤ (holes width height connectivity image).count) where
    -- a hole's first pixel
    abbrev pub first : ℕ
    first = first_pixel width height (holes width height connectivity image).labels hole

    -- where it is
    pub first-hole : First (holes width height connectivity image).labels (width * height) hole first
    first-hole =
        rw holes-components
        (first-components width height _ (hole_pixels width height connectivity image)
        (hole_connectivity-is connectivity) hole one (rw holes-components at most))

    -- it has a square
    first-square : HasSquare width height first
    first-square = let r = first-hole in hole-square _ r.inside (λ e. omega (arith, r.label))

    module _ (bits : (i : ℕ) → get_or image i 0 ≤ 1) where
      -- what is next to it and before it is object
      before-hole : (j : ℕ) →
          Adjacent width height (hole_connectivity connectivity) first j → j < first → get_or image j 0 ≡ 1
      before-hole j a less =
          let r = first-hole in
          by-eq (get_or image j 0) 1 (λ e. e)
          (λ n.
          let same = hole-beside _ j r.inside (λ e. omega (arith, r.label)) a (omega (arith, bits j)) in
          absurd (omega (arith, r.label, r.lower j less)))

      -- the pixel to its left
      pub left-of-hole : get_or image (left_of first) 0 ≡ 1
      left-of-hole =
          let s = first-square in
          before-hole _
          (adjacent-left width height _ (hole_connectivity-is connectivity) s.inside (λ e. omega (arith, s.far)))
          (omega (arith, s.below))

    -- so a hole has an enclosing component
    pub hole_parent-pos : is_connectivity connectivity ≡ true → ((i : ℕ) → get_or image i 0 ≤ 1) →
        let cs = components width height connectivity image in
        let hs = holes width height connectivity image in
        1 ≤ hole_parent width height cs.labels hs.labels hole
    unfolding hole_parent
    hole_parent-pos c bits =
        label-pos width height connectivity image c _ (omega (arith, first-hole.inside)) (left-of-hole bits)

    -- which the pixel above tells too
    pub hole_parent-above : is_connectivity connectivity ≡ true → ((i : ℕ) → get_or image i 0 ≤ 1) →
        let cs = components width height connectivity image in
        let hs = holes width height connectivity image in
        hole_parent width height cs.labels hs.labels hole ≡ get_or cs.labels (above_of width first) 0
    unfolding hole_parent
    hole_parent-above c bits =
        (same-label-iff width height connectivity image c (left_of first) (above_of width first)
        (omega (arith, first-hole.inside)) (left-of-hole bits)).1
        (connected-before width height connectivity _ c (hole_connectivity-is connectivity)
        (hole_connectivity-four connectivity) first-square (before-hole bits))

  -- a crop has fewer holes than pixels: a hole is not the only pixel
  pub holes-count-lt : 0 < width * height → (holes width height connectivity image).count < width * height
  holes-count-lt pos =
      by-lt (holes width height connectivity image).count 1 (λ none. omega arith)
      (λ some.
      let two : 1 < width * height =
      let s = first-square 1 (omega arith) some in omega (arith, s.below, s.inside) in
      rw holes-components
      (count-lt width height _ (hole_pixels width height connectivity image) (hole_connectivity-is connectivity) two))

  -- A component's enclosing component has a lower number: the first pixel of the enclosing component, that of
  -- the hole and that of the component come in this order
  pub parent-lt : is_connectivity connectivity ≡ true → (p : ℕ) → 1 ≤ p →
      p ≤ (components width height connectivity image).count →
      let cs = components width height connectivity image in
      let hs = holes width height connectivity image in
      parent width height cs.labels hs.labels p < p
  unfolding parent hole_parent
  parent-lt c p one most =
      let cs = components width height connectivity image in
      let hs = holes width height connectivity image in
      let first = first_pixel width height cs.labels p in
      let hole = get_or hs.labels (first - 1) 0 in
      by-test (eqb (column width first) 0 || eqb hole 0) (λ none. rw none one)
      (λ some.
      let pos = column-pos width height first (eqb-false _ 0 (or-false-left _ (eqb hole 0) some)) in
      let held = eqb-false hole 0 (or-false-right (eqb (column width first) 0) _ some) in
      let r = first-hole hole (omega arith) (hole-label-le (first - 1)) in
      let hole_first = first_pixel width height hs.labels hole in
      let order : hole_first ≤ first - 1 =
      by-lt (first - 1) hole_first (λ l. absurd (omega (arith, r.lower (first - 1) l))) (λ l. l) in
      rw some (label-lt width height connectivity image c p one most (hole_first - 1) (omega arith)))

-- A component's first pixel that has a square: the pixel to its left and the one above are in the same hole or
-- both in none, so that the one above tells the enclosing component too
module _ (width height connectivity : ℕ) (image : List ℕ) (c : is_connectivity connectivity ≡ true)
    (bits : (i : ℕ) → get_or image i 0 ≤ 1) (p : ℕ) (one : 1 ≤ p)
    (most : p ≤ (components width height connectivity image).count) where
  abbrev start : ℕ
  start = first_pixel width height (components width height connectivity image).labels p

  -- what is next to it and before it is background
  before-component : (j : ℕ) → Adjacent width height connectivity start j → j < start → get_or image j 0 ≡ 0
  before-component j a less =
      let r = first-components width height connectivity image c p one most in
      let object = (scanned-components width height connectivity image c).object start (omega (arith, r.label)) in
      by-eq (get_or image j 0) 0 (λ e. e)
      (λ n.
      let path : Connected width height connectivity 1 image start j =
      next (here r.inside object) (adjacent-sym width height connectivity c r.inside a)
      (adjacent-lt width height connectivity a) (omega (arith, bits j)) in
      let same = (same-label-iff width height connectivity image c start j r.inside object).1 path in
      absurd (omega (arith, r.label, r.lower j less)))

  -- so they are in one hole or in none
  pub parent_above : HasSquare width height start →
      let labels = (holes width height connectivity image).labels in
      get_or labels (left_of start) 0 ≡ get_or labels (above_of width start) 0
  parent_above s =
      let labels = (holes width height connectivity image).labels in
      let by = hole_connectivity connectivity in
      let is = hole_connectivity-is connectivity in
      let path =
      connected-before width height by connectivity is c (hole_connectivity-eight connectivity c) s before-component in
      let ends = connected-lt width height by path in
      by-eq (get_or labels (left_of start) 0) 0
      (λ none.
      by-eq (get_or labels (above_of width start) 0) 0 (λ e. none ∙ sym e)
      (λ some.
      sym ((same-hole-iff width height connectivity image (above_of width start) (left_of start) ends.1 some).1
      (connected-sym width height by is path))))
      (λ some.
      (same-hole-iff width height connectivity image (left_of start) (above_of width start) ends.0 some).1 path)

-- ---- records

module _ (width height : ℕ) (cs hs : Labels) where
  -- a record is ten numbers
  length-record_of : (p : ℕ) → length (record_of width height cs.labels hs p) ≡ record_length
  unfolding record_of
  length-record_of p = refl

  -- ten a component
  pub length-records : length (records width height cs hs) ≡ record_length * cs.count
  unfolding records
  length-records =
      length-flat_map (record_of width height cs.labels hs) record_length length-record_of (count_from 1 cs.count)
      ∙ ap (λ (n : ℕ). record_length * n) (length-count_from 1 cs.count)

  -- component p's record is the p-th ten entries
  pub get_or-records : (p k : ℕ) → 1 ≤ p → p ≤ cs.count → k < record_length →
      get_or (records width height cs hs) (record_length * (p - 1) + k) 0
      ≡ get_or (record_of width height cs.labels hs p) k 0
  unfolding records
  get_or-records p k one most l =
      let e : 1 + (p - 1) ≡ p = omega arith in
      let piece = record_of width height cs.labels hs in
      get_or-flat_map-count_from piece record_length length-record_of 1 cs.count (p - 1) k (omega arith) l
      ∙ ap (λ (n : ℕ). get_or (piece n) k 0) e

  -- its last entry is the enclosing component
  pub get_or-records-parent : (p : ℕ) → 1 ≤ p → p ≤ cs.count →
      get_or (records width height cs hs) (record_length * p - 1) 0 ≡ parent width height cs.labels hs.labels p
  unfolding record_of
  get_or-records-parent p one most =
      let e : record_length * p - 1 ≡ record_length * (p - 1) + 9 = omega arith in
      rw e (get_or-records p 9 one most (omega arith))

module _ (width height connectivity : ℕ) (image behind : List ℕ)
    (c : is_connectivity connectivity ≡ true) (p : ℕ) (one : 1 ≤ p)
    (most : p ≤ (components width height connectivity image).count) where
  -- the records of an image's components, whatever stands behind them, tell the enclosing component
  pub parent_in-records :
      let cs = components width height connectivity image in
      let hs = holes width height connectivity image in
      parent_in (records width height cs hs ++ behind) p ≡ parent width height cs.labels hs.labels p
  parent_in-records =
      let cs = components width height connectivity image in
      let hs = holes width height connectivity image in
      let all = records width height cs hs in
      let last : get_or (all ++ behind) (record_length * p - 1) 0 ≡ parent width height cs.labels hs.labels p =
      get_or-append all behind 0 (record_length * p - 1) (omega (arith, length-records width height cs hs))
      ∙ get_or-records-parent width height cs hs p one most in
      parent_in-is (all ++ behind) p one (omega (arith, length-records width height cs hs, length-append all behind))
      (omega (arith, parent-lt width height connectivity image c p one most))
      ∙ last

  -- 01, depth: 0 without an enclosing component
  pub depth-records-outermost :
      let cs = components width height connectivity image in
      let hs = holes width height connectivity image in
      parent width height cs.labels hs.labels p ≡ 0 → depth (records width height cs hs ++ behind) p ≡ 0
  depth-records-outermost e = depth-outermost _ p (parent_in-records ∙ e)

  -- else one more than the enclosing component's, which has a lower number
  pub depth-records-enclosed : (q : ℕ) →
      let cs = components width height connectivity image in
      let hs = holes width height connectivity image in
      let all = records width height cs hs ++ behind in
      parent width height cs.labels hs.labels p ≡ suc q → depth all p ≡ suc (depth all (suc q))
  depth-records-enclosed q e = depth-enclosed _ p q (parent_in-records ∙ e)
