-- Laws of `Marked` (`specs/Leaves.antt`) and of `is_contour` (of the crate `model`). Assumes nothing.
--   is_on_contour-iff                    on the contour is inside the crop and passes the contour's test
--   occurrences-is_on_contour            the contour holds each position that is on it once, and no other number
--   is_contour-iff, is_contour-long      a contour handed in is right if it is within the queue and holds the same
--   Marking                            the entries so far are right, and are painted with the mark
--   marking-none, marking-one          no entry so far, and one more
--   is_on_contour-marking-iff            on the contour of the marked image is on the contour and not marked
--   marked-wrong, marked_all           marking ends at a wrong entry, or after the last
--   is_contour-wrong, is_contour-left    whether the contour handed in is right, by where marking ends and what it
--                                        leaves
--   painted-back                       with the marks painted over with 1 the image is as it was
use Prim.Native.Nat.{ℕ, suc, ◌*◌, ◌≤◌, ◌<◌}
use mathlib.Core.Path.{◌≡◌, refl, sym, ap, ◌∙◌}
use mathlib.Core.Bool.{Bool, true, false, not, ◌&&◌}
use mathlib.Core.Logic.{◌↔◌}
use mathlib.Core.List.{List}
use native.Mathlib.Omega.{arith}
use lib.Dec.{eqb, leb, ltb}
use lib.ListN.{length, get_or, take, set}
use lib.Seq.{take-suc, get_or-take, length-take-le, ext_get_or}
use borrow.Author.Tests.{eqb-true, eq-eqb, ne_eqb, ltb-true, lt-ltb, le-ltb, leb-true, le-leb}
use Rattle.lists.specs.Lists.{any, all, occurrences, bit}
use Rattle.lists.proofs.BoolLaws.{by-test, by-eq, by-lt, not-both, and_left, and_right, and_both, bit_le, bit-one}
use Rattle.lists.proofs.ListLaws.{any_some, any_none, all-member, member-all, member-range-lt, lt-member-range}
use Rattle.lists.proofs.ListLaws.{member-get_or}
use Rattle.lists.proofs.ListLaws.{occurrences-nil, occurrences-snoc, occurrences-take-le, member-occurs, occurs-member}
use Rattle.lists.proofs.ListLaws.{occurrences-zero-iff}
use Rattle.neighbours.specs.Grid.{positions, position, column, row}
use Rattle.neighbours.specs.Crop.{mark}
use Rattle.neighbours.specs.Contour.{on_contour, contour}
use Rattle.neighbours.proofs.GridLaws.{adjacent-lt}
use Rattle.neighbours.proofs.PositionLaws.{position-column-row}
use Rattle.neighbours.proofs.ContourLaws.{on_contour-object, on_contour-iff, occurrences-contour}
use Rattle.neighbours.proofs.ContourLaws.{occurrences-contour-out}
use Rattle.model.specs.Refusals.{is_contour}
use Rattle.engine.specs.Leaves.{Painted, is_on_contour, Marked}
use Rattle.engine.proofs.PaintLaws.{painted-none, painted-one, painted-member, painted-other}

-- ---- on the contour

module _ (width height : ℕ) (image : List ℕ) (i : ℕ) where
  -- on the contour is inside the crop and passes the contour's test
  pub is_on_contour-iff : (is_on_contour width height image i ≡ true)
      ↔ ((i < width * height) × (on_contour width height image i ≡ true))
  unfolding is_on_contour
  is_on_contour-iff =
      let inside = ltb i (width * height) in
      let test = on_contour width height image i in (
        λ e. (ltb-true i (width * height) (and_left inside test e), and_right inside test e),
        λ h. and_both inside test (lt-ltb i (width * height) h.0) h.1,
      )

  -- inside the crop the test decides
  pub is_on_contour-inside : i < width * height → is_on_contour width height image i ≡ on_contour width height image i
  unfolding is_on_contour
  is_on_contour-inside l = rw (lt-ltb i (width * height) l)

  -- by its column and row
  pub is_on_contour-tested : {at : ℕ} {test : Bool} → at ≡ i → at < width * height →
      test ≡ on_contour width height image (position width (column width at) (row width at)) →
      is_on_contour width height image i ≡ test
  is_on_contour-tested e l t =
      is_on_contour-inside (omega arith)
      ∙ ap (on_contour width height image) (sym (position-column-row _ _ ∙ e))
      ∙ sym t

  -- outside there is no contour
  pub is_on_contour-outside : width * height ≤ i → is_on_contour width height image i ≡ false
  unfolding is_on_contour
  is_on_contour-outside l = rw (le-ltb i (width * height) l)

  -- the contour holds each position that is on it once, and no other
  pub occurrences-is_on_contour : occurrences i (contour width height image) ≡ bit (is_on_contour width height image i)
  occurrences-is_on_contour =
      by-lt i (width * height)
      (λ l. rw (is_on_contour-inside l) (occurrences-contour width height image i l))
      (λ l. rw (is_on_contour-outside l) (occurrences-contour-out width height image i l))

  -- what counts at least once as on the contour is on it
  bit-is_on_contour : 1 ≤ bit (is_on_contour width height image i) → is_on_contour width height image i ≡ true
  bit-is_on_contour h = bit-one _ (omega (arith, bit_le (is_on_contour width height image i)))

  -- so what is on the contour is a member of it, and no other number is
  pub member-contour-iff : (any (eqb i) (contour width height image) ≡ true) ↔
      (is_on_contour width height image i ≡ true)
  member-contour-iff = (
    λ e. bit-is_on_contour (omega (arith, member-occurs i (contour width height image) e, occurrences-is_on_contour)),
    λ e. occurs-member i (contour width height image) (omega (arith, occurrences-is_on_contour, ap bit e)),
  )

-- ---- the contour handed in

-- each position that is on the contour is there once, and no other number
abbrev pub EachOnce : ℕ → ℕ → List ℕ → List ℕ → Type 0
EachOnce width height image entries = (i : ℕ) → occurrences i entries ≡ bit (is_on_contour width height image i)

module _ (width height : ℕ) (image entries : List ℕ) where
  -- where each entry is a member of the contour, and each member is there once
  members-each_once : all (λ i. any (eqb i) (contour width height image)) entries ≡ true →
      all (λ i. eqb (occurrences i entries) 1) (contour width height image) ≡ true → EachOnce width height image entries
  members-each_once among once i =
      by-test (is_on_contour width height image i)
      (λ on.
      let member = (member-contour-iff width height image i).1 on in
      let one = all-member (λ j. eqb (occurrences j entries) 1) (contour width height image) once i member in
      eqb-true (occurrences i entries) 1 one ∙ sym (ap bit on))
      (λ off.
      by-lt 0 (occurrences i entries)
      (λ some.
      let member = all-member (λ j. any (eqb j) (contour width height image)) entries among i
      (occurs-member i entries some) in
      not-both ((member-contour-iff width height image i).0 member) off)
      (λ none. omega (arith, ap bit off)))

  -- and the other way
  each_once-among : EachOnce width height image entries →
      all (λ i. any (eqb i) (contour width height image)) entries ≡ true
  each_once-among once =
      member-all (λ i. any (eqb i) (contour width height image)) entries
      (λ i member.
      let on = bit-is_on_contour width height image i (omega (arith, once i, member-occurs i entries member)) in
      (member-contour-iff width height image i).1 on)

  each_once-once : EachOnce width height image entries →
      all (λ i. eqb (occurrences i entries) 1) (contour width height image) ≡ true
  each_once-once once =
      member-all (λ i. eqb (occurrences i entries) 1) (contour width height image)
      (λ i member. eq-eqb (occurrences i entries) 1
      (once i ∙ ap bit ((member-contour-iff width height image i).0 member)))

-- a contour handed in is right if it is within the queue and has each position once, and no other
pub is_contour-iff : (width height : ℕ) (image queue : List ℕ) (n : ℕ) →
    (is_contour width height image queue n ≡ true) ↔ ((n ≤ length queue) × EachOnce width height image (take n queue))
unfolding is_contour
is_contour-iff width height image queue n =
    let handed = take n queue in
    let within = leb n (length queue) in
    let among = all (λ i. any (eqb i) (contour width height image)) handed in
    let once = all (λ i. eqb (occurrences i handed) 1) (contour width height image) in (
      λ e.
          let first = and_left (within && among) once e in (
            leb-true n (length queue) (and_left within among first),
            members-each_once width height image handed (and_right within among first)
                (and_right (within && among) once e),
          ),
      λ h.
          let first = and_both within among (le-leb n (length queue) h.0)
          (each_once-among width height image handed h.1) in
          and_both (within && among) once first (each_once-once width height image handed h.1),
    )

-- what is longer than the queue is not right
pub is_contour-long : (width height : ℕ) (image queue : List ℕ) (n : ℕ) → length queue < n →
    is_contour width height image queue n ≡ false
is_contour-long width height image queue n l =
    by-test (is_contour width height image queue n)
    (λ e. absurd (omega (arith, ((is_contour-iff width height image queue n).0 e).0)))
    (λ e. e)

-- ---- marking

-- the first `count` entries of a queue are positions of the contour, each once, and are painted with the mark
pub record Marking (width height : ℕ) (image queue image' : List ℕ) (count : ℕ) : Type 0 where
  pub right : (i : ℕ) → occurrences i (take count queue) ≤ bit (is_on_contour width height image i)
  pub painted : Painted image (take count queue) mark image'

-- no entry so far
pub marking-none : (width height : ℕ) (image queue : List ℕ) → Marking width height image queue image 0
marking-none width height image queue =
    record { right = λ i. omega (arith, occurrences-nil i); painted = painted-none image mark }

module _ {width height : ℕ} {image queue image' : List ℕ} {count : ℕ}
    (m : Marking width height image queue image' count) where
  -- marking ends after the last entry
  pub marked_all : Marked width height image queue count image' count
  marked_all =
      record {
        within = omega arith;
        right = m.right;
        wrong = λ l. absurd (omega arith);
        painted = m.painted;
      }

  -- a marked position is on the contour
  marked-is_on_contour : (i : ℕ) → any (eqb i) (take count queue) ≡ true → is_on_contour width height image i ≡ true
  marked-is_on_contour i e = bit-is_on_contour width height image i
      (omega (arith, m.right i, member-occurs i (take count queue) e))

  -- so it was an object pixel
  marked-object : (i : ℕ) → any (eqb i) (take count queue) ≡ true → get_or image i 0 ≡ 1
  marked-object i e = on_contour-object width height image i
      ((is_on_contour-iff width height image i).0 (marked-is_on_contour i e)).1

  -- with the marks painted over with 1 the image is as it was
  pub painted-back : {image'' : List ℕ} → Painted image' (take count queue) 1 image'' → image'' ≡ image
  painted-back {image''} back =
      ext_get_or 0 image'' image (back.size ∙ m.painted.size)
      (λ k l.
      let inside : k < length image = omega (arith, back.size, m.painted.size) in
      let inside' : k < length image' = omega (arith, m.painted.size) in
      by-test (any (eqb k) (take count queue))
      (λ e. painted-member back k inside' e ∙ sym (marked-object k e))
      (λ e. painted-other back k inside' e ∙ painted-other m.painted k inside e))

  module _ (pixels : length image ≡ width * height) where
    -- a marked entry is a position of the image
    pub marked-lt : count ≤ length queue → (k : ℕ) → k < count → get_or queue k 0 < length image'
    marked-lt within k l =
        let i = get_or queue k 0 in
        let entry = member-get_or (take count queue) k (omega (arith, length-take-le count queue within)) in
        let member = rw (get_or-take count queue k 0 l) at entry in
        omega (arith, m.painted.size, ((is_on_contour-iff width height image i).0 (marked-is_on_contour i member)).0)

    -- the background is as it was
    background-marking : (j : ℕ) → j < width * height → (get_or image' j 0 ≡ 0) ↔ (get_or image j 0 ≡ 0)
    background-marking j l =
        let inside : j < length image = omega arith in
        by-test (any (eqb j) (take count queue))
        (λ e. (
          λ z. absurd (omega (arith, painted-member m.painted j inside e)),
          λ z. absurd (omega (arith, marked-object j e)),
        ))
        (λ e. let same = painted-other m.painted j inside e in (λ z. sym same ∙ z, λ z. same ∙ z))

    -- on the contour of the marked image is on the contour and not marked
    is_on_contour-marking-iff : (i : ℕ) →
        (is_on_contour width height image' i ≡ true)
        ↔ ((is_on_contour width height image i ≡ true) × (any (eqb i) (take count queue) ≡ false))
    is_on_contour-marking-iff i = (
      λ e.
          let (l, test) = (is_on_contour-iff width height image' i).0 e in
          let inside : i < length image = omega arith in
          let (object', (j, beside, background')) = (on_contour-iff width height image' i).0 test in
          by-test (any (eqb i) (take count queue))
          (λ again. absurd (omega (arith, painted-member m.painted i inside again, object')))
          (λ fresh.
          let object = sym (painted-other m.painted i inside fresh) ∙ object' in
          let background = (background-marking j (adjacent-lt width height 4 beside)).0 background' in
          let on = (on_contour-iff width height image i).1 (object, (j, beside, background)) in
          ((is_on_contour-iff width height image i).1 (l, on), fresh)),
      λ h.
          let (l, test) = (is_on_contour-iff width height image i).0 h.0 in
          let inside : i < length image = omega arith in
          let (object, (j, beside, background)) = (on_contour-iff width height image i).0 test in
          let object' = painted-other m.painted i inside h.1 ∙ object in
          let background' = (background-marking j (adjacent-lt width height 4 beside)).1 background in
          (is_on_contour-iff width height image' i).1
          (l, (on_contour-iff width height image' i).1 (object', (j, beside, background'))),
    )

    -- one entry more
    pub marking-one : count < length queue → is_on_contour width height image' (get_or queue count 0) ≡ true →
        Marking width height image queue (set image' (get_or queue count 0) mark) (suc count)
    marking-one l e =
        let at = get_or queue count 0 in
        let (on, fresh) = (is_on_contour-marking-iff at).0 e in
        let more = take-suc queue count 0 l in
        let none = (occurrences-zero-iff at (take count queue)).1 fresh in
        record {
          right = λ i.
              rw (more, occurrences-snoc i (take count queue) at)
              (by-eq i at (λ q. rw q (omega (arith, none, ap bit on, ap bit (eq-eqb at at refl))))
              (λ d. omega (arith, m.right i, ap bit (ne_eqb i at d))));
          painted = rw more (painted-one m.painted at
              (omega (arith, ((is_on_contour-iff width height image at).0 on).0)));
        }

    -- marking ends at a wrong entry
    pub marked-wrong : {n : ℕ} → count < n → n ≤ length queue →
        is_on_contour width height image' (get_or queue count 0) ≡ false →
        Marked width height image queue n image' count
    marked-wrong l within e =
        let at = get_or queue count 0 in
        let counted = occurrences-snoc at (take count queue) at in
        let one = ap bit (eq-eqb at at refl) in
        record {
          within = omega arith;
          right = m.right;
          wrong = λ _.
              rw (take-suc queue count 0 (omega arith))
              (by-test (is_on_contour width height image at)
              (λ on.
              by-test (any (eqb at) (take count queue))
              (λ again. omega (arith, counted, one, ap bit on, member-occurs at (take count queue) again))
              (λ fresh. not-both ((is_on_contour-marking-iff at).1 (on, fresh)) e))
              (λ off. omega (arith, counted, one, ap bit off)));
          painted = m.painted;
        }

    -- where a position of the contour is left without a mark, the entries are not the contour
    left-wrong : any (on_contour width height image') (positions width height) ≡ true →
        is_contour width height image queue count ≡ false
    left-wrong left =
        let (i, member, test) = any_some (on_contour width height image') (positions width height) left in
        let on' = (is_on_contour-iff width height image' i).1 (member-range-lt i (width * height) member, test) in
        let (on, fresh) = (is_on_contour-marking-iff i).0 on' in
        let none = (occurrences-zero-iff i (take count queue)).1 fresh in
        by-test (is_contour width height image queue count)
        (λ e. absurd (omega (arith, ((is_contour-iff width height image queue count).0 e).1 i, none, ap bit on)))
        (λ e. e)

    -- where none is left, the entries have each once
    none-left-each_once : any (on_contour width height image') (positions width height) ≡ false →
        EachOnce width height image (take count queue)
    none-left-each_once none i =
        by-test (is_on_contour width height image i)
        (λ on.
        by-test (any (eqb i) (take count queue))
        (λ again. omega (arith, m.right i, ap bit on, member-occurs i (take count queue) again))
        (λ fresh.
        let (l, test) = (is_on_contour-iff width height image' i).0 ((is_on_contour-marking-iff i).1 (on, fresh)) in
        let member = lt-member-range i (width * height) l in
        not-both test (any_none (on_contour width height image') (positions width height) none i member)))
        (λ off. omega (arith, m.right i, ap bit off))

    -- so the entries are the contour if none is left
    is_contour-marking : count ≤ length queue →
        is_contour width height image queue count ≡ not (any (on_contour width height image') (positions width height))
    is_contour-marking within =
        by-test (any (on_contour width height image') (positions width height))
        (λ left. rw left (left-wrong left))
        (λ none. rw none ((is_contour-iff width height image queue count).1 (within, none-left-each_once none)))

-- ---- what marking tells

module _ {width height : ℕ} {image queue : List ℕ} {n : ℕ} {image' : List ℕ} {count : ℕ}
    (k : Marked width height image queue n image' count) where
  -- the entries before the end are right
  pub marked-marking : Marking width height image queue image' count
  marked-marking = record { right = k.right; painted = k.painted }

  -- a wrong entry tells that the contour handed in is not right
  pub is_contour-wrong : count < n → is_contour width height image queue n ≡ false
  is_contour-wrong l =
      by-test (is_contour width height image queue n)
      (λ e.
      let at = get_or queue count 0 in
      let once = ((is_contour-iff width height image queue n).0 e).1 at in
      absurd (omega (arith, k.wrong l, once, occurrences-take-le at (suc count) n queue l)))
      (λ e. e)

  -- where there is none, it is right if no position of the contour is left without a mark
  pub is_contour-left : length image ≡ width * height → n ≤ length queue → n ≤ count →
      is_contour width height image queue n ≡ not (any (on_contour width height image') (positions width height))
  is_contour-left pixels within l =
      let e : count ≡ n = omega (arith, k.within) in
      rw (← e) (is_contour-marking marked-marking pixels (omega arith))
