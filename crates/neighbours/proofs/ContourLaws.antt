-- Laws of `specs/Contour.antt`.
--   on_contour-object         a position on the contour is an object pixel
--   on_contour-background     so a background pixel is not on it
--   on_contour-test           on the contour is an object pixel with a background 4-neighbour, as tests
--   on_contour-iff            on the contour is an object pixel with a background 4-neighbour
--   occurrences-contour       each position on the contour is there once
--   occurrences-contour-out   and no other number
--   length-contour-le         there are at most as many as pixels
--   least-beside              off the border, the least 4-neighbour says whether one is background
-- Assumes nothing.
use Prim.Native.Nat.{ℕ, ◌+◌, ◌-◌, ◌*◌, ◌≤◌, ◌<◌, min}
use mathlib.Core.Path.{◌≡◌, refl, sym, ap, ◌∙◌}
use mathlib.Core.Bool.{Bool, true, false, ◌&&◌, ◌||◌}
use mathlib.Core.Logic.{◌↔◌}
use mathlib.Core.List.{List}
use native.Mathlib.Omega.{arith}
use native.Mathlib.Nat.{zero-min, min-zero}
use lib.Dec.{eqb}
use lib.ListN.{length, get_or}
use borrow.Author.Tests.{eqb-true, eq-eqb, ne_eqb}
use Rattle.lists.specs.Lists.{count_from, tabulate, any, occurrences, bit}
use Rattle.lists.proofs.BoolLaws.{by-test, by-eq, and_left, and_right, and_both}
use Rattle.lists.proofs.ListLaws.{length-select-count_from-le, occurrences-select, occurrences-select-out}
use Rattle.std.specs.Prelude.{Some}
use Rattle.neighbours.specs.Grid.{directions, across, down, neighbour, neighbour_value, value_at, has_neighbour}
use Rattle.neighbours.specs.Grid.{all_sides, on_border, Adjacent}
use Rattle.neighbours.specs.Contour.{on_contour, contour}
use Rattle.neighbours.proofs.SideLaws.{all-object}
use Rattle.neighbours.proofs.GridLaws.{has_neighbour-iff, not_border-at}

module _ (width height : ℕ) (image : List ℕ) where
  -- ---- one position

  -- a position on the contour is an object pixel
  pub on_contour-object : (i : ℕ) → on_contour width height image i ≡ true → get_or image i 0 ≡ 1
  unfolding on_contour
  on_contour-object i e =
      eqb-true (get_or image i 0) 1
      (and_left (eqb (get_or image i 0) 1) (has_neighbour width height 4 all_sides 0 image i) e)

  -- so a background pixel is not on it
  pub on_contour-background : (i : ℕ) → get_or image i 0 ≡ 0 → on_contour width height image i ≡ false
  on_contour-background i e =
      by-test (on_contour width height image i) (λ on. absurd (omega (arith, on_contour-object i on))) (λ off. off)

  -- the two tests of it
  pub on_contour-test : (i : ℕ) →
      on_contour width height image i ≡ eqb (get_or image i 0) 1 && has_neighbour width height 4 all_sides 0 image i
  unfolding on_contour
  on_contour-test i = refl

  -- on the contour is an object pixel with a background 4-neighbour inside the crop
  pub on_contour-iff : (i : ℕ) →
      (on_contour width height image i ≡ true)
      ↔ ((get_or image i 0 ≡ 1) × ((j : ℕ) × Adjacent width height 4 i j × (get_or image j 0 ≡ 0)))
  unfolding on_contour
  on_contour-iff i =
      let object = eqb (get_or image i 0) 1 in
      let beside = has_neighbour width height 4 all_sides 0 image i in
      let background = has_neighbour-iff width height 4 all_sides 0 image i (all-object width height) in (
        λ e. (on_contour-object i e, background.0 (and_right object beside e)),
        λ f. and_both object beside (eq-eqb (get_or image i 0) 1 f.0) (background.1 f.1),
      )

  -- ---- all of them

  -- each position on the contour is there once
  pub occurrences-contour : (i : ℕ) → i < width * height →
      occurrences i (contour width height image) ≡ bit (on_contour width height image i)
  unfolding contour
  occurrences-contour i l = occurrences-select (on_contour width height image) (width * height) i l

  -- and no other number
  pub occurrences-contour-out : (i : ℕ) → width * height ≤ i → occurrences i (contour width height image) ≡ 0
  unfolding contour
  occurrences-contour-out i l = occurrences-select-out (on_contour width height image) (width * height) i l

  -- there are at most as many as pixels
  pub length-contour-le : length (contour width height image) ≤ width * height
  unfolding contour
  length-contour-le = length-select-count_from-le (on_contour width height image) 0 (width * height)

-- ---- a position that is not on the border

-- the least of two is 0 where one is
least_zero : (a b : ℕ) → eqb (min a b) 0 ≡ eqb a 0 || eqb b 0
least_zero a b =
    by-eq a 0 (λ none. rw (none, zero-min b))
    (λ some. by-eq b 0 (λ none. rw (none, min-zero a, ne_eqb a 0 some))
    (λ more. rw (ne_eqb a 0 some, ne_eqb b 0 more) (ne_eqb (min a b) 0 (λ e. omega arith))))

-- and so of four
four-least : (r u l d : ℕ) →
    eqb (min (min r l) (min u d)) 0 ≡ eqb r 0 || (eqb u 0 || (eqb l 0 || (eqb d 0 || false)))
four-least r u l d = rw (least_zero (min r l) (min u d), least_zero r l, least_zero u d)
    (four-tests (eqb r 0) (eqb u 0) (eqb l 0) (eqb d 0))
  where
    four-tests : (r u l d : Bool) → (r || l) || (u || d) ≡ r || (u || (l || (d || false)))
    four-tests true u l d = refl
    four-tests false true true d = refl
    four-tests false true false d = refl
    four-tests false false true d = refl
    four-tests false false false true = refl
    four-tests false false false false = refl

module _ (width height : ℕ) (image : List ℕ) (i : ℕ)
    (inside : i < width * height) (inner : on_border width height i ≡ false) where
  -- whether a pixel that is not on the border has a background neighbour, by its four neighbours
  has_neighbour-inner :
      has_neighbour width height 4 all_sides 0 image i
      ≡ eqb (get_or image (i + 1) 0) 0
      || (eqb (get_or image (i - width) 0) 0
      || (eqb (get_or image (i - 1) 0) 0 || (eqb (get_or image (i + width) 0) 0 || false)))
  unfolding has_neighbour neighbour_value value_at directions tabulate count_from any across down
  has_neighbour-inner =
      let at = not_border-at width height i in
      let right : neighbour width height i 0 ≡ Some (i + 1) = at 0 inside inner ∙ ap Some (omega arith) in
      let up : neighbour width height i 2 ≡ Some (i - width) = at 2 inside inner ∙ ap Some (omega arith) in
      let left : neighbour width height i 4 ≡ Some (i - 1) = at 4 inside inner ∙ ap Some (omega arith) in
      let below : neighbour width height i 6 ≡ Some (i + width) = at 6 inside inner ∙ ap Some (omega arith) in
      rw (right, up, left, below)

  -- so the least of the four tells
  pub least-beside :
      eqb (min (min (get_or image (i + 1) 0) (get_or image (i - 1) 0))
      (min (get_or image (i - width) 0) (get_or image (i + width) 0))) 0
      ≡ has_neighbour width height 4 all_sides 0 image i
  least-beside =
      four-least (get_or image (i + 1) 0) (get_or image (i - width) 0) (get_or image (i - 1) 0)
      (get_or image (i + width) 0)
      ∙ sym has_neighbour-inner
