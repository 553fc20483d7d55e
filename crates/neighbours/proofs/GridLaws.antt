-- Laws of `specs/Grid.antt`, for the crates above: they see no row or direction, and of a column only
-- whether it is the first.
--   adjacent-placed      where a neighbour is placed
--   adjacent-lt          a neighbour is inside the crop
--   adjacent-sym         neighbours are mutual
--   adjacent-via         an 8-neighbour is a 4-neighbour, or joined by a pixel that is 4-neighbour of both
--   adjacent-eight       a 4-neighbour is an 8-neighbour
--   adjacent-four        and a neighbour by either connectivity
--   neighbours-iff       the list of neighbours holds them
--   any-neighbours-iff   a test passes for one of the list exactly if it does for a neighbour
--   around-iff           the neighbours of a list of positions are next to one of them
--   has_neighbour-iff     at least one neighbour inside has the value, where nothing outside has it
--   on_border-left        a pixel in the first column is on the border
--   column-pos           a pixel in another column is not the first pixel
--   adjacent-left        and the pixel to its left is a neighbour
--   adjacent-first       the first two pixels of a crop are neighbours
--   not_border-behind     above a pixel that is not on the border there is a row, and a pixel to its left
--   not_border-ahead      below it there is a row, and a pixel to its right
--   neighbour-inside     where a direction stays inside the crop, it leads so far on
--   not_border-at         next to a pixel that is not on the border there is one in every direction
--   has_neighbour-inside  the same as a test on the list of neighbours
--   AdjacentOutside      a place outside next to a position, where what lies there has a value
--   has_neighbour-cases   a neighbour has the value inside, or lies outside and has it
--   adjacent-, outside-has_neighbour        and either is such a neighbour
--   top-, right-, bottom-, left-outside    next to a pixel along a side that is not named lies background
-- Assumes nothing.
use Prim.Native.Nat.{ℕ, suc, ◌+◌, ◌-◌, ◌*◌, ◌%◌, ◌≤◌, ◌<◌}
use mathlib.Core.Path.{◌≡◌, refl, sym, ap, ap₂, ◌∙◌}
use mathlib.Core.Bool.{Bool, true, false, ◌&&◌, ◌||◌, or-false, false≢true}
use mathlib.Core.Logic.{◌⊎◌, inl, inr, ⊎_elim, ◌↔◌}
use mathlib.Core.List.{List, flat_map}
use native.Mathlib.Nat.{zero-mod, mod-eq_of_lt, eq-zero-or-pos, zero-mul, suc-mul, add-mul, mul_comm}
use native.Mathlib.Nat.{mul-le-mul_right}
use native.Mathlib.Omega.{arith}
use lib.Dec.{eqb, leb}
use lib.ListN.{get_or}
use borrow.Author.Tests.{eqb-true, eqb-false, eq-eqb, leb-true}
use Rattle.lists.specs.Lists.{count_from, tabulate, any, all}
use Rattle.lists.proofs.BoolLaws.{by-eq, bool_same, and_left, and_right, or-true-cases}
use Rattle.lists.proofs.BoolLaws.{or-false-left, or-false-right}
use Rattle.lists.proofs.ListLaws.{any-flat_map, any_some, some-any, all-member}
use Rattle.std.specs.Prelude.{Option, Some, None}
use Rattle.neighbours.specs.Crop.{inside, neighbours}
use Rattle.neighbours.specs.Grid.{is_connectivity, directions, across, down, column, row, position, placed}
use Rattle.neighbours.specs.Grid.{top_side, right_side, bottom_side, left_side, has_side, beyond}
use Rattle.neighbours.specs.Grid.{neighbour, neighbour_at, value_at, neighbour_value, has_neighbour, on_border}
use Rattle.neighbours.specs.Grid.{Adjacent}
use Rattle.neighbours.proofs.PositionLaws.{column-position, row-position, position-column-row, column-lt}
use Rattle.neighbours.proofs.PositionLaws.{row_lt, position-lt, width-pos, Placed, placed_at, at-placed}
use Rattle.neighbours.proofs.PositionLaws.{placed-left, placed-right, placed-top, placed-bottom}
use Rattle.neighbours.proofs.DirectionLaws.{across-le, down_le}
use Rattle.neighbours.proofs.SideLaws.{NoneBeyond, beyond-top, beyond-right, beyond-bottom, beyond-left}

-- ---- directions: a law of them is a test, computed for each

-- direction d leads from column x to x + a - 1 and from row y to y + b - 1
leads : ℕ → ℕ → ℕ → Bool
leads a b d = eqb (across d) a && eqb (down d) b

-- one of the connectivity's directions leads there
some_leads : ℕ → ℕ → ℕ → Bool
some_leads connectivity a b = any (leads a b) (directions connectivity)

-- direction d leads at most one pixel on
is_near : ℕ → Bool
is_near d = leb (across d) 2 && leb (down d) 2

-- one of the connectivity's directions leads back from where d leads
has_opposite : ℕ → ℕ → Bool
has_opposite connectivity d = is_near d && some_leads connectivity (2 - across d) (2 - down d)

-- one of the four directions leads along the row, and one along the column, as far as d
has_turn : ℕ → Bool
has_turn d = some_leads 4 (across d) 1 && some_leads 4 1 (down d)

-- each direction has its opposite
all-has_opposite : (connectivity : ℕ) → is_connectivity connectivity ≡ true →
    all (has_opposite connectivity) (directions connectivity) ≡ true
unfolding has_opposite is_near some_leads leads directions across down tabulate count_from any all
all-has_opposite connectivity c =
    ⊎_elim (λ e. rw (eqb-true connectivity 4 e)) (λ e. rw (eqb-true connectivity 8 e))
    (or-true-cases (eqb connectivity 4) (eqb connectivity 8) c)

-- each of the eight is one of the four, or is two of them, one behind the other
all-four-or-turn : all (λ d. any (eqb d) (directions 4) || has_turn d) (directions 8) ≡ true
unfolding has_turn some_leads leads directions across down tabulate count_from any all
all-four-or-turn = refl

-- the four are among the eight
all-among-eight : all (λ d. any (eqb d) (directions 8)) (directions 4) ≡ true
unfolding directions tabulate count_from any all
all-among-eight = refl

-- what a direction leads to by 4 and by 8, one leads to by the connectivity
some_leads-either : (a b connectivity : ℕ) → is_connectivity connectivity ≡ true →
    some_leads 4 a b && some_leads 8 a b ≡ true → some_leads connectivity a b ≡ true
some_leads-either a b connectivity c both =
    ⊎_elim (λ e. rw (eqb-true connectivity 4 e) (and_left (some_leads 4 a b) (some_leads 8 a b) both))
    (λ e. rw (eqb-true connectivity 8 e) (and_right (some_leads 4 a b) (some_leads 8 a b) both))
    (or-true-cases (eqb connectivity 4) (eqb connectivity 8) c)

-- one leads left, one right, one up and one down
record Ways (connectivity : ℕ) : Type 0 where
  left : some_leads connectivity 0 1 ≡ true
  right : some_leads connectivity 2 1 ≡ true
  up : some_leads connectivity 1 0 ≡ true
  below : some_leads connectivity 1 2 ≡ true

ways : (connectivity : ℕ) → is_connectivity connectivity ≡ true → Ways connectivity
unfolding some_leads leads directions across down tabulate count_from any
ways connectivity c =
    record {
      left = some_leads-either 0 1 connectivity c refl;
      right = some_leads-either 2 1 connectivity c refl;
      up = some_leads-either 1 0 connectivity c refl;
      below = some_leads-either 1 2 connectivity c refl;
    }

-- ---- values

-- a place has the value that a pixel there has, or lies outside, where the value is
value_at-cases : (outside value : ℕ) (image : List ℕ) (place : Option ℕ) → value_at outside image place ≡ value →
    ((j : ℕ) × (place ≡ Some j) × (get_or image j 0 ≡ value)) ⊎ ((place ≡ None) × (outside ≡ value))
unfolding value_at
value_at-cases outside value image (Some j) e = inl (j, refl, e)
value_at-cases outside value image None e = inr (refl, e)

-- a place outside next to position i, where what lies there has the value
pub record AdjacentOutside (width height connectivity sides value i : ℕ) : Type 0 where
  pub direction : ℕ
  pub among : any (eqb direction) (directions connectivity) ≡ true
  pub there : neighbour width height i direction ≡ None
  pub has : beyond width height sides (column width i + across direction) (row width i + down direction) ≡ value

-- the position at a place is the one there
inside-iff : (place : Option ℕ) (j : ℕ) → (any (eqb j) (inside place) ≡ true) ↔ (place ≡ Some j)
unfolding inside any
inside-iff (Some i) j = (
  λ e. ap Some (sym (eqb-true j i (sym (or-false (eqb j i)) ∙ e))),
  λ e. let q : i ≡ j = cc in or-false (eqb j i) ∙ eq-eqb j i (sym q),
)
inside-iff None j = (λ e. absurd (false≢true e), λ e. let z : ◌≡◌ {A = ℕ} 0 1 = cc in absurd (omega arith))

module _ (width height : ℕ) where
  -- ---- places, their columns and rows counted from one

  -- the column of what is placed there
  placed-column : (x y : ℕ) {j : ℕ} → Placed width height x y j → column width j + 1 ≡ x
  placed-column x y p =
      omega (arith, ap (column width) (sym p.here), column-position width {x = x - 1} (y - 1) (omega arith))

  -- and its row
  placed_row : (x y : ℕ) {j : ℕ} → Placed width height x y j → row width j + 1 ≡ y
  placed_row x y p = omega (arith, ap (row width) (sym p.here), row-position width {x = x - 1} (y - 1) (omega arith))

  -- a position is at its own column and row
  placed-self : (i : ℕ) → i < width * height → placed width height (column width i + 1) (row width i + 1) ≡ Some i
  placed-self i l =
      let pos = width-pos width height l in
      let right = column-lt width i pos in
      let bottom = row_lt width height i pos l in
      at-placed width height _ _ (omega arith) (omega arith) (omega arith) (omega arith)
      ∙ ap Some (ap₂ (position width) (omega arith) (omega arith) ∙ position-column-row width i)

  -- ---- neighbours

  -- where a neighbour is placed
  pub adjacent-placed : (connectivity : ℕ) {i j : ℕ} (a : Adjacent width height connectivity i j) →
      Placed width height (column width i + across a.direction) (row width i + down a.direction) j
  unfolding neighbour neighbour_at
  adjacent-placed connectivity a = placed_at width height _ _ a.there

  -- where a direction leads to a place, the place is next to the position
  some_leads-there : (connectivity a b i : ℕ) {place : Option ℕ} → some_leads connectivity a b ≡ true →
      placed width height (column width i + a) (row width i + b) ≡ place →
      (d : ℕ) × (any (eqb d) (directions connectivity) ≡ true) × (neighbour width height i d ≡ place)
  unfolding some_leads leads neighbour neighbour_at
  some_leads-there connectivity a b i e p =
      let (d, among, l) = any_some (leads a b) (directions connectivity) e in
      let far = eqb-true (across d) a (and_left (eqb (across d) a) (eqb (down d) b) l) in
      let deep = eqb-true (down d) b (and_right (eqb (across d) a) (eqb (down d) b) l) in
      (d, among, rw (far, deep) p)

  -- what is placed there is a neighbour
  some_leads-adjacent : (connectivity a b : ℕ) {i j : ℕ} → some_leads connectivity a b ≡ true →
      placed width height (column width i + a) (row width i + b) ≡ Some j → Adjacent width height connectivity i j
  some_leads-adjacent connectivity a b {i} e p =
      let (d, among, there) = some_leads-there connectivity a b i e p in
      record { direction = d; among = among; there = there }

  -- a neighbour is inside the crop
  pub adjacent-lt : (connectivity : ℕ) {i j : ℕ} → Adjacent width height connectivity i j → j < width * height
  adjacent-lt connectivity a =
      let p = adjacent-placed connectivity a in
      rw (← p.here) (position-lt (omega arith) (omega arith))

  -- neighbours are mutual
  pub adjacent-sym : (connectivity : ℕ) {i j : ℕ} → is_connectivity connectivity ≡ true → i < width * height →
      Adjacent width height connectivity i j → Adjacent width height connectivity j i
  unfolding has_opposite is_near
  adjacent-sym connectivity {i} {j} c l a =
      let d = a.direction in
      let back = some_leads connectivity (2 - across d) (2 - down d) in
      let ds = directions connectivity in
      let o = all-member (has_opposite connectivity) ds (all-has_opposite connectivity c) d a.among in
      let near = and_left (is_near d) back o in
      let far = leb-true (across d) 2 (and_left (leb (across d) 2) (leb (down d) 2) near) in
      let deep = leb-true (down d) 2 (and_right (leb (across d) 2) (leb (down d) 2) near) in
      let p = adjacent-placed connectivity a in
      let x : column width j + (2 - across d) ≡ column width i + 1 = omega (arith, placed-column _ _ p) in
      let y : row width j + (2 - down d) ≡ row width i + 1 = omega (arith, placed_row _ _ p) in
      some_leads-adjacent connectivity (2 - across d) (2 - down d) (and_right (is_near d) back o)
      (rw (x, y) (placed-self i l))

  -- a 4-neighbour is an 8-neighbour
  pub adjacent-eight : {i j : ℕ} → Adjacent width height 4 i j → Adjacent width height 8 i j
  adjacent-eight a =
      record {
        direction = a.direction;
        among = all-member (λ d. any (eqb d) (directions 8)) (directions 4) all-among-eight a.direction a.among;
        there = a.there;
      }

  -- and a neighbour by either connectivity
  pub adjacent-four : (connectivity : ℕ) {i j : ℕ} → is_connectivity connectivity ≡ true → Adjacent width height 4 i j →
      Adjacent width height connectivity i j
  adjacent-four connectivity c a =
      ⊎_elim (λ four. rw (eqb-true connectivity 4 four) a)
      (λ eight. rw (eqb-true connectivity 8 eight) (adjacent-eight a))
      (or-true-cases (eqb connectivity 4) (eqb connectivity 8) c)

  -- where direction d turns, the pixel between is as far along the row as d leads
  adjacent-turn : {i j : ℕ} → i < width * height → (a : Adjacent width height 8 i j) → has_turn a.direction ≡ true →
      (k : ℕ) × Adjacent width height 4 i k × Adjacent width height 4 k j
  unfolding has_turn neighbour neighbour_at
  adjacent-turn {i} {j} l a t =
      let d = a.direction in
      let along = some_leads 4 (across d) 1 in
      let upright = some_leads 4 1 (down d) in
      let p = adjacent-placed 8 a in
      let bottom = row_lt width height i (width-pos width height l) l in
      let x = column width i + across d in
      let q = at-placed width height x (row width i + 1) p.left p.right (omega arith) (omega arith) in
      let k = position width (column width i + across d - 1) (row width i + 1 - 1) in
      let between = placed_at width height _ _ q in
      let x : column width k + 1 ≡ column width i + across d = placed-column _ _ between in
      let y : row width k + down d ≡ row width i + down d = omega (arith, placed_row _ _ between) in (
        k,
        some_leads-adjacent 4 (across d) 1 (and_left along upright t) q,
        some_leads-adjacent 4 1 (down d) (and_right along upright t) (rw (x, y) a.there),
      )

  -- an 8-neighbour is a 4-neighbour, or joined by a pixel that is 4-neighbour of both
  pub adjacent-via : {i j : ℕ} → i < width * height → Adjacent width height 8 i j →
      (Adjacent width height 4 i j) ⊎ ((k : ℕ) × Adjacent width height 4 i k × Adjacent width height 4 k j)
  adjacent-via l a =
      let d = a.direction in
      let o = all-member (λ e. any (eqb e) (directions 4) || has_turn e) (directions 8) all-four-or-turn d a.among in
      ⊎_elim (λ m. inl (record { direction = d; among = m; there = a.there })) (λ t. inr (adjacent-turn l a t))
      (or-true-cases (any (eqb d) (directions 4)) (has_turn d) o)

  -- the list of neighbours holds them
  pub neighbours-iff : (connectivity i j : ℕ) →
      (any (eqb j) (neighbours width height connectivity i) ≡ true) ↔ Adjacent width height connectivity i j
  unfolding neighbours
  neighbours-iff connectivity i j =
      let test : ℕ → Bool = λ d. any (eqb j) (inside (neighbour width height i d)) in
      let over = any-flat_map (eqb j) (λ d. inside (neighbour width height i d)) (directions connectivity) in (
        λ e.
            let (d, among, q) = any_some test (directions connectivity) (sym over ∙ e) in
            record { direction = d; among = among; there = (inside-iff (neighbour width height i d) j).0 q },
        λ a. over ∙ some-any test (directions connectivity) a.direction a.among ((inside-iff _ j).1 a.there),
      )

  -- a test passes for one of the list exactly if it does for a neighbour
  pub any-neighbours-iff : (connectivity : ℕ) (test : ℕ → Bool) (i : ℕ) →
      (any test (neighbours width height connectivity i) ≡ true)
      ↔ ((j : ℕ) × Adjacent width height connectivity i j × (test j ≡ true))
  any-neighbours-iff connectivity test i = (
    λ e.
        let (j, m, t) = any_some test (neighbours width height connectivity i) e in
        (j, (neighbours-iff connectivity i j).0 m, t),
    λ h.
        let (j, a, t) = h in
        some-any test (neighbours width height connectivity i) j ((neighbours-iff connectivity i j).1 a) t,
  )

  -- the neighbours of a list of positions are next to one of them
  pub around-iff : (connectivity : ℕ) (positions : List ℕ) (j : ℕ) →
      (any (eqb j) (flat_map (neighbours width height connectivity) positions) ≡ true)
      ↔ ((i : ℕ) × (any (eqb i) positions ≡ true) × Adjacent width height connectivity i j)
  around-iff connectivity positions j =
      let test : ℕ → Bool = λ i. any (eqb j) (neighbours width height connectivity i) in
      let over = any-flat_map (eqb j) (neighbours width height connectivity) positions in (
        λ e.
            let (i, m, t) = any_some test positions (sym over ∙ e) in
            (i, m, (neighbours-iff connectivity i j).0 t),
        λ h.
            let (i, m, a) = h in
            over ∙ some-any test positions i m ((neighbours-iff connectivity i j).1 a),
      )

  module _ (connectivity sides value : ℕ) (image : List ℕ) (i : ℕ) where
    -- the neighbour in direction d has the value
    has_value : ℕ → Bool
    has_value d = eqb (neighbour_value width height sides image i d) value

    -- a neighbour has the value inside, or lies outside and has it
    pub has_neighbour-cases : has_neighbour width height connectivity sides value image i ≡ true →
        ((j : ℕ) × Adjacent width height connectivity i j × (get_or image j 0 ≡ value))
        ⊎ AdjacentOutside width height connectivity sides value i
    unfolding has_neighbour neighbour_value has_value
    has_neighbour-cases e =
        let (d, among, q) = any_some has_value (directions connectivity) e in
        ⊎_elim
        (λ f. let (j, there, v) = f in inl (j, record { direction = d; among = among; there = there }, v))
        (λ f. inr (record { direction = d; among = among; there = f.0; has = f.1 }))
        (value_at-cases _ value image (neighbour width height i d) (eqb-true _ value q))

    -- a neighbour inside that has the value
    pub adjacent-has_neighbour : {j : ℕ} → Adjacent width height connectivity i j → get_or image j 0 ≡ value →
        has_neighbour width height connectivity sides value image i ≡ true
    unfolding has_neighbour neighbour_value value_at has_value
    adjacent-has_neighbour a v =
        some-any has_value (directions connectivity) a.direction a.among (rw a.there (eq-eqb _ value v))

    -- a place outside that has it
    pub outside-has_neighbour : AdjacentOutside width height connectivity sides value i →
        has_neighbour width height connectivity sides value image i ≡ true
    unfolding has_neighbour neighbour_value value_at has_value
    outside-has_neighbour b =
        some-any has_value (directions connectivity) b.direction b.among
        (rw b.there (eq-eqb _ value b.has))

    -- at least one neighbour inside has the value, where nothing outside has it
    pub has_neighbour-iff : NoneBeyond width height sides value →
        (has_neighbour width height connectivity sides value image i ≡ true)
        ↔ ((j : ℕ) × Adjacent width height connectivity i j × (get_or image j 0 ≡ value))
    unfolding neighbour neighbour_at
    has_neighbour-iff none = (
      λ e. ⊎_elim (λ f. f) (λ b. absurd (none _ _ b.there b.has)) (has_neighbour-cases e),
      λ f. adjacent-has_neighbour f.1 f.2,
    )

  -- ---- the left column

  -- a position in the first column is on the border
  pub on_border-left : (i : ℕ) → column width i ≡ 0 → on_border width height i ≡ true
  unfolding on_border
  on_border-left i e = rw (eq-eqb (column width i) 0 e)

  -- a position in another column is not the first
  pub column-pos : (i : ℕ) → (column width i ≡ 0 → ⊥) → 0 < i
  column-pos i d = ⊎_elim (λ e. absurd (d (rw e (zero-mod width)))) (λ l. l) (eq-zero-or-pos i)

  -- the pixel to the left of it is a neighbour
  pub adjacent-left : (connectivity : ℕ) {i : ℕ} → is_connectivity connectivity ≡ true → i < width * height →
      (column width i ≡ 0 → ⊥) → Adjacent width height connectivity i (i - 1)
  adjacent-left connectivity {i} c l d =
      let pos = width-pos width height l in
      let right = column-lt width i pos in
      let bottom = row_lt width height i pos l in
      let same : row width i + 1 - 1 ≡ row width i = omega arith in
      some_leads-adjacent connectivity 0 1 (ways connectivity c).left
      (at-placed width height _ _ (omega arith) (omega arith) (omega arith) (omega arith)
      ∙ ap Some (rw same (omega (arith, position-column-row width i))))

  -- the second pixel is beside the first, or below it where the crop is one pixel wide
  pub adjacent-first : (connectivity : ℕ) → is_connectivity connectivity ≡ true → 1 < width * height →
      Adjacent width height connectivity 1 0
  adjacent-first connectivity c l =
      by-eq width 1
      (λ one.
      let left : column width 1 ≡ 0 = rw one refl in
      let second : row width 1 ≡ 1 = rw one refl in
      let top : row width 1 + 0 - 1 ≡ 0 = omega arith in
      let bottom = row_lt width height 1 (omega arith) l in
      some_leads-adjacent connectivity 1 0 (ways connectivity c).up
      (at-placed width height _ _ (omega arith) (omega arith) (omega arith) (omega arith)
      ∙ ap Some (rw top (omega (arith, zero-mul width)))))
      (λ wider.
      let beside : 1 % width ≡ 1 = mod-eq_of_lt (omega (arith, width-pos width height l)) in
      adjacent-left connectivity c l (λ first. omega (arith, beside)))

  -- the same as a test on the list of neighbours
  pub has_neighbour-inside : (connectivity sides value : ℕ) (image : List ℕ) (i : ℕ) →
      NoneBeyond width height sides value →
      has_neighbour width height connectivity sides value image i
      ≡ any (λ j. eqb (get_or image j 0) value) (neighbours width height connectivity i)
  has_neighbour-inside connectivity sides value image i none =
      let beside = has_neighbour-iff connectivity sides value image i none in
      let listed = any-neighbours-iff connectivity (λ j. eqb (get_or image j 0) value) i in
      bool_same _ _ (λ e. let (j, a, v) = beside.0 e in listed.1 (j, a, eq-eqb (get_or image j 0) value v))
      (λ e. let (j, a, t) = listed.0 e in beside.1 (j, a, eqb-true (get_or image j 0) value t))

  -- ---- outside

  -- a pixel that is not on the border is in an inner column and an inner row
  not_border-inner : (i : ℕ) → i < width * height → on_border width height i ≡ false →
      (1 ≤ column width i) × (column width i + 1 < width) × (1 ≤ row width i) × (row width i + 1 < height)
  unfolding on_border
  not_border-inner i l o =
      let x = column width i in
      let y = row width i in
      let pos = width-pos width height l in
      let rest = eqb x 0 || eqb (x + 1) width || eqb y 0 in
      let abc = or-false-left rest (eqb (y + 1) height) o in
      let ab = or-false-left (eqb x 0 || eqb (x + 1) width) (eqb y 0) abc in
      let left = eqb-false x 0 (or-false-left (eqb x 0) (eqb (x + 1) width) ab) in
      let right = eqb-false (x + 1) width (or-false-right (eqb x 0) (eqb (x + 1) width) ab) in
      let top = eqb-false y 0 (or-false-right (eqb x 0 || eqb (x + 1) width) (eqb y 0) abc) in
      let bottom = eqb-false (y + 1) height (or-false-right rest (eqb (y + 1) height) o) in
      let lx = column-lt width i pos in
      let ly = row_lt width height i pos l in
      (omega arith, omega arith, omega arith, omega arith)

  -- there is a row above it, and a pixel to the left
  pub not_border-behind : (i : ℕ) → i < width * height → on_border width height i ≡ false → width + 1 ≤ i
  not_border-behind i l o =
      let (left, _, top, _) = not_border-inner i l o in
      omega (arith, position-column-row width i, mul-le-mul_right width top)

  -- and a row below, and a pixel to the right
  pub not_border-ahead : (i : ℕ) → i < width * height → on_border width height i ≡ false →
      i + width + 1 < width * height
  not_border-ahead i l o =
      let (_, right, _, bottom) = not_border-inner i l o in
      let next : suc (suc (row width i)) ≤ height = omega arith in
      let rows : suc (suc (row width i)) * width ≤ width * height =
      rw (mul_comm width height) (mul-le-mul_right width next) in
      omega (arith, position-column-row width i, simp suc-mul at rows)

  -- a direction that stays inside the crop leads to the pixel so far on
  pub neighbour-inside : (i d : ℕ) → 1 ≤ column width i + across d → column width i + across d ≤ width →
      1 ≤ row width i + down d → row width i + down d ≤ height →
      neighbour width height i d ≡ Some (i + across d + down d * width - width - 1)
  unfolding neighbour neighbour_at
  neighbour-inside i d left right top bottom =
      let x = column width i in
      let y = row width i in
      let next : suc (y + down d - 1) ≡ y + down d = omega arith in
      let rows = sym (suc-mul (y + down d - 1) width) ∙ ap (λ (n : ℕ). n * width) next ∙ add-mul y (down d) width in
      at-placed width height (x + across d) (y + down d) left right top bottom
      ∙ ap Some (omega (arith, rows, position-column-row width i))

  -- next to a pixel that is not on the border there is one in every direction
  pub not_border-at : (i d : ℕ) → i < width * height → on_border width height i ≡ false →
      neighbour width height i d ≡ Some (i + across d + down d * width - width - 1)
  not_border-at i d l o =
      let (left, right, top, bottom) = not_border-inner i l o in
      let ax = across-le d in
      let dy = down_le d in
      neighbour-inside i d (omega arith) (omega arith) (omega arith) (omega arith)

  -- ---- beyond a side

  -- where a direction leads outside, what lies there is next to the position
  some_leads-outside : (connectivity a b sides value i : ℕ) → some_leads connectivity a b ≡ true →
      placed width height (column width i + a) (row width i + b) ≡ None →
      beyond width height sides (column width i + a) (row width i + b) ≡ value →
      AdjacentOutside width height connectivity sides value i
  unfolding some_leads leads neighbour neighbour_at
  some_leads-outside connectivity a b sides value i e out has =
      let (d, among, l) = any_some (leads a b) (directions connectivity) e in
      let far = eqb-true (across d) a (and_left (eqb (across d) a) (eqb (down d) b) l) in
      let deep = eqb-true (down d) b (and_right (eqb (across d) a) (eqb (down d) b) l) in
      record { direction = d; among = among; there = rw (far, deep) out; has = rw (far, deep) has }

  -- next to a pixel along a side that is not named lies background
  module _ (connectivity sides i : ℕ) (c : is_connectivity connectivity ≡ true) (l : i < width * height) where
    lx : column width i < width
    lx = column-lt width i (width-pos width height l)

    ly : row width i < height
    ly = row_lt width height i (width-pos width height l) l

    pub top-outside : row width i ≡ 0 → has_side sides top_side ≡ false →
        AdjacentOutside width height connectivity sides 0 i
    top-outside e unnamed =
        some_leads-outside connectivity 1 0 sides 0 i (ways connectivity c).up
        (placed-top width height _ _ (omega arith) (omega (arith, lx)) (omega arith))
        (beyond-top width height sides _ _ (omega arith) unnamed)

    pub right-outside : column width i + 1 ≡ width → has_side sides right_side ≡ false →
        AdjacentOutside width height connectivity sides 0 i
    right-outside e unnamed =
        some_leads-outside connectivity 2 1 sides 0 i (ways connectivity c).right
        (placed-right width height _ _ (omega arith) (omega arith))
        (beyond-right width height sides _ _ (omega arith) unnamed)

    pub bottom-outside : row width i + 1 ≡ height → has_side sides bottom_side ≡ false →
        AdjacentOutside width height connectivity sides 0 i
    bottom-outside e unnamed =
        some_leads-outside connectivity 1 2 sides 0 i (ways connectivity c).below
        (placed-bottom width height _ _ (omega arith) (omega (arith, lx)) (omega arith) (omega arith))
        (beyond-bottom width height sides _ _ (omega arith) unnamed)

    pub left-outside : column width i ≡ 0 → has_side sides left_side ≡ false →
        AdjacentOutside width height connectivity sides 0 i
    left-outside e unnamed =
        some_leads-outside connectivity 0 1 sides 0 i (ways connectivity c).left
        (placed-left width height _ _ (omega arith))
        (beyond-left width height sides _ _ (omega arith) unnamed)
