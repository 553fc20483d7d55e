-- Laws of `specs/Square.antt`, for the crates above: which pixels of a square are neighbours, and that every two
-- neighbours are in a square. Assumes nothing.
--   column-behind      behind the start of a row, a position is not in the first column
--   behind-column      and one that is not in the first column is behind the start
--   column-above       the position above is in the same column
--   neighbour-left, neighbour-above, neighbour-corner   where the three directions lead
--   adjacent-above     the pixel above is a neighbour
--   adjacent-falling   by 8 the corner is one too
--   adjacent-rising    by 8 the pixel to the left and the one above are neighbours
--   adjacent-square    what holds along the sides of every square and, by 8, across it, holds of neighbours
-- Not here: `adjacent-left`, of `GridLaws`.
use Prim.Native.Nat.{ℕ, suc, ◌+◌, ◌-◌, ◌*◌, ◌≤◌, ◌<◌}
use mathlib.Core.Path.{◌≡◌, refl, sym, ap, ◌∙◌}
use mathlib.Core.Bool.{true}
use mathlib.Core.Logic.{⊎_elim}
use native.Mathlib.Nat.{suc-mul, add-mul, div-lt_iff_lt-mul, mod-eq-sub-mod, mul-mod_left, mul-le-mul_right}
use native.Mathlib.Omega.{arith}
use lib.Dec.{eqb}
use Rattle.lists.specs.Lists.{count_from, tabulate, any}
use Rattle.lists.proofs.BoolLaws.{by-eq, by-lt}
use Rattle.std.specs.Prelude.{Some}
use Rattle.neighbours.specs.Grid.{is_connectivity, directions, across, down, column, row, position, neighbour}
use Rattle.neighbours.specs.Grid.{Adjacent}
use Rattle.neighbours.specs.Square.{left_of, above_of, corner_of, leftward, upward, cornerward, HasSquare}
use Rattle.neighbours.proofs.PositionLaws.{column-position, position-column-row, column-lt, row_lt}
use Rattle.neighbours.proofs.PositionLaws.{position-lt, width-pos}
use Rattle.neighbours.proofs.DirectionLaws.{across-le, straight}
use Rattle.neighbours.proofs.GridLaws.{adjacent-placed, adjacent-sym, neighbour-inside}

-- ---- columns

-- behind the start of a row, a position is not in the first column
pub column-behind : (width y k : ℕ) → y * width < k → k < suc y * width → 1 ≤ column width k
column-behind width y k behind l =
    let x = k - y * width in
    let e : y * width + x ≡ k = omega arith in
    omega (arith, rw e at (column-position width {x = x} y (omega arith)))

-- and one that is not in the first column is behind the start
pub behind-column : (width y k : ℕ) → y * width ≤ k → 1 ≤ column width k → y * width < k
behind-column width y k le far =
    by-eq k (y * width) (λ e. absurd (omega (arith, ap (column width) e, mul-mod_left y width))) (λ d. omega arith)

-- the position above is in the same column
pub column-above : (width k : ℕ) → width ≤ k → column width (above_of width k) ≡ column width k
column-above width k below = sym (mod-eq-sub-mod {n = k} {m = width} below)

-- a position to the right of the first column is right of its left one
column-left : (width k : ℕ) → 0 < width → 1 ≤ column width k → column width (left_of k) + 1 ≡ column width k
column-left width k pos far =
    let x = column width k in
    let y = row width k in
    let e : position width (x - 1) y ≡ k - 1 = omega (arith, position-column-row width k) in
    omega (arith, ap (column width) e, column-position width {x = x - 1} y (omega (arith, column-lt width k pos)))

-- below the first row there is a row above
row-pos : (width k : ℕ) → 0 < width → width ≤ k → 1 ≤ row width k
row-pos width k pos below =
    by-lt (row width k) 1 (λ less. absurd (omega (arith, (div-lt_iff_lt-mul pos).0 less))) (λ le. le)

module _ (width height : ℕ) where
  -- ---- the pixels of a square

  -- the position to the left
  pub neighbour-left : {k : ℕ} → k < width * height → 1 ≤ column width k →
      neighbour width height k leftward ≡ Some (left_of k)
  unfolding across down
  neighbour-left {k} l far =
      let pos = width-pos width height l in
      let right = column-lt width k pos in
      let bottom = row_lt width height k pos l in
      neighbour-inside width height k leftward (omega arith) (omega arith) (omega arith) (omega arith)
      ∙ ap Some (omega arith)

  -- a direction that leads up leads to a pixel of the row above
  neighbour-up : (d : ℕ) {k : ℕ} → down d ≡ 0 → k < width * height → width ≤ k → 1 ≤ column width k + across d →
      column width k + across d ≤ width → neighbour width height k d ≡ Some (k + across d - width - 1)
  neighbour-up d {k} up l below left right =
      let pos = width-pos width height l in
      let bottom = row_lt width height k pos l in
      let top = row-pos width k pos below in
      let flat : down d * width ≡ 0 * width = rw up in
      neighbour-inside width height k d left right (omega arith) (omega arith) ∙ ap Some (omega arith)

  -- the position above
  pub neighbour-above : {k : ℕ} → k < width * height → width ≤ k →
      neighbour width height k upward ≡ Some (above_of width k)
  unfolding across down
  neighbour-above {k} l below =
      let right = column-lt width k (width-pos width height l) in
      neighbour-up upward refl l below (omega arith) (omega arith) ∙ ap Some (omega arith)

  -- the corner
  pub neighbour-corner : {k : ℕ} → k < width * height → width ≤ k → 1 ≤ column width k →
      neighbour width height k cornerward ≡ Some (corner_of width k)
  unfolding across down
  neighbour-corner {k} l below far =
      let right = column-lt width k (width-pos width height l) in
      neighbour-up cornerward refl l below (omega arith) (omega arith) ∙ ap Some (omega arith)

  -- the pixel above is a neighbour
  pub adjacent-above : {k : ℕ} → k < width * height → width ≤ k → Adjacent width height 4 k (above_of width k)
  unfolding directions tabulate count_from any
  adjacent-above l below = record { direction = upward; among = refl; there = neighbour-above l below }

  -- by 8 the corner is one too
  pub adjacent-falling : {k : ℕ} → HasSquare width height k → Adjacent width height 8 k (corner_of width k)
  unfolding directions tabulate count_from any
  adjacent-falling s =
      record {
        direction = cornerward;
        among = refl;
        there = neighbour-corner s.inside (omega (arith, s.below)) s.far;
      }

  -- by 8 the pixel to the left and the one above are neighbours
  pub adjacent-rising : {k : ℕ} → HasSquare width height k → Adjacent width height 8 (left_of k) (above_of width k)
  unfolding directions tabulate count_from any across down
  adjacent-rising {k} s =
      let inside = s.inside in
      let below = s.below in
      let far = s.far in
      let pos = width-pos width height inside in
      let right = column-lt width k pos in
      let left = column-left width k pos far in
      record {
        direction = 1;
        among = refl;
        there =
            neighbour-up 1 refl (omega arith) (omega arith) (omega arith) (omega arith) ∙ ap Some (omega arith);
      }

  -- ---- neighbours are in a square

  -- the position to the right has a square where the one in hand has a neighbour to the upper right
  has_square-next : (i : ℕ) → i < width * height → width ≤ i + 1 → column width i + 2 ≤ width →
      HasSquare width height (i + 1)
  has_square-next i l low right =
      let x = column width i in
      let y = row width i in
      let pos = width-pos width height l in
      let beside : i + 1 ≡ position width (x + 1) y = omega (arith, position-column-row width i) in
      let far : 1 ≤ column width (i + 1) =
      omega (arith, ap (column width) beside, column-position width {x = x + 1} y (omega arith)) in
      record {
        inside = rw beside (position-lt (omega arith) (row_lt width height i pos l));
        below = omega (arith, behind-column width 1 (i + 1) (omega arith) far);
        far = far;
      }

  module _ (connectivity : ℕ) (P : ℕ → ℕ → Type 0)
      (left : (k : ℕ) → k < width * height → 1 ≤ column width k → P k (left_of k))
      (above : (k : ℕ) → k < width * height → width ≤ k → P k (above_of width k))
      (falling : (connectivity ≡ 4 → ⊥) → (k : ℕ) → HasSquare width height k → P k (corner_of width k))
      (rising : (connectivity ≡ 4 → ⊥) → (k : ℕ) → HasSquare width height k → P (left_of k) (above_of width k)) where
    -- none of the four directions leads to a corner
    aside : (d : ℕ) → any (eqb d) (directions connectivity) ≡ true → (across d ≡ 1 → ⊥) → (down d ≡ 1 → ⊥) →
        connectivity ≡ 4 → ⊥
    aside d among n m four = ⊎_elim n m (straight d (rw four at among))

    -- a neighbour that comes before a pixel is left of it or above it, or above it to the left or to the right
    earlier : {i j : ℕ} → i < width * height → Adjacent width height connectivity i j → j < i → P i j
    earlier {i} {j} l a before =
        let d = a.direction in
        let x = column width i in
        let y = row width i in
        let p = adjacent-placed width height connectivity a in
        let own = position-column-row width i in
        let next : suc (y + down d - 1) ≡ y + down d = omega (arith, p.top) in
        let rows = sym (suc-mul (y + down d - 1) width) ∙ ap (λ (n : ℕ). n * width) next ∙ add-mul y (down d) width in
        let offset : j + width + 1 ≡ i + across d + down d * width = omega (arith, p.left, p.here) in
        by-eq (down d) 0
        (λ up.
        let flat : down d * width ≡ 0 * width = rw up in
        by-eq (across d) 1
        (λ one. let at : above_of width i ≡ j = omega arith in rw at at (above i l (omega arith)))
        (λ other.
        let diagonal = aside d a.among other (λ e. omega arith) in
        by-eq (across d) 0
        (λ zero.
        let at : corner_of width i ≡ j = omega arith in
        let s : HasSquare width height i =
        record { inside = l; below = omega arith; far = omega (arith, p.left) } in
        rw at at (falling diagonal i s))
        (λ some.
        let two : across d ≡ 2 = omega (arith, across-le d) in
        let at : above_of width (i + 1) ≡ j = omega arith in
        let self : left_of (i + 1) ≡ i = omega arith in
        rw (at, self) at (rising diagonal (i + 1) (has_square-next i l (omega arith) (omega (arith, p.right)))))))
        (λ level.
        by-eq (down d) 1
        (λ one.
        let flat : down d * width ≡ 1 * width = rw one in
        let at : left_of i ≡ j = omega arith in
        rw at at (left i l (omega (arith, p.left))))
        (λ further.
        let two : 2 ≤ down d = omega arith in
        absurd (omega (arith, mul-le-mul_right width two))))

    -- so what holds of a pixel and itself, and both ways, holds of neighbours
    pub adjacent-square : is_connectivity connectivity ≡ true → ((i : ℕ) → P i i) → ((i j : ℕ) → P i j → P j i) →
        {i j : ℕ} → i < width * height → j < width * height → Adjacent width height connectivity i j → P i j
    adjacent-square c same back {i} {j} l m a =
        by-lt j i (earlier l a)
        (λ le.
        by-lt i j (λ less. back j i (earlier m (adjacent-sym width height connectivity c l a) less))
        (λ ge. let e : i ≡ j = omega arith in rw e (same j)))
