-- Laws of positions, columns and rows, and of the place at a column and a row. The crates above go by
-- `GridLaws`, and use these only where they call a function with a position's column and row. Assumes nothing.
--   column-position, row-position   a column and a row come back from their position
--   column-lt, row_lt               a position's column and row are inside
--   in_crop, pixel_of               so they are in the crop, and a pixel of an image
--   row-le                          a later position is in no row above
--   position-lt, size-le            a column and a row inside are a position; a crop's size
--   row_within                      a row ends inside the crop
--   position-small                  a position fits 16 bits
--   placed_at, at-placed            what a place inside the crop tells, and what makes one
--   placed-left .. placed-bottom    the four ways to lie outside
--   neighbour_at-sums               a neighbour by the two sums that place it
--   neighbour-position              a neighbour of a position, by its column and row
--   neighbour_at-lt                 a neighbour is inside the crop
use Prim.Native.Nat.{ℕ, suc, ◌+◌, ◌-◌, ◌*◌, ◌≤◌, ◌<◌}
use mathlib.Core.Path.{◌≡◌, refl}
use mathlib.Core.Bool.{Bool, true, false, cond, ◌&&◌}
use mathlib.Core.List.{List}
use native.Mathlib.Omega.{arith}
use native.Mathlib.Nat.{mod-lt, div-lt_iff_lt-mul, div-add-mod', suc-mul, mul_comm, mul-le-mul_left, mul-le-mul_right}
use native.Mathlib.Nat.{le_trans}
use lib.Arith.{digits_lt, digits_div, digits_mod}
use lib.Dec.{leb}
use borrow.Author.Tests.{le-leb, lt-leb, leb-true}
use Rattle.neighbours.specs.Limits.{max_side, max_pixels}
use Rattle.lists.proofs.BoolLaws.{and_left, and_right}
use Rattle.std.specs.Prelude.{Option, Some, None}
use Rattle.neighbours.specs.Crop.{ValidSize, Sized, InCrop, PixelOf}
use Rattle.neighbours.specs.Grid.{column, row, position, placed, across, down, neighbour, neighbour_at}

-- ---- positions

pub column-position : (width : ℕ) {x : ℕ} (y : ℕ) → x < width → column width (position width x y) ≡ x
column-position width y l = digits_mod y l

pub row-position : (width : ℕ) {x : ℕ} (y : ℕ) → x < width → row width (position width x y) ≡ y
row-position width y l = digits_div y l

pub position-column-row : (width i : ℕ) → position width (column width i) (row width i) ≡ i
position-column-row width i = div-add-mod' i width

pub column-lt : (width i : ℕ) → 0 < width → column width i < width
column-lt width i pos = mod-lt i pos

pub row_lt : (width height i : ℕ) → 0 < width → i < width * height → row width i < height
row_lt width height i pos inside = (div-lt_iff_lt-mul pos).1 (rw mul_comm inside)

-- so they are in the crop
pub in_crop : {width height : ℕ} (i : ℕ) → ValidSize width height → i < width * height →
    InCrop width height (column width i) (row width i)
in_crop {width} {height} i valid inside =
    record { valid = valid; column = column-lt width i valid.wide; row = row_lt width height i valid.wide inside }

-- and a pixel of an image
pub pixel_of : {width height : ℕ} {image : List ℕ} (i : ℕ) → Sized width height image → i < width * height →
    PixelOf width height image (column width i) (row width i)
pixel_of i sized inside =
    let at = in_crop i sized.valid inside in
    record { sized = sized; column = at.column; row = at.row }

pub row-le : (width : ℕ) {i j : ℕ} → 0 < width → i ≤ j → row width i ≤ row width j
row-le width {i} {j} pos le =
    let below : j < suc (row width j) * width = (div-lt_iff_lt-mul pos).0 (omega arith) in
    let less : row width i < suc (row width j) = (div-lt_iff_lt-mul pos).1 (omega arith) in
    omega arith

pub position-lt : {width height x y : ℕ} → x < width → y < height → position width x y < width * height
position-lt {width} {height} lx ly = rw (mul_comm width height) (digits_lt ly lx)

-- a row ends inside the crop
pub row_within : (width : ℕ) {height y : ℕ} → y < height → y * width + width ≤ width * height
row_within width {height} {y} l = rw (← (suc-mul y width), mul_comm width height) (mul-le-mul_right width l)

-- a width that has a position is not 0
pub width-pos : (width height : ℕ) {i : ℕ} → i < width * height → 0 < width
width-pos width height l = go width l
  where
    go : (w : ℕ) {i : ℕ} → i < w * height → 0 < w
    go Prim.Native.Nat.ℕ.zero l = absurd (omega (arith, native.Mathlib.Nat.zero-mul height, l))
    go (Prim.Native.Nat.ℕ.suc w) l = omega arith

pub size-le : {width height : ℕ} → ValidSize width height → width * height ≤ max_pixels
size-le {width} {height} s = le_trans (mul-le-mul_right height s.narrow) (mul-le-mul_left max_side s.low)

-- so a position fits 16 bits
pub position-small : {width height x y : ℕ} → ValidSize width height → x < width → y < height →
    position width x y < max_pixels
position-small s lx ly = omega (arith, position-lt lx ly, size-le s)

-- ---- places

-- what a place inside the crop tells of its column and row, which count from one
pub record Placed (width height x y j : ℕ) : Type 0 where
  pub left : 1 ≤ x
  pub right : x ≤ width
  pub top : 1 ≤ y
  pub bottom : y ≤ height
  pub here : position width (x - 1) (y - 1) ≡ j

placed-if : (t : Bool) (i j : ℕ) → cond t (Some i) None ≡ Some j → (t ≡ true) × (i ≡ j)
placed-if true i j e = (refl, cc)
placed-if false i j e = let z : ◌≡◌ {A = ℕ} 0 1 = cc in absurd (omega arith)

module _ (width height x y : ℕ) where
  pub placed_at : {j : ℕ} → placed width height x y ≡ Some j → Placed width height x y j
  unfolding placed
  placed_at {j} e =
      let p = placed-if (leb 1 x && leb x width && leb 1 y && leb y height) (position width (x - 1) (y - 1)) j e in
      let abc = and_left (leb 1 x && leb x width && leb 1 y) (leb y height) p.0 in
      let ab = and_left (leb 1 x && leb x width) (leb 1 y) abc in
      record {
        left = leb-true 1 x (and_left (leb 1 x) (leb x width) ab);
        right = leb-true x width (and_right (leb 1 x) (leb x width) ab);
        top = leb-true 1 y (and_right (leb 1 x && leb x width) (leb 1 y) abc);
        bottom = leb-true y height (and_right (leb 1 x && leb x width && leb 1 y) (leb y height) p.0);
        here = p.1;
      }

  pub at-placed : 1 ≤ x → x ≤ width → 1 ≤ y → y ≤ height →
      placed width height x y ≡ Some (position width (x - 1) (y - 1))
  unfolding placed
  at-placed a b c d = simp (le-leb _ _ a, le-leb _ _ b, le-leb _ _ c, le-leb _ _ d)

  pub placed-left : x < 1 → placed width height x y ≡ None
  unfolding placed
  placed-left a = simp (lt-leb 1 x a)

  pub placed-right : 1 ≤ x → width < x → placed width height x y ≡ None
  unfolding placed
  placed-right a b = simp (le-leb 1 x a, lt-leb x width b)

  pub placed-top : 1 ≤ x → x ≤ width → y < 1 → placed width height x y ≡ None
  unfolding placed
  placed-top a b c = simp (le-leb 1 x a, le-leb x width b, lt-leb 1 y c)

  pub placed-bottom : 1 ≤ x → x ≤ width → 1 ≤ y → height < y → placed width height x y ≡ None
  unfolding placed
  placed-bottom a b c d = simp (le-leb 1 x a, le-leb x width b, le-leb 1 y c, lt-leb y height d)

-- a neighbour by the two sums that place it
pub neighbour_at-sums : (width height x y d : ℕ) {a b : ℕ} {place : Option ℕ} → a ≡ across d → b ≡ down d →
    placed width height (x + a) (y + b) ≡ place → neighbour_at width height x y d ≡ place
unfolding neighbour_at
neighbour_at-sums width height x y d far deep e = rw (← far, ← deep) e

-- a neighbour of a position, by its column and row
pub neighbour-position : (width height : ℕ) {x : ℕ} (y d : ℕ) → x < width →
    neighbour width height (position width x y) d ≡ neighbour_at width height x y d
unfolding neighbour
neighbour-position width height {x} y d l = rw (column-position width y l, row-position width y l)

-- a neighbour is inside the crop
pub neighbour_at-lt : (width height x y d : ℕ) {j : ℕ} → neighbour_at width height x y d ≡ Some j → j < width * height
unfolding neighbour_at
neighbour_at-lt width height x y d e =
    let p = placed_at width height (x + across d) (y + down d) e in
    rw (← p.here) (position-lt (omega arith) (omega arith))
