-- Laws of `specs/BlankRows.antt`.
--   is_blank_row-iff   a row is blank exactly if each of its pixels is background
--   blank_rows-le      no more rows are blank than there are
-- Assumes nothing.
use Prim.Native.Nat.{ℕ, ◌≤◌, ◌<◌}
use mathlib.Core.Path.{◌≡◌}
use mathlib.Core.Bool.{true}
use mathlib.Core.Logic.{◌↔◌}
use mathlib.Core.List.{List}
use lib.Dec.{eqb}
use lib.ListN.{get_or}
use borrow.Author.Tests.{eqb-true, eq-eqb}
use Rattle.lists.specs.Lists.{range}
use Rattle.lists.proofs.ListLaws.{all-member, member-all, member-range-lt, lt-member-range, length-select-count_from-le}
use Rattle.neighbours.specs.Grid.{position}
use Rattle.neighbours.specs.BlankRows.{is_blank_row, blank_row_count}

-- a row is blank exactly if each of its pixels is background
pub is_blank_row-iff : (width : ℕ) (image : List ℕ) (y : ℕ) →
    (is_blank_row width image y ≡ true) ↔ ((x : ℕ) → x < width → get_or image (position width x y) 0 ≡ 0)
unfolding is_blank_row
is_blank_row-iff width image y = (
  λ e x l. eqb-true _ 0 (all-member (λ x. eqb (get_or image (position width x y) 0) 0) (range width) e x
      (lt-member-range x width l)),
  λ h. member-all (λ x. eqb (get_or image (position width x y) 0) 0) (range width)
      (λ x m. eq-eqb _ 0 (h x (member-range-lt x width m))),
)

-- no more rows are blank than there are
pub blank_rows-le : (width height : ℕ) (image : List ℕ) → blank_row_count width height image ≤ height
unfolding blank_row_count
blank_rows-le width height image = length-select-count_from-le (is_blank_row width image) 0 height
