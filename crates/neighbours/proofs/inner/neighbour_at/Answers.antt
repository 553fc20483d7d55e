-- `neighbour_at` meets its contract: the two sums that it makes are the column and the row, counted
-- from one, at which `neighbour_at` places the neighbour. Assumes nothing.
use mathlib.Core.Path.{sym}
use native.Mathlib.Omega.{arith}
use Rattle.neighbours.proofs.PositionLaws.{at-placed, placed-left, placed-right, placed-top, placed-bottom}
use Rattle.neighbours.proofs.PositionLaws.{neighbour_at-sums}
use Rattle.neighbours.proofs.DirectionLaws.{across-le, down_le}
use Rattle.neighbours.proofs.inner.neighbour_at.Goals as goal
use Rattle.neighbours.proofs.inner.neighbour_at.Goals.{
  then-right-lt1-via-then-right-lt1,
  then-right-lt1-via-else-right-lt1+then-width-right,
  then-right-lt1-via-else-right-lt1+else-width-right+then-below-lt1,
  then-right-lt1-via-else-right-lt1+else-width-right+else-below-lt1+then-height-below,
}

pub overflow_add-right : goal.overflow_add-right
overflow_add-right c =
    let crop = c.requires.in_crop in
    omega (arith, c.across.ensures, across-le c.args.direction, crop.column, crop.valid.narrow)

pub overflow_add-below : goal.overflow_add-below
overflow_add-below c =
    let crop = c.requires.in_crop in
    omega (arith, c.down.ensures, down_le c.args.direction, crop.row, crop.valid.low)

pub returns-then-right-lt1 : goal.returns-then-right-lt1
returns-then-right-lt1 c =
    sym (neighbour_at-sums _ _ _ _ _ c.across.ensures c.down.ensures
    (elim c.then-right-lt1.branch [
      | then-right-lt1-via-then-right-lt1 w ↦ placed-left _ _ _ _ (omega arith)
      | then-right-lt1-via-else-right-lt1+then-width-right w ↦ placed-right _ _ _ _ (omega arith) (omega arith)
      | then-right-lt1-via-else-right-lt1+else-width-right+then-below-lt1 w ↦
          placed-top _ _ _ _ (omega arith) (omega arith) (omega arith)
      | then-right-lt1-via-else-right-lt1+else-width-right+else-below-lt1+then-height-below w ↦
          placed-bottom _ _ _ _ (omega arith) (omega arith) (omega arith) (omega arith)
    ]))

pub returns : goal.returns
returns c =
    sym (neighbour_at-sums _ _ _ _ _ c.across.ensures c.down.ensures
    (at-placed _ _ _ _ (omega arith) (omega arith) (omega arith) (omega arith)))
