-- `neighbour_inside` meets its contract: a position that is not on the border has a whole row and a pixel before
-- it, and a neighbour in every direction. Assumes nothing.
use Prim.Native.Nat.{◌≤◌}
use native.Mathlib.Nat.{mul-le-mul_right}
use native.Mathlib.Omega.{arith}
use Rattle.neighbours.proofs.PositionLaws.{size-le}
use Rattle.neighbours.proofs.DirectionLaws.{across-le, down_le}
use Rattle.neighbours.proofs.GridLaws.{not_border-behind, not_border-at}
use Rattle.neighbours.proofs.inner.neighbour_inside.Goals as goal

pub overflow_add-result : goal.overflow_add-result
overflow_add-result c =
    let off = c.requires.off_border in
    omega (arith, c.across.ensures, across-le c.args.direction, size-le off.valid, off.inside)

pub overflow_mul-result : goal.overflow_mul-result
overflow_mul-result c =
    let l : c.down.result ≤ 2 = rw c.down.ensures (down_le c.args.direction) in
    omega (arith, mul-le-mul_right c.args.width l, c.requires.off_border.valid.narrow)

pub overflow_add-result-2 : goal.overflow_add-result-2
overflow_add-result-2 c =
    let off = c.requires.off_border in
    let l : c.down.result ≤ 2 = rw c.down.ensures (down_le c.args.direction) in
    omega (
      arith,
      c.across.ensures,
      across-le c.args.direction,
      size-le off.valid,
      off.inside,
      mul-le-mul_right c.args.width l,
      off.valid.narrow,
    )

pub overflow_sub-result : goal.overflow_sub-result
overflow_sub-result c =
    let off = c.requires.off_border in omega (arith, not_border-behind _ _ _ off.inside off.off)

pub overflow_sub-result-2 : goal.overflow_sub-result-2
overflow_sub-result-2 c =
    let off = c.requires.off_border in omega (arith, not_border-behind _ _ _ off.inside off.off)

pub returns : goal.returns
returns c =
    let off = c.requires.off_border in
    rw (c.across.ensures, c.down.ensures) (not_border-at _ _ _ _ off.inside off.off)
