-- `neighbour_value` meets its contract: the pixel's value where the place is inside, and else what lies beyond.
-- Assumes nothing.
use mathlib.Core.Path.{sym, ◌∙◌}
use native.Mathlib.Omega.{arith}
use Rattle.neighbours.proofs.PositionLaws.{neighbour_at-lt}
use Rattle.neighbours.proofs.DirectionLaws.{across-le, down_le}
use Rattle.neighbours.proofs.SideLaws.{neighbour_value-at, neighbour_value-outside}
use Rattle.neighbours.proofs.inner.neighbour_value.Goals as goal

pub overflow_add-x : goal.overflow_add-x
overflow_add-x c =
    let pixel = c.requires.pixel_of in
    omega (arith, c.across.ensures, across-le c.args.direction, pixel.column, pixel.sized.valid.narrow)

pub overflow_add-y : goal.overflow_add-y
overflow_add-y c =
    let pixel = c.requires.pixel_of in
    omega (arith, c.down.ensures, down_le c.args.direction, pixel.row, pixel.sized.valid.low)

pub returns-in-None : goal.returns-in-None
returns-in-None c =
    c.beyond.ensures
    ∙ rw (c.across.ensures, c.down.ensures)
    (sym (neighbour_value-outside _ _ _ _ _ _ c.requires.pixel_of.column
    (sym c.neighbour_at.ensures ∙ c.in-None.is)))

pub bounds-image-at : goal.bounds-image-at
bounds-image-at c =
    omega (
      arith,
      c.requires.pixel_of.sized.pixels,
      neighbour_at-lt _ _ _ _ _ (sym c.neighbour_at.ensures ∙ c.in-Some.is),
    )

pub returns-in-Some : goal.returns-in-Some
returns-in-Some c =
    sym (neighbour_value-at _ _ _ _ _ _ c.requires.pixel_of.column
    (sym c.neighbour_at.ensures ∙ c.in-Some.is))
