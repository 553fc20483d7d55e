-- `on_border` meets its contract: the column and the row of the position are those that it is given.
-- Assumes nothing.
use Prim.Native.Nat.{ℕ, ◌+◌, ◌<◌}
use mathlib.Core.Path.{◌≡◌}
use mathlib.Core.Bool.{◌||◌}
use native.Mathlib.Omega.{arith}
use lib.Dec.{eqb}
use Rattle.neighbours.specs.Grid.{position, on_border}
use Rattle.neighbours.proofs.PositionLaws.{column-position, row-position}
use Rattle.neighbours.proofs.inner.on_border.Goals as goal

-- the border by column and row
on_border-position : (width height : ℕ) {x : ℕ} (y : ℕ) → x < width →
    on_border width height (position width x y) ≡ eqb x 0 || eqb (x + 1) width || eqb y 0 || eqb (y + 1) height
unfolding on_border
on_border-position width height y l = rw (column-position width y l, row-position width y l)

pub returns-then-y-eq0 : goal.returns-then-y-eq0
returns-then-y-eq0 c = grind (arith, on_border-position c.args.width c.args.height c.args.y c.requires.column)

pub returns-else-y-eq0 : goal.returns-else-y-eq0
returns-else-y-eq0 c = grind (arith, on_border-position c.args.width c.args.height c.args.y c.requires.column)
