-- `corner` meets its contract: it goes one position back from the pixel above. Assumes nothing.
use native.Mathlib.Omega.{arith}
use Rattle.neighbours.proofs.SquareLaws.{neighbour-corner}
use Rattle.neighbours.proofs.inner.square.corner.Goals as goal

pub returns-clause-neighbour : goal.returns-clause-neighbour
returns-clause-neighbour c =
    rw c.above.ensures.position (neighbour-corner _ _ c.requires.at_bound (omega (arith, c.requires.width_lt_at)))
