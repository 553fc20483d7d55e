-- `above` meets its contract: it goes one row back. Assumes nothing.
use Rattle.neighbours.proofs.SquareLaws.{neighbour-above}
use Rattle.neighbours.proofs.inner.square.above.Goals as goal

pub returns-clause-neighbour : goal.returns-clause-neighbour
returns-clause-neighbour c = neighbour-above _ _ c.requires.at_bound c.requires.width_le_at
