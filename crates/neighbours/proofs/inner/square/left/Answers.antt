-- `left` meets its contract: it goes one position back. Assumes nothing.
use Rattle.neighbours.proofs.SquareLaws.{neighbour-left}
use Rattle.neighbours.proofs.inner.square.left.Goals as goal

pub returns-clause-neighbour : goal.returns-clause-neighbour
returns-clause-neighbour c = neighbour-left _ _ c.requires.at_bound
