-- `fill_behind` meets its contract. Assumes nothing.
use Rattle.neighbours.proofs.WordLaws.{bit-fill}
use Rattle.neighbours.proofs.inner.words.fill_behind.Goals as goal

pub returns : goal.returns
returns c width sides k mask = bit-fill c.args.word mask
