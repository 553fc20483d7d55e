-- `put_queued` meets its contract: a position of the largest crop fits an entry. Assumes nothing.
use mathlib.Core.Path.{refl}
use Rattle.neighbours.proofs.inner.put_queued.Goals as goal

pub returns : goal.returns
returns c = refl
