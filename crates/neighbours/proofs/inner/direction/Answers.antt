-- `direction` meets its contract: it computes what the list of directions is tabulated by.
-- Assumes nothing.
use mathlib.Core.Path.{sym}
use Rattle.neighbours.proofs.DirectionLaws.{get_or-directions}
use Rattle.neighbours.proofs.inner.direction.Goals as goal

pub returns : goal.returns
returns c = rw c.from.ensures (sym (get_or-directions _ _ c.requires.k_lt_connectivity))
