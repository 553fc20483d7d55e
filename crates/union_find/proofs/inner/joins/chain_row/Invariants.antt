-- `chain_row` meets its contract. The loop's invariant: the row is chained below `at`, and `run` is the entry before
-- it. Assumes nothing.
use Prim.Native.Nat.{◌<◌}
use mathlib.Core.Path.{◌≡◌}
use lib.ListN.{get_or}
use Rattle.neighbours.specs.Square.{left_of}
use Rattle.union_find.proofs.ChainLaws.{ChainedTo}
use Rattle.union_find.proofs.inner.joins.chain_row.Given as goal

abbrev pub invariant-loop-at : goal.invariant-loop-at
invariant-loop-at l =
    (l.run < l.at) × (l.run ≡ get_or l.queue (left_of l.at) 0)
    × ChainedTo l.width l.image l.y l.initial.queue l.queue l.at
