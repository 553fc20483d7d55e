-- `join_row` meets its contract. The loop's invariant: what was joined is linked, the first column is joined, and so
-- are the squares of the columns so far. Assumes nothing.
use Prim.Native.Nat.{ℕ, suc, ◌+◌, ◌*◌, ◌<◌}
use lib.ListN.{get_or}
use Rattle.union_find.specs.Regions.{Coarser, SquareJoined}
use Rattle.union_find.proofs.RegionLaws.{Above}
use Rattle.union_find.proofs.inner.joins.join_row.Given as goal

abbrev pub invariant-loop-x : goal.invariant-loop-x
invariant-loop-x l =
    Coarser l.width l.height l.connectivity l.image (suc l.y * l.width) l.fn.queue l.queue
    × Above l.width l.image l.queue (l.y * l.width)
    × ((j : ℕ) → j < l.x-index →
    SquareJoined l.width l.connectivity l.image l.queue (l.y * l.width + get_or l.found j 0))
