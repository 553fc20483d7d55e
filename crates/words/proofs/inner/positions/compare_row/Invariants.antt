-- The loop's invariant in `compare_row`: the ones of the row's first `k` words stand in the queue. Assumes nothing.
use Rattle.std.proofs.Common.{◌*◌, ◌≤◌}
use Rattle.neighbours.specs.Crop.{Extended}
use Rattle.words.specs.Positions.{row_ones}
use Rattle.words.proofs.inner.positions.compare_row.Given as goal

abbrev pub invariant-loop-k : goal.invariant-loop-k
invariant-loop-k l =
    Extended l.queue l.len (row_ones l.height l.words l.y (l.y * l.width) l.k) l.queue l.end × (l.end ≤ l.n)
