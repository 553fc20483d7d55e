-- The loop's invariant in `count_row`: the ones of the row's first `k` words are counted. Assumes nothing.
use Rattle.std.proofs.Common.{◌≡◌, ◌*◌, ◌≤◌, length}
use Rattle.words.specs.Positions.{row_ones}
use Rattle.words.proofs.inner.positions.count_row.Given as goal

abbrev pub invariant-loop-k : goal.invariant-loop-k
invariant-loop-k l = (l.count ≡ length (row_ones l.height l.words l.y (l.y * l.width) l.k)) × (l.count ≤ 64 * l.k)
