-- The loop's invariant in `list_row_by`: the ones of the row's first `k` words are listed. Assumes nothing.
use Rattle.std.proofs.Common.{◌≡◌, ◌+◌, ◌*◌}
use Rattle.neighbours.specs.Crop.{Extended}
use Rattle.words.specs.Frame.{stride}
use Rattle.words.specs.Positions.{row_ones}
use Rattle.words.proofs.inner.positions.list_row_by.Given as goal

abbrev pub invariant-loop-k : goal.invariant-loop-k
invariant-loop-k g l =
    (l.from ≡ (l.k + 1) * stride l.height + 1 + l.y)
    × Extended l.initial.queue l.len (row_ones l.height l.words l.y l.first l.k) l.queue l.end
