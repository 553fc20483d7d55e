-- `put_four` meets its contract. The loop's invariant: the first `k` numbers are written. Assumes nothing.
use Rattle.std.proofs.Common.{◌+◌, ◌*◌, ◌/◌, ◌%◌, ◌^◌}
use Rattle.lists.specs.Lists.{tabulate}
use Rattle.neighbours.specs.Crop.{Extended}
use Rattle.word_ones.proofs.inner.bytes.put_four.Given as goal

abbrev pub invariant-loop-k : goal.invariant-loop-k
invariant-loop-k l =
    Extended l.initial.queue l.len (tabulate l.k (λ j. l.x / 2 ^ (16 * j) % 2 ^ 16)) l.queue (l.len + l.k)
