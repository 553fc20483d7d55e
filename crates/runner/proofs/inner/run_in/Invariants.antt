-- What the loop of `run_in` keeps: what has been done with the first k steps is what the model's run does with them.
use mathlib.Core.Path.{◌≡◌}
use lib.ListN.{length}
use Rattle.runner.proofs.RunListLaws.{RowsRunTo}
use Rattle.runner.proofs.inner.run_in.Given as goal

abbrev pub invariant-loop-k : goal.invariant-loop-k
invariant-loop-k l =
    RowsRunTo l.width l.height l.steps l.fn.image l.mask l.fn.queue l.reports l.k l.image l.queue l.rows l.entries
    × (length l.rows ≡ length l.fn.rows)
    × (length l.entries ≡ length l.fn.entries)
