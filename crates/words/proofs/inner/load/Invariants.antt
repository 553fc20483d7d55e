-- `load` meets its contract. The loop's invariant: the first `k` columns are written. Assumes nothing.
use Prim.Native.Nat.{◌+◌, ◌*◌}
use Rattle.words.specs.Frame.{LoadedAt}
use Rattle.words.proofs.ColumnLaws.{Columns}
use Rattle.words.proofs.inner.load.Given as goal

abbrev pub invariant-loop-k : goal.invariant-loop-k
invariant-loop-k l =
    Columns (LoadedAt l.frame l.words) (λ i y. (i + 1) * l.apart + 0 + y) l.k l.apart l.initial.entries l.entries
