-- `store` meets its contract. The loop's invariant: the first `k` columns are written. Assumes nothing.
use Prim.Native.Nat.{◌+◌, ◌*◌}
use Rattle.words.specs.Frame.{StoredAt}
use Rattle.words.proofs.ColumnLaws.{Columns}
use Rattle.words.proofs.inner.store.Given as goal

abbrev pub invariant-loop-k : goal.invariant-loop-k
invariant-loop-k l =
    Columns (λ i. StoredAt l.frame l.entries i ((i + 1) * l.apart + 1)) (λ i y. i + y * l.frame.columns) l.k
    l.frame.rows l.initial.words l.words
