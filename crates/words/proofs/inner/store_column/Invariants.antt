-- `store_column` meets its contract. The loop's invariant: the first `y` words are written. Assumes nothing.
use Rattle.words.specs.Frame.{Written, StoredAt}
use Rattle.words.proofs.inner.store_column.Given as goal

abbrev pub invariant-loop-y : goal.invariant-loop-y
invariant-loop-y l =
    Written (StoredAt l.fn.frame l.entries l.k l.from) l.k l.columns l.y l.initial.words l.words
