-- `load_column` meets its contract. The loop's invariant: the first `y` entries are written. Assumes nothing.
use Rattle.words.specs.Frame.{Written, LoadedAt}
use Rattle.words.proofs.inner.load_column.Given as goal

abbrev pub invariant-loop-y : goal.invariant-loop-y
invariant-loop-y l = Written (LoadedAt l.frame l.words l.k) l.from 1 l.y l.initial.entries l.entries
