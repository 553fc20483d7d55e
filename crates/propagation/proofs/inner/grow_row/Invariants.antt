-- `grow_row` meets its contract. The loop's invariant: the first `k` words are grown. Assumes nothing.
use Rattle.propagation.proofs.GrownLaws.{RowGrown}
use Rattle.propagation.proofs.inner.grow_row.Given as goal

abbrev pub invariant-loop-k : goal.invariant-loop-k
invariant-loop-k l =
    RowGrown l.columns l.y l.initial.words l.mask l.initial.below l.four l.eight l.k l.words l.below l.moved l.left
    l.level
