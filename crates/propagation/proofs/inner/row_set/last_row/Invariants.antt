-- `row_set::last_row` meets its contract. The loop's invariant: the rows of the set up to row `n` are those of word `j`
-- that are kept, or before it. Assumes nothing.
use lib.Bits.{bit_and}
use lib.ListN.{get_or}
use Rattle.propagation.proofs.RowSetLaws.{Before}
use Rattle.propagation.proofs.inner.row_set.last_row.Given as goal

abbrev pub invariant-loop-j : goal.invariant-loop-j
invariant-loop-j l = Before l.set l.n l.j (bit_and (get_or l.set l.j 0) l.kept)
