-- `grow_rows` meets its contract. The loop's invariant: the rows of the set from `y` on are grown, the row below is
-- saved, and row `end`, counted from one, is the last of the others. Assumes nothing.
use Prim.Native.Nat.{◌≤◌}
use mathlib.Core.Path.{◌≡◌}
use lib.ListN.{length}
use Rattle.neighbours.specs.Words.{max_row_words}
use Rattle.propagation.specs.RowSet.{set_words, LastRow}
use Rattle.propagation.proofs.GrownLaws.{RowsFrom, Saved}
use Rattle.propagation.proofs.inner.grow_rows.Given as goal

abbrev pub invariant-loop-end : goal.invariant-loop-end
invariant-loop-end l =
    record {
      inside : l.y ≤ l.frame.rows;
      room : length l.below ≡ max_row_words;
      next_len : length l.next ≡ set_words;
      last : LastRow l.set l.y l.end;
      rows : RowsFrom l.set l.frame.columns l.frame.rows l.initial.words l.mask l.frame.four l.frame.eight l.y l.words
          l.next l.moved;
      saved : Saved l.frame.columns l.frame.rows l.initial.words l.y l.below;
    }

abbrev pub decreases-loop-end : goal.decreases-loop-end
decreases-loop-end l = l.end
