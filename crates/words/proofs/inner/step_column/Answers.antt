-- `step_column` meets its contract: one word more is done. Assumes nothing.
use native.Mathlib.Omega.{arith}
use Rattle.words.proofs.WrittenLaws.{written-more}
use Rattle.words.proofs.FrameLaws.{same_more}
use Rattle.words.proofs.inner.step_column.Goals as goal

pub loop-y-preserved : goal.loop-y-preserved
loop-y-preserved c =
    let inv = c.loop-y.invariant in
    record {
      eroded = written-more _ _ (omega arith) inv.eroded (omega arith) (omega arith) c.eroded_word-word.ensures;
      moved = same_more _ _ inv.eroded (omega arith) (omega arith) inv.moved;
    }
