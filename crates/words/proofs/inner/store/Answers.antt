-- `store` meets its contract: one column more is written. Assumes nothing.
use Rattle.words.proofs.ColumnLaws.{rows_more}
use Rattle.words.proofs.inner.store.Goals as goal

pub loop-k-preserved : goal.loop-k-preserved
loop-k-preserved c = rows_more _ _ _ c.loop-k-test.true c.loop-k.invariant c.store_column.ensures
