-- The ones of a word are counted behind those of the words before it, in `count_row`. Assumes nothing.
use Rattle.std.proofs.Common.{refl, arith}
use Rattle.words.specs.Positions.{row_ones}
use Rattle.words.proofs.PositionsLaws.{row_ones-count}
use Rattle.words.proofs.inner.positions.count_row.Goals as goal

pub loop-k-init : goal.loop-k-init
unfolding row_ones
loop-k-init c = (refl, omega arith)

pub loop-k-preserved : goal.loop-k-preserved
loop-k-preserved c = (
  row_ones-count _ _ _ _ _ c.word_of.ensures c.word_of.type_inv c.ones_of-count.ensures.value c.loop-k.invariant.0,
  omega arith,
)
