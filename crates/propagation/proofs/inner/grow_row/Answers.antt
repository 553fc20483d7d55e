-- `grow_row` meets its contract: no word, one more, and all. Assumes nothing.
use mathlib.Core.Path.{◌≡◌}
use native.Mathlib.Omega.{arith}
use Rattle.propagation.proofs.GrownLaws.{row-none, row_more}
use Rattle.propagation.proofs.inner.grow_row.Goals as goal

pub loop-k-init : goal.loop-k-init
loop-k-init c = row-none _ _ c.level_at-level.ensures

pub loop-k-preserved : goal.loop-k-preserved
loop-k-preserved c =
    row_more c.loop-k.invariant c.requires c.loop-k-test.true c.level_at-right.ensures c.word_above-above.ensures
    c.grown_word-word.ensures

pub returns-clause-kept : goal.returns-clause-kept
returns-clause-kept c =
    let all : c.loop-k.k ≡ c.args.columns = omega arith in
    rw all at c.loop-k.invariant.saved
