-- `store_column` meets its contract: one word more is written. Assumes nothing.
use mathlib.Core.Path.{refl}
use native.Mathlib.Omega.{arith}
use Rattle.words.proofs.WrittenLaws.{written-more}
use Rattle.words.proofs.FrameLaws.{word-inside}
use Rattle.words.proofs.inner.store_column.Goals as goal

pub loop-y-preserved : goal.loop-y-preserved
loop-y-preserved c =
    let pre = c.requires in
    let inside = word-inside _ _ _ _ pre.column c.loop-y-test.true pre.small.narrow pre.small.low in
    written-more _ _ pre.small.wide c.loop-y.invariant refl (omega (arith, inside.0, pre.size))
    (cc)
