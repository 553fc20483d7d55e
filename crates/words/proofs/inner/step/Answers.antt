-- `step` meets its contract: one column more is done, and all columns are the frame. Assumes nothing.
use mathlib.Core.Path.{refl}
use native.Mathlib.Omega.{arith}
use Rattle.words.proofs.FramedLaws.{step-more, step-whole}
use Rattle.words.proofs.inner.step.Goals as goal

pub loop-k-preserved : goal.loop-k-preserved
loop-k-preserved c =
    let inv = c.loop-k.invariant in
    let column = c.step_column-moved.ensures in
    let next = step-more c.args.frame c.put_levels.new.levels c.args.frame.rows c.loop-k.k _ _ _ refl
    c.keep_at-keep.ensures c.fill_at-fill.ensures inv.stepped inv.told column.eroded column.moved in
    record { before = inv.before; after = λ i. (c.type_inv.entries i).fits; stepped = next.0; told = next.1 }

pub returns : goal.returns
returns c =
    let inv = c.loop-k.invariant in
    step-whole c.args.frame.rows c.args.frame.columns c.loop-k.k refl refl (omega arith) c.put_levels.ensures
    inv.stepped inv.told inv.before inv.after
