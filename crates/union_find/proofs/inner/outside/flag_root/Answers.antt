-- `flag_root` meets its contract: a root is not behind its pixel, so it has a flag. Assumes nothing.
use native.Mathlib.Omega.{arith}
use Rattle.union_find.proofs.ForestLaws.{root-le}
use Rattle.union_find.proofs.inner.outside.flag_root.Goals as goal

pub offset_bounds-flags-top : goal.offset_bounds-flags-top
offset_bounds-flags-top c =
    let pre = c.requires in
    let low = root-le _ c.args.queue.now c.args.at pre.forest (omega arith) in
    omega (arith, c.root-top.ensures.found, pre.flag)

pub bounds-flags-top : goal.bounds-flags-top
bounds-flags-top c =
    let pre = c.requires in
    let low = root-le _ c.args.queue.now c.args.at pre.forest (omega arith) in
    omega (arith, c.root-top.ensures.found, pre.flag)
