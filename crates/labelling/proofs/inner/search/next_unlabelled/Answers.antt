-- `next_unlabelled` meets its contract: a row ends inside the crop, and a position that starts nothing is passed.
-- Assumes nothing.
use Rattle.std.proofs.Common.{arith}
use Rattle.neighbours.proofs.PositionLaws.{row_within}
use Rattle.labelling.proofs.SearchLaws.{next_start-at, unfound-first, unfound-next, unfound-all}
use Rattle.labelling.proofs.inner.search.next_unlabelled.Goals as goal

pub rows-init : goal.rows-init
rows-init c = unfound-first _ _ _ _ _ _ _ c.requires.from_bound

pub loop-at-preserved : goal.loop-at-preserved
loop-at-preserved c =
    let ends = row_within c.args.width c.rows-test.true in
    let other = rw c.is_start.ensures at c.if-is_start.false in
    unfound-next _ _ _ _ _ _ _ c.requires.searchable c.loop-at.invariant (omega arith) other c.follow.ensures

pub returns-after-rows : goal.returns-after-rows
returns-after-rows c = unfound-all _ _ _ _ _ _ _ c.rows.invariant c.rows-test.false

pub returns-then-is_start : goal.returns-then-is_start
returns-then-is_start c =
    let inv = c.loop-at.invariant in
    let ends = row_within c.args.width c.rows-test.true in
    let starts = rw c.is_start.ensures at c.if-is_start.true in
    next_start-at _ _ _ _ c.requires.searchable.forest (omega arith) inv.order inv.passed starts
