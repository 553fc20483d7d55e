-- `depth_within`, which calls itself, meets its contract: an enclosing component has a lower number, and a depth that
-- is one less. Assumes nothing.
use mathlib.Core.Path.{sym, ◌∙◌}
use native.Mathlib.Omega.{arith}
use Rattle.theorems.proofs.DepthLaws.{depth-outermost}
use Rattle.nesting.proofs.EnclosedLaws.{enclosed, depth_le}
use Rattle.nesting.proofs.inner.+depth_within.Goals as goal

pub returns-then-enclosing-eq0 : goal.returns-then-enclosing-eq0
returns-then-enclosing-eq0 t c = sym (depth-outermost _ _ (sym c.parent_in-enclosing.ensures ∙ c.if-enclosing-eq0.true))

pub depth_within-requires : goal.depth_within-requires
depth_within-requires t c =
    (omega (arith, (enclosed _ _ _ c.parent_in-enclosing.ensures c.if-enclosing-eq0.false).0, c.decreases), tt)

pub overflow_add-result : goal.overflow_add-result
overflow_add-result t c =
    let a = c.args in
    let more = (enclosed _ _ _ c.parent_in-enclosing.ensures c.if-enclosing-eq0.false).1 in
    omega (arith, c.depth_within.ensures, more, depth_le a.records.now a.p)

pub returns : goal.returns
returns t c =
    let more = (enclosed _ _ _ c.parent_in-enclosing.ensures c.if-enclosing-eq0.false).1 in
    omega (arith, c.depth_within.ensures, more)
