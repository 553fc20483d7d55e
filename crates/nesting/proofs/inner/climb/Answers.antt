-- `climb` meets its contract. The loop's invariant: the depth is that of the component it has come to and the
-- levels climbed. The measure is that component's number. Assumes nothing.
use Prim.Native.Nat.{suc, ◌<◌}
use mathlib.Core.Path.{◌≡◌, sym, ◌∙◌}
use native.Mathlib.Omega.{arith}
use Rattle.model.specs.Depth.{depth}
use Rattle.theorems.proofs.DepthLaws.{depth-outermost}
use Rattle.nesting.proofs.EnclosedLaws.{enclosed, depth_le}
use Rattle.nesting.proofs.inner.climb.Goals as goal

-- that component has a lower number, and a depth that is one less
encloses : (c : goal.Else-enclosing-eq0) →
    let records = c.args.records.now in
    let at = c.loop-p.at in
    let next = c.parent_in-enclosing.result in
    (next < at) × (depth records at ≡ suc (depth records next))
encloses c = enclosed _ _ _ c.parent_in-enclosing.ensures c.if-enclosing-eq0.false

pub returns-then-enclosing-eq0 : goal.returns-then-enclosing-eq0
returns-then-enclosing-eq0 c = omega
    (arith, depth-outermost _ _ (sym c.parent_in-enclosing.ensures ∙ c.if-enclosing-eq0.true))

pub overflow_add-levels : goal.overflow_add-levels
overflow_add-levels c =
    let a = c.args in
    omega (arith, (encloses c).1, depth_le a.records.now a.p)

pub loop-p-smaller : goal.loop-p-smaller
loop-p-smaller c = (encloses c).0

pub loop-p-preserved : goal.loop-p-preserved
loop-p-preserved c = omega (arith, (encloses c).1)
