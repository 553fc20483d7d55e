-- `climb` meets its contract. The loop's invariant: the depth is that of the component it has come to and the
-- levels climbed. The measure is that component's number. Assumes nothing.
use Prim.Native.Nat.{◌+◌}
use mathlib.Core.Path.{◌≡◌}
use Rattle.model.specs.Depth.{depth}
use Rattle.nesting.proofs.inner.climb.Given as goal

abbrev pub invariant-loop-p : goal.invariant-loop-p
invariant-loop-p l = depth l.records l.p ≡ l.levels + depth l.records l.at

abbrev pub decreases-loop-p : goal.decreases-loop-p
decreases-loop-p l = l.at
