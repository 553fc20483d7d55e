-- What is prepared for an operation. Assumes nothing.
--   step-passes      its checks pass
--   prepared-fits    the contour in hand fits the queue, and a count
use Prim.Native.Nat.{ℕ, ◌≤◌}
use mathlib.Core.List.{List}
use native.Mathlib.Omega.{arith}
use lib.ListN.{length}
use Rattle.neighbours.specs.Limits.{max_pixels}
use Rattle.neighbours.proofs.PositionLaws.{size-le}
use Rattle.model.specs.declared.Step.{Step}
use Rattle.theorems.proofs.RefusalLaws.{step_checks-iff, StepPasses}
use Rattle.operations.specs.Inner.{Prepared}
use Rattle.operations.proofs.OpenLaws.{hand-le, hand-within}

module _ {width height : ℕ} {step : Step} {image queue : List ℕ} {len : ℕ}
    (p : Prepared width height step image queue len) where
  -- its checks pass
  pub step-passes : StepPasses width height step
  step-passes = (step_checks-iff width height step).0 p.passes

  -- the contour in hand fits the queue, and a count
  pub prepared-fits : (len ≤ length queue) × (len ≤ max_pixels)
  prepared-fits =
      (hand-within p.ready p.hand, omega (arith, hand-le p.ready p.hand, size-le p.ready.valid))
