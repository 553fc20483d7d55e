-- `border_strip` meets its contract: each arm says which clause of the definition holds. Assumes nothing.
use mathlib.Core.Path.{◌≡◌}
use native.Mathlib.Omega.{arith}
use Rattle.neighbours.specs.Border.{border_strip}
use Rattle.neighbours.proofs.inner.border.border_strip.Goals as goal

pub returns-in-0 : goal.returns-in-0
unfolding border_strip
returns-in-0 c = rw c.in-0.is

pub returns-in-1 : goal.returns-in-1
unfolding border_strip
returns-in-1 c = rw c.in-1.is

pub returns-in-2 : goal.returns-in-2
unfolding border_strip
returns-in-2 c = rw c.in-2.is

pub returns-in_default : goal.returns-in_default
unfolding border_strip
returns-in_default c = let e : c.args.k ≡ 3 = omega arith in rw e
