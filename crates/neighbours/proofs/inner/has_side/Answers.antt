-- `has_side` meets its contract by definition. Assumes nothing.
use mathlib.Core.Path.{refl}
use native.Mathlib.Omega.{arith}
use Rattle.neighbours.specs.Grid.{has_side}
use Rattle.neighbours.proofs.inner.has_side.Goals as goal

pub returns : goal.returns
unfolding has_side
returns c = refl

pub nonzero_div-result : goal.nonzero_div-result
nonzero_div-result c = omega (arith, c.requires)
