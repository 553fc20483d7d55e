-- `strip_side` meets its contract: each arm says which entry of the list it is. Assumes nothing.
use mathlib.Core.Path.{sym}
use native.Mathlib.Omega.{arith}
use Rattle.neighbours.specs.Border.{strip_side}
use Rattle.neighbours.proofs.BorderLaws.{strip_side-last}
use Rattle.neighbours.proofs.inner.border.strip_side.Goals as goal

pub returns-in-0 : goal.returns-in-0
unfolding strip_side
returns-in-0 c = rw c.in-0.is

pub returns-in-1 : goal.returns-in-1
unfolding strip_side
returns-in-1 c = rw c.in-1.is

pub returns-in-2 : goal.returns-in-2
unfolding strip_side
returns-in-2 c = rw c.in-2.is

pub returns-in_default : goal.returns-in_default
returns-in_default c = sym (strip_side-last _ (omega arith))
