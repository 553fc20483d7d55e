-- `level_at` meets its contract: all bits are set behind the row. Assumes nothing.
use native.Mathlib.Omega.{arith}
use Rattle.propagation.proofs.GrownLaws.{level_at-behind}
use Rattle.propagation.proofs.inner.level_at.Goals as goal

pub returns-then-k-columns : goal.returns-then-k-columns
returns-then-k-columns c = level_at-behind _ _ _ _ _ (omega arith)
