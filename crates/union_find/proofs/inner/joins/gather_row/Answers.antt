-- `gather_row` meets its contract: all columns are looked at. Assumes nothing.
use native.Mathlib.Omega.{arith}
use Rattle.union_find.proofs.GatherLaws.{listed-all}
use Rattle.union_find.proofs.inner.joins.gather_row.Goals as goal

pub returns : goal.returns
returns c = listed-all c.loop-x.invariant.1 (omega arith) c.loop-x.invariant.0
