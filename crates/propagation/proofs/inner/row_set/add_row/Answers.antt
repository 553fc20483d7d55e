-- `row_set::add_row` meets its contract: a bit of the row's word is set. Assumes nothing.
use Prim.Native.Nat.{◌-◌, ◌%◌}
use native.Mathlib.Omega.{arith}
use Rattle.packing.proofs.WordsLaws.{one_shifted}
use Rattle.propagation.proofs.RowSetLaws.{rows_added-one}
use Rattle.propagation.proofs.inner.row_set.add_row.Goals as goal

pub returns : goal.returns
returns c =
    let a = c.args in
    rw (one_shifted (63 - a.n % 64) (omega arith)) (rows_added-one a.set.now a.n (omega (arith, c.requires)))
