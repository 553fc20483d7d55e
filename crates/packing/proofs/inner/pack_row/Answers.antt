-- `pack_row` meets its contract: each byte is stored behind those before it. Assumes nothing.
use Prim.Native.Nat.{◌+◌}
use mathlib.Core.Path.{◌≡◌}
use native.Mathlib.Omega.{arith}
use native.Mathlib.Nat.{add-zero}
use Rattle.lists.proofs.ListLaws.{tabulate-zero}
use Rattle.neighbours.proofs.AppendedLaws.{appended-none, appended_one}
use Rattle.neighbours.proofs.PackedLaws.{row_units-lt}
use Rattle.model.specs.Codec.{byte_bits}
use Rattle.packing.specs.Rows.{packed_row}
use Rattle.packing.proofs.RowsLaws.{appended-tabulate-suc}
use Rattle.packing.proofs.inner.pack_row.Goals as goal

pub loop-k-init : goal.loop-k-init
loop-k-init c = rw (tabulate-zero, add-zero) (appended-none _ _)

pub overflow_mul-k : goal.overflow_mul-k
overflow_mul-k c = omega (arith, row_units-lt byte_bits c.args.width (omega arith), c.row_bytes-count.ensures)

pub packed_byte-requires-clause-x_le_max_side : goal.packed_byte-requires-clause-x_le_max_side
packed_byte-requires-clause-x_le_max_side c =
    omega (arith, row_units-lt byte_bits c.args.width (omega arith), c.row_bytes-count.ensures)

pub loop-k-preserved : goal.loop-k-preserved
loop-k-preserved c =
    let at = c.args.at in
    let k = c.loop-k.k in
    let next : at + (k + 1) ≡ at + k + 1 = omega arith in
    rw (next, c.packed_byte.ensures)
    (appended-tabulate-suc _ k c.loop-k.invariant (omega arith) (appended_one _ _ _ (omega arith)))

pub returns : goal.returns
unfolding packed_row
returns c =
    let e : c.loop-k.k ≡ c.row_bytes-count.result = omega arith in
    rw (← c.row_bytes-count.ensures) (rw e at c.loop-k.invariant)
