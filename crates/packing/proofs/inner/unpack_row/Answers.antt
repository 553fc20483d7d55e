-- `unpack_row` meets its contract: the bytes that the row fills are unpacked, then the rest of it. Assumes nothing.
use Prim.Native.Nat.{◌+◌, ◌-◌, ◌*◌, ◌/◌}
use mathlib.Core.Path.{◌≡◌}
use native.Mathlib.Omega.{arith}
use Rattle.packing.specs.Rows.{row_unpacked}
use Rattle.packing.proofs.RowsLaws.{appended-tabulate-append}
use Rattle.packing.proofs.inner.unpack_row.Goals as goal

pub returns : goal.returns
unfolding row_unpacked
returns c =
    let width = c.args.width in
    let n = 8 * (width / 8) in
    let whole : n + (width - n) ≡ width = omega arith in
    let front = c.unpack_groups.ensures in
    rw whole at (appended-tabulate-append _ n (width - n) front (omega arith) c.unpack_rest.ensures)
