-- `unpack_rest` meets its contract: each pixel is stored behind those before it. Assumes nothing.
use Prim.Native.Nat.{◌+◌, ◌-◌, ◌*◌}
use mathlib.Core.Path.{◌≡◌}
use native.Mathlib.Omega.{arith}
use Rattle.lists.proofs.ListLaws.{tabulate-zero}
use Rattle.neighbours.proofs.AppendedLaws.{appended-none, appended_one}
use Rattle.neighbours.proofs.PackedLaws.{row_units-ge}
use Rattle.model.specs.Codec.{byte_bits}
use Rattle.packing.proofs.RowsLaws.{appended-tabulate-suc}
use Rattle.packing.proofs.inner.unpack_rest.Goals as goal

pub loop-x-init : goal.loop-x-init
loop-x-init c =
    let none : c.args.from - c.args.from ≡ 0 = omega arith in
    rw (none, tabulate-zero) (appended-none _ _)

pub packed_pixel-requires-clause-x_bound : goal.packed_pixel-requires-clause-x_bound
packed_pixel-requires-clause-x_bound c = omega (arith, row_units-ge byte_bits c.args.width (omega arith))

pub loop-x-preserved : goal.loop-x-preserved
loop-x-preserved c =
    let args = c.args in
    let at = args.y * args.width in
    let x = c.loop-x.x in
    let n = x - args.from in
    let count : x + 1 - args.from ≡ n + 1 = omega arith in
    let next : at + (x + 1) ≡ at + x + 1 = omega arith in
    let column : args.from + n ≡ x = omega arith in
    let one = rw (← column) at c.packed_pixel.ensures in
    rw (count, next, one)
    (appended-tabulate-suc _ n c.loop-x.invariant (omega arith) (appended_one _ _ _ (omega arith)))
