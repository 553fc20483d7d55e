-- `packed_length` meets its contract by definition; the product fits, since both sides do. Assumes nothing.
use Prim.Native.Nat.{◌≤◌}
use native.Mathlib.Omega.{arith}
use native.Mathlib.Nat.{mul-le-mul}
use Rattle.neighbours.proofs.PackedLaws.{row_units-lt, packed_length-is}
use Rattle.model.specs.Codec.{byte_bits}
use Rattle.packing.proofs.inner.packed_length.Goals as goal

pub overflow_mul-result : goal.overflow_mul-result
overflow_mul-result c =
    let few = row_units-lt byte_bits c.args.width (omega arith) in
    let row : c.row_bytes.result ≤ 8192 = omega (arith, c.row_bytes.ensures, few) in
    omega (arith, mul-le-mul row c.requires.height_le_max_side)

pub returns : goal.returns
returns c = rw (c.row_bytes.ensures, packed_length-is byte_bits)
