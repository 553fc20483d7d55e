-- `unpack` meets its contract: each row is written behind those above it. Assumes nothing.
use Prim.Native.Nat.{◌+◌, ◌*◌}
use mathlib.Core.Path.{◌≡◌, sym, ◌∙◌}
use mathlib.Core.List.{flat_map}
use native.Mathlib.Omega.{arith}
use native.Mathlib.Nat.{zero-mul, suc-mul, mul_comm}
use native.Mathlib.Numerals.{add-one}
use Rattle.lists.specs.Lists.{count_from}
use Rattle.neighbours.proofs.AppendedLaws.{appended-none, appended-room, appended-whole}
use Rattle.neighbours.proofs.PackedLaws.{packed_length-is}
use Rattle.model.specs.Codec.{byte_bits, row_bytes}
use Rattle.packing.proofs.RowsLaws.{row-le, unpacked-rows, appended-flat_map-suc}
use Rattle.packing.proofs.inner.unpack.Goals as goal

pub loop-y-init : goal.loop-y-init
unfolding flat_map count_from
loop-y-init c = rw zero-mul (appended-none _ _)

pub unpack_row-requires-clause-packed_row_of : goal.unpack_row-requires-clause-packed_row_of
unpack_row-requires-clause-packed_row_of c =
    let a = c.args in
    let valid = c.requires.sized.valid in
    let room = row-le (row_bytes a.width) a.height c.loop-y.y (omega arith) in
    record {
      wide = valid.wide;
      narrow = valid.narrow;
      low = omega (arith, valid.low);
      whole = omega (arith, c.requires.packed_len, packed_length-is byte_bits a.width a.height);
    }

pub loop-y-preserved : goal.loop-y-preserved
loop-y-preserved c =
    let y = c.loop-y.y in
    let next : (y + 1) * c.args.width ≡ y * c.args.width + c.args.width = rw (add-one, suc-mul) in
    rw next
    (appended-flat_map-suc _ y c.loop-y.invariant
    (appended-room c.loop-y.invariant (omega arith) c.loop-y.auto.image) c.unpack_row.ensures)

pub returns : goal.returns
returns c =
    let e : c.loop-y.y ≡ c.args.height = omega arith in
    let sized = c.requires.sized in
    appended-whole c.loop-y.invariant (rw (e, mul_comm) (sym sized.pixels))
    ∙ rw e (sym (unpacked-rows byte_bits _ _ _ sized.valid.wide))
