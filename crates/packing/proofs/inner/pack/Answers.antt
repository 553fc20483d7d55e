-- `pack` meets its contract: each row is packed behind those above it. Assumes nothing.
use mathlib.Core.Path.{◌≡◌}
use mathlib.Core.List.{flat_map}
use native.Mathlib.Omega.{arith}
use Rattle.lists.specs.Lists.{count_from}
use Rattle.neighbours.proofs.AppendedLaws.{appended-none, appended-room}
use Rattle.neighbours.proofs.PackedLaws.{packed_length-is}
use Rattle.model.specs.Codec.{byte_bits, row_bytes}
use Rattle.packing.proofs.RowsLaws.{row-le, packed-rows, length-flat_map-packed_row, appended-flat_map-suc}
use Rattle.packing.proofs.inner.pack.Goals as goal

pub loop-y-init : goal.loop-y-init
unfolding flat_map count_from
loop-y-init c = appended-none _ _

pub pack_row-end-requires-clause-width_in_bounds : goal.pack_row-end-requires-clause-width_in_bounds
pack_row-end-requires-clause-width_in_bounds c =
    let a = c.args in
    let y = c.loop-y.y in
    let rows = length-flat_map-packed_row byte_bits a.width a.image.now y in
    let room = row-le (row_bytes a.width) a.height y (omega arith) in
    omega (arith, packed_length-is byte_bits a.width a.height, rows, room, c.loop-y.invariant.counted)

pub loop-y-preserved : goal.loop-y-preserved
loop-y-preserved c =
    appended-flat_map-suc _ _ c.loop-y.invariant
    (appended-room c.loop-y.invariant (omega arith) c.loop-y.auto.buffer) c.pack_row-end.ensures

pub returns : goal.returns
returns c =
    let e : c.loop-y.y ≡ c.args.height = omega arith in
    rw (packed-rows byte_bits _ _ _ (omega arith) c.requires.packable.valid.wide) (rw e at c.loop-y.invariant)
