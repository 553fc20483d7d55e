-- `put_fields` meets its contract: a turn writes one number behind those before it. Assumes nothing.
use mathlib.Core.List.{flat_map}
use Rattle.std.proofs.Common.{length, ◌<◌, add-one, arith}
use lib.Seq.{take-suc}
use Rattle.lists.proofs.ListLaws.{flat_map-snoc}
use Rattle.neighbours.proofs.AppendedLaws.{appended-none, appended-append}
use Rattle.lines.proofs.DecimalLaws.{length-decimal-le}
use Rattle.lines.proofs.inner.put_fields.Goals as goal

pub loop-field-init : goal.loop-field-init
unfolding flat_map
loop-field-init c = (appended-none _ _, omega arith)

pub put_decimal-end-requires : goal.put_decimal-end-requires
put_decimal-end-requires c =
    omega (arith, length-decimal-le, c.put_byte-end.ensures.counted, c.put_byte-end.auto.buffer)

pub loop-field-preserved : goal.loop-field-preserved
loop-field-preserved c =
    let fields = c.args.fields.now in
    let k = c.loop-field.field-index in
    let k_lt : k < length fields = omega arith in
    let (before, upto) = c.loop-field.invariant in
    let space = c.put_byte-end.ensures in
    let digits = c.put_decimal-end.ensures in
    let field = appended-append space (omega (arith, space.counted)) digits in (
      rw (add-one, take-suc fields k 0, flat_map-snoc) (appended-append before (omega arith) field),
      omega (arith, space.counted, digits.counted, length-decimal-le),
    )
