-- `put_line` meets its contract: the word, the numbers and the newline stand one behind the other.
-- Assumes nothing.
use native.Mathlib.Omega.{arith}
use Rattle.neighbours.proofs.AppendedLaws.{appended-append}
use Rattle.model.specs.Listing.{line}
use Rattle.lines.proofs.DecimalLaws.{length-fields-le}
use Rattle.lines.proofs.inner.put_line.Goals as goal

pub put_fields-fields_end-requires : goal.put_fields-fields_end-requires
put_fields-fields_end-requires c =
    omega (arith, c.put_text-name_end.ensures.counted, c.put_text-name_end.auto.buffer)

pub put_byte-requires : goal.put_byte-requires
put_byte-requires c =
    let fields_le = length-fields-le c.args.fields.now in
    omega (
      arith,
      c.put_text-name_end.ensures.counted,
      c.put_text-name_end.auto.buffer,
      c.put_fields-fields_end.ensures.counted,
      c.put_fields-fields_end.auto.buffer,
    )

pub returns : goal.returns
unfolding line
returns c =
    let name = c.put_text-name_end.ensures in
    let fields = c.put_fields-fields_end.ensures in
    let fields_le = length-fields-le c.args.fields.now in
    let before = appended-append name (omega (arith, name.counted)) fields in
    appended-append before (omega (arith, name.counted, fields.counted)) c.put_byte.ensures
