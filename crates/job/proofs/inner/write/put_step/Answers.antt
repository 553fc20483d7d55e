-- `put_step` meets its contract: the length byte, the kind and the fields are written one behind the other.
-- Assumes nothing.
use native.Mathlib.Omega.{arith}
use Rattle.neighbours.proofs.AppendedLaws.{appended-append}
use Rattle.model.specs.Codec.{step_bytes}
use Rattle.job.proofs.inner.write.put_step.Goals as goal

pub put_byte-kind_at-requires : goal.put_byte-kind_at-requires
unfolding step_bytes
put_byte-kind_at-requires c = omega (arith, c.requires)

pub put_byte-fields_at-requires : goal.put_byte-fields_at-requires
unfolding step_bytes
put_byte-fields_at-requires c = omega (arith, c.requires, c.put_byte-kind_at.ensures.counted)

pub put_fields-requires : goal.put_fields-requires
unfolding step_bytes
put_fields-requires c =
    omega (arith, c.requires, c.put_byte-kind_at.ensures.counted, c.put_byte-fields_at.ensures.counted)

pub returns : goal.returns
unfolding step_bytes
returns c =
    let one = c.put_byte-kind_at.ensures in
    let two = appended-append one (omega (arith, c.requires, one.counted)) c.put_byte-fields_at.ensures in
    rw (← c.kind_of-kind.ensures, ← c.kind_length.ensures)
    (appended-append two (omega (arith, c.requires, two.counted)) c.put_fields.ensures)
