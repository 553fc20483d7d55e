-- `put_fields` meets its contract: the fields of each kind of step are written one behind the other.
-- Assumes nothing.
use native.Mathlib.Omega.{arith}
use Rattle.neighbours.proofs.AppendedLaws.{appended-append}
use Rattle.model.specs.Codec.{u16_bytes, field_bytes}
use Rattle.job.proofs.inner.write.put_fields.Goals as goal

pub put_erosion-requires : goal.put_erosion-requires
unfolding field_bytes u16_bytes
put_erosion-requires c = omega (arith, rw c.in-Erode.is at c.requires)

pub put_byte_u16-requires : goal.put_byte_u16-requires
unfolding field_bytes u16_bytes
put_byte_u16-requires c = omega (arith, rw c.in-Dilate.is at c.requires)

pub put_byte_u16-requires-in-Propagate : goal.put_byte_u16-requires-in-Propagate
unfolding field_bytes u16_bytes
put_byte_u16-requires-in-Propagate c = omega (arith, rw c.in-Propagate.is at c.requires)

pub put_byte_u16-y_at-requires : goal.put_byte_u16-y_at-requires
unfolding field_bytes u16_bytes
put_byte_u16-y_at-requires c = omega (arith, rw c.in-FloodFill.is at c.requires)

pub put_u16-requires-clause-at_in_bounds : goal.put_u16-requires-clause-at_in_bounds
unfolding field_bytes u16_bytes
put_u16-requires-clause-at_in_bounds c =
    omega (arith, rw c.in-FloodFill.is at c.requires, c.put_byte_u16-y_at.ensures.counted)

pub put_byte-requires : goal.put_byte-requires
unfolding field_bytes
put_byte-requires c = omega (arith, rw c.in-ClearBorder.is at c.requires)

pub put_erosion-requires-in-ErodeBySides : goal.put_erosion-requires-in-ErodeBySides
unfolding field_bytes u16_bytes
put_erosion-requires-in-ErodeBySides c = omega (arith, rw c.in-ErodeBySides.is at c.requires)

pub returns-in-Erode : goal.returns-in-Erode
unfolding field_bytes
returns-in-Erode c = rw c.in-Erode.is c.put_erosion.ensures

pub returns-in-Dilate : goal.returns-in-Dilate
unfolding field_bytes
returns-in-Dilate c = rw c.in-Dilate.is c.put_byte_u16.ensures

pub returns-in-Propagate : goal.returns-in-Propagate
unfolding field_bytes
returns-in-Propagate c = rw c.in-Propagate.is c.put_byte_u16-in-Propagate.ensures

pub returns-in-FloodFill : goal.returns-in-FloodFill
unfolding field_bytes u16_bytes
returns-in-FloodFill c =
    let one = c.put_byte_u16-y_at.ensures in
    rw (c.in-FloodFill.is, ← c.from.ensures)
    (appended-append one (omega (arith, rw c.in-FloodFill.is at c.requires, one.counted)) c.put_u16.ensures)

pub returns-in-ClearBorder : goal.returns-in-ClearBorder
unfolding field_bytes
returns-in-ClearBorder c = rw c.in-ClearBorder.is c.put_byte.ensures

pub returns-in-ErodeBySides : goal.returns-in-ErodeBySides
unfolding field_bytes
returns-in-ErodeBySides c = rw c.in-ErodeBySides.is c.put_erosion-in-ErodeBySides.ensures
