-- `put_head` meets its contract: its five fields are written one behind the other. Assumes nothing.
use native.Mathlib.Omega.{arith}
use Rattle.neighbours.proofs.AppendedLaws.{appended-append}
use Rattle.model.specs.Codec.{u16_bytes}
use Rattle.job.proofs.inner.write.put_head.Goals as goal

pub put_u16-height_at-requires-clause-at_in_bounds : goal.put_u16-height_at-requires-clause-at_in_bounds
unfolding u16_bytes
put_u16-height_at-requires-clause-at_in_bounds c =
    omega (arith, c.requires, c.put_byte-whole_at.ensures.counted, c.put_u16-width_at.ensures.counted)

pub put_u16-total_at-requires-clause-at_in_bounds : goal.put_u16-total_at-requires-clause-at_in_bounds
unfolding u16_bytes
put_u16-total_at-requires-clause-at_in_bounds c =
    omega (
      arith,
      c.requires,
      c.put_byte-whole_at.ensures.counted,
      c.put_u16-width_at.ensures.counted,
      c.put_u16-height_at.ensures.counted,
    )

pub put_byte-requires : goal.put_byte-requires
unfolding u16_bytes
put_byte-requires c =
    omega (
      arith,
      c.requires,
      c.put_byte-whole_at.ensures.counted,
      c.put_u16-width_at.ensures.counted,
      c.put_u16-height_at.ensures.counted,
      c.put_u16-total_at.ensures.counted,
    )

pub returns : goal.returns
unfolding u16_bytes
returns c =
    let pre = c.requires in
    let one = c.put_byte-whole_at.ensures in
    let two = appended-append one (omega (arith, pre, one.counted)) c.put_u16-width_at.ensures in
    let three = appended-append two (omega (arith, pre, two.counted)) c.put_u16-height_at.ensures in
    let four = appended-append three (omega (arith, pre, three.counted)) c.put_u16-total_at.ensures in
    appended-append four (omega (arith, pre, four.counted)) c.put_byte.ensures
