-- `write` meets its contract: the head, the records and the two packed images are written one behind the other, and
-- end with the buffer. Assumes nothing.
use native.Mathlib.Omega.{arith}
use Rattle.neighbours.proofs.PackedLaws.{length-packed}
use Rattle.model.specs.Codec.{u16_bytes, byte_bits}
use Rattle.model.specs.Answers.{job_of}
use Rattle.theorems.proofs.CodecLaws.{write_refusal-none}
use Rattle.theorems.proofs.LimitLaws.{job_length-le}
use Rattle.job.proofs.WritingLaws.{length-buffer, job_bytes-pieces}
use Rattle.job.proofs.inner.write.write.Goals as goal

pub put_head-steps_at-requires : goal.put_head-steps_at-requires
unfolding job_of
put_head-steps_at-requires c =
    let writable = write_refusal-none _ _ c.requires in
    record {
      valid = writable.valid;
      few = writable.few;
      room = omega (arith, length-buffer _ _ _ _ _ _ c.requires);
      whole = omega (arith, writable.size, job_length-le _ _ c.requires);
    }

pub put_steps-image_at-requires : goal.put_steps-image_at-requires
unfolding u16_bytes
put_steps-image_at-requires c =
    omega (arith, c.put_head-steps_at.ensures.counted, length-buffer _ _ _ _ _ _ c.requires)

pub pack-mask_at-requires-clause-packable : goal.pack-mask_at-requires-clause-packable
unfolding job_of
pack-mask_at-requires-clause-packable c =
    let writable = write_refusal-none _ _ c.requires in record { valid = writable.valid; binary = writable.image }

pub pack-mask_at-requires-clause-height_in_bounds : goal.pack-mask_at-requires-clause-height_in_bounds
unfolding u16_bytes
pack-mask_at-requires-clause-height_in_bounds c =
    omega (
      arith,
      c.put_head-steps_at.ensures.counted,
      c.put_steps-image_at.ensures.counted,
      length-buffer _ _ _ _ _ _ c.requires,
    )

pub pack-requires-clause-packable : goal.pack-requires-clause-packable
unfolding job_of
pack-requires-clause-packable c =
    let writable = write_refusal-none _ _ c.requires in record { valid = writable.valid; binary = writable.mask }

pub pack-requires-clause-height_in_bounds : goal.pack-requires-clause-height_in_bounds
unfolding u16_bytes
pack-requires-clause-height_in_bounds c =
    omega (
      arith,
      c.put_head-steps_at.ensures.counted,
      c.put_steps-image_at.ensures.counted,
      c.pack-mask_at.ensures.counted,
      length-packed byte_bits c.args.width c.args.height c.args.image.now,
      length-buffer _ _ _ _ _ _ c.requires,
    )

pub returns : goal.returns
returns c =
    job_bytes-pieces _ _ _ _ _ _ c.requires c.put_head-steps_at.ensures c.put_steps-image_at.ensures
    c.pack-mask_at.ensures c.pack.ensures
