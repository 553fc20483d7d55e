-- `job_length` meets its contract by definition; the sum fits, since there are at most 32 steps and both sides are
-- within the limits. Assumes nothing.
use native.Mathlib.Omega.{arith}
use Rattle.model.specs.Codec.{job_length}
use Rattle.model.specs.Answers.{job_of}
use Rattle.theorems.proofs.LimitLaws.{packed_length-le}
use Rattle.job.proofs.WritingLaws.{length-records-small}
use Rattle.job.proofs.inner.write.job_length.Goals as goal

pub overflow_add-result : goal.overflow_add-result
overflow_add-result c = omega (arith, c.steps_length.ensures, length-records-small _ c.requires.few_steps)

pub overflow_mul-result : goal.overflow_mul-result
overflow_mul-result c =
    let valid = c.requires.valid_size in
    omega (arith, c.packed_length.ensures, packed_length-le valid.narrow valid.low)

pub overflow_add-result-2 : goal.overflow_add-result-2
overflow_add-result-2 c =
    let valid = c.requires.valid_size in
    omega (
      arith,
      c.steps_length.ensures,
      length-records-small _ c.requires.few_steps,
      c.packed_length.ensures,
      packed_length-le valid.narrow valid.low,
    )

pub returns : goal.returns
unfolding job_length job_of
returns c = rw (c.steps_length.ensures, c.packed_length.ensures)
