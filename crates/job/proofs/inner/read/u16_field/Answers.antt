-- `u16_field` meets its contract: two bytes make the number, the high one first. Assumes nothing.
use native.Mathlib.Omega.{arith}
use Rattle.model.specs.Codec.{u16_at}
use Rattle.job.proofs.inner.read.u16_field.Goals as goal

pub returns : goal.returns
unfolding u16_at
returns c = omega (arith, c.from_be_bytes.ensures)
