-- `step_at` meets its contract: the record has the bytes of its kind, and the arms are the definition's.
-- Assumes nothing.
use mathlib.Core.Path.{refl, sym}
use native.Mathlib.Omega.{arith}
use borrow.Author.Rules.{rules}
use Rattle.model.specs.Codec.{kind_length, step_at}
use Rattle.job.proofs.ReadingLaws.{record-kind, record-two, step_at-rest}
use Rattle.job.proofs.inner.read.step_at.Goals as goal

pub bounds-bytes-2 : goal.bounds-bytes-2
bounds-bytes-2 c = record-two _ c.requires

pub bounds-bytes-1 : goal.bounds-bytes-1
bounds-bytes-1 c = omega (arith, record-two _ c.requires)

pub bounds-bytes-3 : goal.bounds-bytes-3
unfolding kind_length
bounds-bytes-3 c = omega (arith, record-kind _ c.requires 1 c.in-1.is)

pub u16_field-requires : goal.u16_field-requires
unfolding kind_length
u16_field-requires c = omega (arith, record-kind _ c.requires 1 c.in-1.is)

pub u16_field-requires-in-2 : goal.u16_field-requires-in-2
unfolding kind_length
u16_field-requires-in-2 c = omega (arith, record-kind _ c.requires 2 c.in-2.is)

pub u16_field-requires-in-3 : goal.u16_field-requires-in-3
unfolding kind_length
u16_field-requires-in-3 c = omega (arith, record-kind _ c.requires 3 c.in-3.is)

pub u16_field-requires-in-4 : goal.u16_field-requires-in-4
unfolding kind_length
u16_field-requires-in-4 c = omega (arith, record-kind _ c.requires 4 c.in-4.is)

pub u16_field-requires-in-4-2 : goal.u16_field-requires-in-4-2
unfolding kind_length
u16_field-requires-in-4-2 c = omega (arith, record-kind _ c.requires 4 c.in-4.is)

pub bounds-bytes-3-in-7 : goal.bounds-bytes-3-in-7
unfolding kind_length
bounds-bytes-3-in-7 c = omega (arith, record-kind _ c.requires 7 c.in-7.is)

pub u16_field-requires-in-7 : goal.u16_field-requires-in-7
unfolding kind_length
u16_field-requires-in-7 c = omega (arith, record-kind _ c.requires 7 c.in-7.is)

pub returns-in-1 : goal.returns-in-1
unfolding step_at
returns-in-1 c = rw (c.u16_field.ensures, c.in-1.is, step_at)

pub returns-in-2 : goal.returns-in-2
unfolding step_at
returns-in-2 c = rw (c.u16_field-in-2.ensures, c.in-2.is, step_at)

pub returns-in-3 : goal.returns-in-3
unfolding step_at
returns-in-3 c = rw (c.u16_field-in-3.ensures, c.in-3.is, step_at)

pub returns-in-4 : goal.returns-in-4
unfolding step_at
returns-in-4 c = rw (c.u16_field-in-4.ensures, c.u16_field-in-4-2.ensures, c.in-4.is, step_at)

pub returns-in-7 : goal.returns-in-7
unfolding step_at
returns-in-7 c = rw (c.u16_field-in-7.ensures, c.in-7.is, step_at)

pub returns-in_default : goal.returns-in_default
returns-in_default c =
    sym (step_at-rest _ _ refl (search rules) (search rules) (search rules) (search rules) (search rules))
