-- `step_length` meets its contract: the length byte tells the bytes behind it. Assumes nothing.
use mathlib.Core.Path.{sym}
use Rattle.theorems.proofs.LimitLaws.{length-step_bytes}
use Rattle.job.proofs.inner.write.step_length.Goals as goal

pub returns : goal.returns
returns c = rw (c.from.ensures, c.kind_length.ensures, c.kind_of.ensures) (sym (length-step_bytes _))
