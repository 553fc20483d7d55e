-- `kind_length` meets its contract: the table is the definition's, and nothing stands behind its end.
-- Assumes nothing.
use mathlib.Core.Path.{sym}
use Rattle.model.specs.Codec.{kind_length}
use Rattle.job.proofs.ReadingLaws.{kind_length-out}
use Rattle.job.proofs.inner.steps.kind_length.Goals as goal

pub returns-then-kind-gt7 : goal.returns-then-kind-gt7
unfolding kind_length
returns-then-kind-gt7 c = sym (kind_length-out _ c.if-kind-gt7.true)

pub returns : goal.returns
unfolding kind_length
returns c = rw c.from.ensures
