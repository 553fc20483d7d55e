-- `operate` meets its contract: it is `morphology::operate`, with the start and the reply in numbers.
-- Assumes nothing.
use Rattle.exports.proofs.CountsLaws.{counts_reply-told}
use Rattle.exports.proofs.inner.operate.Goals as goal

pub returns : goal.returns
returns c =
    rw (c.put_counts.ensures.number, c.put_counts.ensures.counts, counts_reply-told, ← c.start_of.ensures)
    c.operate-reply.ensures
