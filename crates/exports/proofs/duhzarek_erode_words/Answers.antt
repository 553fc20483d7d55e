-- `duhzarek_erode_words` meets its contract: it is `words::erode_words`, with the reply as numbers.
-- Assumes nothing.
use Rattle.exports.proofs.CountsLaws.{counts_answer-told}
use Rattle.exports.proofs.duhzarek_erode_words.Goals as goal

pub returns : goal.returns
returns c =
    rw (c.put_counts.ensures.number, c.put_counts.ensures.counts, counts_answer-told)
    c.erode_words-reply.ensures
