-- `duhzarek_label_image` meets its contract: it is `labelling::label_image`, with the reply in numbers.
-- Assumes nothing.
use Rattle.exports.proofs.CountsLaws.{label_counts_reply-told}
use Rattle.exports.proofs.duhzarek_label_image.Goals as goal

pub returns : goal.returns
returns c =
    rw (c.put_counts.ensures.number, c.put_counts.ensures.counts, label_counts_reply-told)
    c.label_image-reply.ensures
