-- `put_scan_reply` meets its contract: the two numbers are those of `put_counts`. Assumes nothing.
use Rattle.exports.proofs.CountsLaws.{scanned-told}
use Rattle.exports.proofs.inner.put_scan_reply.Goals as goal

pub returns : goal.returns
returns c =
    rw (c.put_counts-number.ensures.number, c.put_counts-number.ensures.counts) (scanned-told c.args.reply)
