-- `duhzarek_scan_image` meets its contract: it is `morphology::scan_image`, with the reply in numbers.
-- Assumes nothing.
use Rattle.exports.proofs.duhzarek_scan_image.Goals as goal

pub returns : goal.returns
returns c = rw c.put_scan_reply.ensures c.scan_image-reply.ensures
