-- `put_group` meets its contract: the bits of a byte of the word are spread, and the bytes are written. Assumes
-- nothing.
use Rattle.packing.proofs.GroupLaws.{bytes-group}
use Rattle.packing.proofs.inner.words.put_group.Goals as goal

pub returns : goal.returns
returns c =
    let a = c.args in
    let pixels = bytes-group a.word a.from c.spread_bits.result c.requires.from_bound c.spread_bits.ensures in
    rw pixels at c.put_bytes.ensures
