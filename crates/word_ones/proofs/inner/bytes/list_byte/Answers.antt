-- `list_byte` meets its contract: the offsets in the byte's entry, moved on, are written, and as many count as there
-- are ones. Assumes nothing.
use Rattle.word_ones.proofs.TableLaws.{entry-low, entry-high, entry-count, byte-listed}
use Rattle.word_ones.proofs.inner.bytes.list_byte.Goals as goal

pub returns : goal.returns
returns c =
    let byte = c.args.byte in
    let small = c.ranges.byte.fits in
    let entry = c.entry_of-entry.ensures in
    byte-listed byte _ small c.requires.at_bound _ _ _ (entry-low byte small _ entry) (entry-high byte small _ entry)
    (entry-count byte small _ entry) c.requires.len_in_bounds c.put_four.ensures c.put_four-2.ensures
