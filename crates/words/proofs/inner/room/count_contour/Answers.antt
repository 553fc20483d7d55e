-- `room::count_contour` counts the words of the contour, and puts the rows back from their frame. Assumes nothing.
use Rattle.neighbours.specs.Contour.{contour}
use Rattle.neighbours.specs.Words.{word_bits}
use Rattle.neighbours.proofs.PackedLaws.{unpacked-binary}
use Rattle.words.proofs.inner.room.count_contour.Goals as goal

pub returns-clause-count : goal.returns-clause-count
unfolding contour
returns-clause-count c = c.count_positions-len.ensures.counted _ c.make_contour.ensures.contour

pub returns-clause-kept : goal.returns-clause-kept
returns-clause-kept c = c.put_rows.ensures _ (unpacked-binary word_bits _ _ _) c.make_contour.ensures.framed
