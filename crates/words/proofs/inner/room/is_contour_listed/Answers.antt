-- `room::is_contour_listed` holds the front of the queue against the words of the contour, and puts the rows back from
-- their frame. Assumes nothing.
use Rattle.neighbours.specs.Contour.{contour}
use Rattle.neighbours.specs.Words.{word_bits}
use Rattle.neighbours.proofs.PackedLaws.{unpacked-binary}
use Rattle.words.proofs.inner.room.is_contour_listed.Goals as goal

pub returns-clause-answer : goal.returns-clause-answer
unfolding contour
returns-clause-answer c = c.is_listed-is_listed.ensures _ c.make_contour.ensures.contour

pub returns-clause-kept : goal.returns-clause-kept
returns-clause-kept c = c.put_rows.ensures _ (unpacked-binary word_bits _ _ _) c.make_contour.ensures.framed
