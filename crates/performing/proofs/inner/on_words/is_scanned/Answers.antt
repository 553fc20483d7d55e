-- `on_words::is_scanned` meets its contract: the queue's front held against the contour of the packed image. Assumes
-- nothing.
use Rattle.words.proofs.RoomLaws.{rows_inside}
use Rattle.words.proofs.OperatedLaws.{unpacked-clean}
use Rattle.performing.proofs.OnWordsLaws.{held-front}
use Rattle.performing.proofs.inner.on_words.is_scanned.Goals as goal

pub pack-requires-clause-height_in_bounds : goal.pack-requires-clause-height_in_bounds
pack-requires-clause-height_in_bounds c = rows_inside c.requires.workable.in_room

pub is_contour_listed-requires-clause-held_rows : goal.is_contour_listed-requires-clause-held_rows
is_contour_listed-requires-clause-held_rows c =
    let w = c.requires.workable in
    held-front w.ready.valid w.ready.binary _ c.pack.ensures w.in_room c.pack.auto.rows

pub returns-clause-answer : goal.returns-clause-answer
returns-clause-answer c =
    let ready = c.requires.workable.ready in
    rw (unpacked-clean ready.valid ready.binary c.pack.ensures) at c.is_contour_listed.ensures.answer

pub returns-clause-packed : goal.returns-clause-packed
returns-clause-packed c =
    let ready = c.requires.workable.ready in
    rw (unpacked-clean ready.valid ready.binary c.pack.ensures) at c.is_contour_listed.ensures.kept
