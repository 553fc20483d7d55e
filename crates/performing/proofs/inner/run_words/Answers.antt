-- `run_words` meets its contract: an operation without iterations hands on the contour; any other goes from rows to
-- rows, and these are handed on. Assumes nothing.
use mathlib.Core.Path.{sym, ◌∙◌}
use Rattle.words.proofs.RoomLaws.{rows_inside}
use Rattle.performing.proofs.IdleLaws.{idle-operated}
use Rattle.performing.proofs.StartLaws.{operated-queue}
use Rattle.performing.proofs.OnWordsLaws.{held-front, held-operated, operated-words}
use Rattle.performing.proofs.inner.run_words.Goals as goal

pub returns-then-is_idle : goal.returns-then-is_idle
returns-then-is_idle c =
    idle-operated _ (sym c.is_idle.ensures ∙ c.if-is_idle.true) c.requires.call.accepted.ready c.run_idle.ensures

pub hold_rows-requires-clause-height_in_bounds : goal.hold_rows-requires-clause-height_in_bounds
hold_rows-requires-clause-height_in_bounds c = rows_inside c.requires.call.in_room

pub operate_rows-done-requires : goal.operate_rows-done-requires
operate_rows-done-requires c =
    let call = c.requires.call in
    let accepted = call.accepted in
    let ready = accepted.ready in
    record {
      held = held-front ready.valid ready.binary _ c.hold_rows.ensures call.in_room c.hold_rows.auto.rows;
      sized = ready.binary.pixels;
      room = ready.room;
      passes = accepted.passes;
      masked = accepted.masked;
    }

pub hand_on-contour_len-requires-clause-held_rows : goal.hand_on-contour_len-requires-clause-held_rows
hand_on-contour_len-requires-clause-held_rows c =
    let done = c.operate_rows-done in
    held-operated _ c.requires.call.in_room done.ensures (done.auto.rows ∙ c.hold_rows.auto.rows) done.auto.entries

pub returns : goal.returns
returns c =
    let ready = c.requires.call.accepted.ready in
    let done = c.operate_rows-done in
    rw c.report.ensures
    (operated-queue done.auto.queue
    (operated-words _ _ ready.valid ready.binary c.hold_rows.ensures done.ensures c.hand_on-contour_len.ensures))
