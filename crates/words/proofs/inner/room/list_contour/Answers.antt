-- What the scan in `room::list_contour` requires: the rows' frame, beside the words of the contour. Assumes nothing.
use Rattle.neighbours.specs.Contour.{on_contour}
use Rattle.model.specs.Words.{unpacked_words}
use Rattle.words.specs.Room.{front_rows}
use Rattle.words.proofs.RoomLaws.{room-same, room-frame, listable-words}
use Rattle.words.proofs.inner.room.list_contour.Goals as goal

pub scan_rows-requires : goal.scan_rows-requires
scan_rows-requires c =
    let a = c.args in
    let made = c.make_contour in
    let room = c.requires.held_rows.in_room in
    let of = c.contour_frame-frame.ensures in
    let image = unpacked_words a.width a.height (front_rows a.width a.height a.rows.now) in
    record {
      of = of;
      room = room-frame (room-same {rows' = made.new.rows} room made.auto.rows made.auto.entries) of;
      listable = listable-words (on_contour a.width a.height image) room made.auto.rows made.ensures.contour;
      place = c.requires.placeable;
    }
