-- `room::list_pixels` lists the positions that the frame of the rows says. Assumes nothing.
use Rattle.std.proofs.Common.{eqb, get_or, refl, sym, ◌∙◌}
use Rattle.neighbours.specs.Grid.{has_side}
use Rattle.model.specs.Words.{unpacked_words}
use Rattle.words.specs.Room.{front_rows}
use Rattle.words.proofs.RoomLaws.{room-loadable, front-object, listable-words}
use Rattle.words.proofs.inner.room.list_pixels.Goals as goal

pub load-requires : goal.load-requires
load-requires c = room-loadable c.frame_of-frame.ensures _ c.words_length-n.ensures c.requires.held_rows.in_room

pub list_positions-requires-clause-listable : goal.list_positions-requires-clause-listable
unfolding has_side
list_positions-requires-clause-listable c =
    let a = c.args in
    let room = c.requires.held_rows.in_room in
    let image = unpacked_words a.width a.height (front_rows a.width a.height a.rows.now) in
    listable-words (λ i. eqb (get_or image i 0) 1) room (c.load.auto.entries ∙ sym room.size)
    (front-object c.frame_of-frame.ensures refl _ c.words_length-n.ensures a.rows.now c.load.ensures)

pub returns : goal.returns
unfolding has_side
returns c =
    c.list_positions.ensures _
    (front-object c.frame_of-frame.ensures refl _ c.words_length-n.ensures c.args.rows.now c.load.ensures)
