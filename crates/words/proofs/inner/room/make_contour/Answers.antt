-- `room::make_contour` makes the rows into a frame with object beyond every side, and its contour. Assumes nothing.
use Rattle.neighbours.specs.Words.{word_bits}
use Rattle.neighbours.proofs.PackedLaws.{unpacked-binary}
use Rattle.words.proofs.RoomLaws.{room-steppable, room-loadable, framed-front}
use Rattle.words.proofs.inner.room.make_contour.Goals as goal

pub load-requires : goal.load-requires
load-requires c = room-loadable c.contour_frame-frame.ensures _ c.words_length-n.ensures c.requires.in_room

pub contour_words-requires : goal.contour_words-requires
contour_words-requires c = room-steppable c.requires.in_room c.load.auto.entries c.contour_frame-frame.ensures

pub returns : goal.returns
returns c =
    let of = c.contour_frame-frame.ensures in
    let framed = framed-front of _ c.words_length-n.ensures c.args.rows.now c.load.ensures in
    record { contour = c.contour_words.ensures _ _ _ of (unpacked-binary word_bits _ _ _) framed; framed = framed }
