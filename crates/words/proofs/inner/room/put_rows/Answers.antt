-- `room::put_rows` writes the rows of the frame to the buffer's front. Assumes nothing.
use Rattle.std.proofs.Common.{arith}
use Rattle.std.proofs.lemmas.Grind.{common_steps}
use Rattle.words.proofs.RoomLaws.{rows_inside, room-loadable, front-stored}
use Rattle.words.proofs.inner.room.put_rows.Goals as goal

pub slice_bounds-store-end : goal.slice_bounds-store-end
slice_bounds-store-end c = omega (arith, rows_inside c.requires)

pub slice_bounds-store-end-2 : goal.slice_bounds-store-end-2
slice_bounds-store-end-2 c = grind (arith, common_steps, rows_inside c.requires)

pub store-requires : goal.store-requires
store-requires c = room-loadable c.contour_frame-frame.ensures _ c.words_length-len.ensures c.requires

pub returns : goal.returns
returns c image binary framed =
    front-stored _ _ c.contour_frame-frame.ensures c.words_length-len.ensures c.requires binary framed
    c.store.ensures (λ k. omega (arith, c.type_inv.rows k))
