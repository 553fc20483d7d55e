-- `room::run_rows` makes a frame of the rows at the front, steps it and writes it back there. Assumes nothing.
use Rattle.std.proofs.Common.{◌∙◌, arith}
use Rattle.std.proofs.lemmas.Grind.{common_steps}
use Rattle.words.proofs.RoomLaws.{rows_inside, room-same, room-steppable, room-loadable, room-ran}
use Rattle.words.proofs.inner.room.run_rows.Goals as goal

pub slice_bounds-load-end : goal.slice_bounds-load-end
slice_bounds-load-end c = omega (arith, rows_inside c.requires)

pub slice_bounds-load-end-2 : goal.slice_bounds-load-end-2
slice_bounds-load-end-2 c = grind (arith, common_steps, rows_inside c.requires)

pub load-requires : goal.load-requires
load-requires c = room-loadable c.frame_of-frame.ensures _ c.words_length-n.ensures c.requires

pub iterate-used-requires : goal.iterate-used-requires
iterate-used-requires c = room-steppable c.requires c.load.auto.entries c.frame_of-frame.ensures

pub slice_bounds-store-end : goal.slice_bounds-store-end
slice_bounds-store-end c = omega (arith, rows_inside c.requires)

pub slice_bounds-store-end-2 : goal.slice_bounds-store-end-2
slice_bounds-store-end-2 c = grind (arith, common_steps, rows_inside c.requires)

pub store-requires : goal.store-requires
store-requires c =
    room-loadable c.frame_of-frame.ensures _ c.words_length-n.ensures
    (room-same c.requires c.iterate-used.auto.levels (c.iterate-used.auto.entries ∙ c.load.auto.entries))

pub returns : goal.returns
returns c =
    room-ran c.frame_of-frame.ensures _ c.words_length-n.ensures c.requires _ _ c.iterate-used.auto.levels
    c.load.ensures (rw c.from.ensures at c.iterate-used.ensures) c.store.ensures
    (λ k. omega (arith, c.type_inv.rows k))
