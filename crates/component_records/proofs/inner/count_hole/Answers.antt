-- `count_hole` meets its contract: a store in a record is another record in its place. Assumes nothing.
use native.Mathlib.Omega.{arith}
use Rattle.component_records.proofs.RecordLaws.{get_or-record_at, set-enclosing}
use Rattle.component_records.proofs.inner.count_hole.Goals as goal

pub overflow_add-records-2 : goal.overflow_add-records-2
overflow_add-records-2 c =
    let a = c.args in
    let slot = c.requires.has_record in
    omega (arith, get_or-record_at a.p a.records.now slot.one slot.room 8 (omega arith))

pub returns : goal.returns
returns c =
    let slot = c.requires.has_record in
    set-enclosing _ _ slot.one slot.room
