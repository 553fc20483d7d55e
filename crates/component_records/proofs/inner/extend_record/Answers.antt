-- `extend_record` meets its contract: its four stores, two of them by what stood there, are the record with
-- more columns. Assumes nothing.
use native.Mathlib.Omega.{arith}
use Rattle.component_records.proofs.RecordLaws.{get_or-record_at, sets-extended}
use Rattle.component_records.proofs.inner.extend_record.Goals as goal

pub overflow_add-records-2 : goal.overflow_add-records-2
overflow_add-records-2 c =
    let a = c.args in
    let slot = c.requires.takes_in.slot in
    omega (arith, get_or-record_at a.p a.records.now slot.one slot.room 3 (omega arith))

pub returns : goal.returns
returns c =
    let slot = c.requires.takes_in.slot in
    sets-extended _ _ slot.one slot.room _ _ _ _ _ c.min.ensures c.max.ensures
