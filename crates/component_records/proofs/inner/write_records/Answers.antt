-- `write_records` meets its contract: a turn records a row, and behind the last row every component has its record.
-- Assumes nothing.
use Rattle.std.proofs.Common.{◌≡◌, arith}
use native.Mathlib.Nat.{mul_comm, suc-mul}
use native.Mathlib.Numerals.{add-one}
use Rattle.component_records.proofs.SeenLaws.{seen-le}
use Rattle.component_records.proofs.RecordedLaws.{recorded-all, kept_trans}
use Rattle.component_records.proofs.inner.write_records.Goals as goal

pub loop-y-preserved : goal.loop-y-preserved
loop-y-preserved c =
    let (before, kept) = c.loop-y.invariant in
    let row = c.record_row-seen.ensures in
    let upto =
    seen-le row.recorded.writable.maps.components before.recorded.components row.recorded.recorded.components
    (rw suc-mul (omega arith)) in
    (rw add-one row.recorded, kept_trans kept row.kept upto)

pub returns-clause-written : goal.returns-clause-written
returns-clause-written c =
    let last : c.loop-y.y ≡ c.args.height = omega arith in
    let (recording, kept) = rw (last, mul_comm c.args.height c.args.width) at c.loop-y.invariant in
    recorded-all c.requires.maps recording.recorded kept
