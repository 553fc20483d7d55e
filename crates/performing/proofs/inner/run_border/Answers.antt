-- `run_border` meets its contract: the border cleared, and the contour found by a scan. Assumes nothing.
use native.Mathlib.Omega.{arith}
use Rattle.neighbours.proofs.PositionLaws.{size-le}
use Rattle.theorems.proofs.OperationLaws.{changed-le}
use Rattle.performing.proofs.BorderLaws.{border-scan, border-operated}
use Rattle.performing.proofs.inner.run_border.Goals as goal

pub scan_only-scan-requires-clause-workable : goal.scan_only-scan-requires-clause-workable
scan_only-scan-requires-clause-workable c =
    let w = c.requires.workable in
    let cleared = c.clear_border-cleared in
    record { ready = border-scan _ w.ready cleared.ensures.pictured cleared.auto.queue; in_room = w.in_room }

pub overflow_cast-result : goal.overflow_cast-result
overflow_cast-result c =
    let a = c.args in
    omega (
      arith,
      changed-le a.width a.height a.image.now c.clear_border-cleared.new.image,
      size-le c.requires.workable.ready.valid,
    )

pub returns : goal.returns
returns c =
    let cleared = c.clear_border-cleared in
    border-operated _ c.requires.workable.ready cleared.ensures.pictured cleared.ensures.counted c.count_used.ensures
    cleared.auto.queue c.scan_only-scan.ensures
