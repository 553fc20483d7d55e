-- `scan::scan_rows` scans one row more, and all. Assumes nothing.
use Rattle.std.proofs.Common.{◌≡◌, arith}
use Rattle.words.proofs.ColumnLaws.{mul_next}
use Rattle.words.proofs.ScanLaws.{rows_scanned-none, rows_scanned-more, rows_scanned-all}
use Rattle.words.proofs.inner.scan.scan_rows.Goals as goal

pub loop-y-init : goal.loop-y-init
loop-y-init c = (omega arith, omega arith, λ image seen. rows_scanned-none _ _)

pub loop-y-preserved : goal.loop-y-preserved
loop-y-preserved c =
    let before = c.loop-y.invariant in
    let row = c.scan_row-found.ensures in (
      omega (arith, before.0, mul_next c.args.width c.loop-y.y),
      omega (arith, before.1),
      λ image seen. rows_scanned-more _ (before.2 image seen) (row.scanned image seen),
    )

pub returns-clause-listed : goal.returns-clause-listed
returns-clause-listed c image seen =
    let all : c.loop-y.y ≡ c.args.height = omega arith in
    (rows_scanned-all _ (rw all at (c.loop-y.invariant.2 image seen))).0

pub returns-clause-counted : goal.returns-clause-counted
returns-clause-counted c image seen =
    let all : c.loop-y.y ≡ c.args.height = omega arith in
    (rows_scanned-all _ (rw all at (c.loop-y.invariant.2 image seen))).1
