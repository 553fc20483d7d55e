-- The loop's invariant in `scan::scan_rows`: the first `y` rows are scanned. Assumes nothing.
use Rattle.std.proofs.Common.{ℕ, List, ◌*◌, ◌≤◌}
use Rattle.words.specs.Scan.{Seen, RowsScanned}
use Rattle.words.proofs.inner.scan.scan_rows.Given as goal

abbrev pub invariant-loop-y : goal.invariant-loop-y
invariant-loop-y l =
    (l.found.len ≤ l.y * l.width)
    × (l.found.blank ≤ l.y)
    × ((image : List ℕ) → Seen l.width l.height image l.entries l.words →
    RowsScanned l.width l.height image l.base l.y l.initial.queue l.queue l.found)
