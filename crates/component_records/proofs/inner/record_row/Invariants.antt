-- `record_row` meets its contract: the row's first `x` pixels are recorded. Assumes nothing.
use Rattle.std.proofs.Common.{◌-◌, ◌≤◌}
use Rattle.neighbours.specs.Grid.{position}
use Rattle.component_records.specs.Records.{counted, Recording, Kept}
use Rattle.component_records.proofs.inner.record_row.Given as goal

abbrev pub invariant-loop-x : goal.invariant-loop-x
invariant-loop-x l =
    (l.x ≤ l.width)
    × Recording l.width l.height (counted l.components) (counted l.holes) (position l.width l.x l.y)
    (position l.width l.x l.y) l.now l.queue l.records
    × Kept l.now.components l.initial.records l.records

abbrev pub decreases-loop-x : goal.decreases-loop-x
decreases-loop-x l = l.width - l.x
