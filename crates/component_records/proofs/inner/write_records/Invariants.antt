-- `write_records` meets its contract: the pixels of the first `y` rows are recorded. Assumes nothing.
use Rattle.std.proofs.Common.{◌*◌}
use Rattle.component_records.specs.Records.{counted, Recording, Kept}
use Rattle.component_records.proofs.inner.write_records.Given as goal

abbrev pub invariant-loop-y : goal.invariant-loop-y
invariant-loop-y l =
    Recording l.width l.height (counted l.components) (counted l.holes) (l.y * l.width) (l.y * l.width) l.seen l.queue
    l.records
    × Kept l.seen.components l.initial.records l.records
