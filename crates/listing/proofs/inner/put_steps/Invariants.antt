-- `put_steps` meets its contract: the lines of the first `k` steps are written, in at most `line_room` bytes each.
-- Assumes nothing.
use Prim.Native.Nat.{◌+◌, ◌*◌, ◌≤◌}
use mathlib.Core.List.{map}
use lib.ListN.{take}
use Rattle.neighbours.specs.Crop.{Appended}
use Rattle.model.specs.Limits.{line_room}
use Rattle.model.specs.Listing.{step_lines}
use Rattle.model.specs.Answers.{report_reply}
use Rattle.listing.proofs.inner.put_steps.Given as goal

abbrev pub invariant-loop-k : goal.invariant-loop-k
invariant-loop-k l =
    Appended l.initial.listing l.at (step_lines 1 (take l.k l.steps) (map report_reply (take l.k l.reports))) l.listing
    l.end
    × (l.end ≤ l.at + line_room * l.k)
