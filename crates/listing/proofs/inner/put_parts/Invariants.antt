-- `put_parts` meets its contract: behind the line of the counts stand the lines of the components below `p`, and there
-- is room for the others. Assumes nothing.
use Prim.Native.Nat.{◌+◌, ◌-◌, ◌*◌, ◌≤◌}
use mathlib.Core.List.{flat_map}
use lib.ListN.{length}
use Rattle.lists.specs.Lists.{count_from}
use Rattle.neighbours.specs.Crop.{Appended}
use Rattle.model.specs.Limits.{line_room}
use Rattle.model.specs.Listing.{part_line}
use Rattle.listing.proofs.inner.put_parts.Given as goal

abbrev pub invariant-loop-p : goal.invariant-loop-p
invariant-loop-p l =
    (l.p ≤ l.p-end + 1)
    × Appended l.initial.listing l.initial.end (flat_map (part_line l.records) (count_from 1 (l.p - 1))) l.listing l.end
    × (l.end + line_room * (l.p-end + 1 - l.p) ≤ length l.initial.listing)
