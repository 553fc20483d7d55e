-- `put_fields` meets its contract: the numbers before the one in hand are written, each in at most 21 bytes. Assumes
-- nothing.
use mathlib.Core.List.{◌∷◌, flat_map}
use Rattle.std.proofs.Common.{◌+◌, ◌*◌, ◌≤◌, take}
use Rattle.neighbours.specs.Crop.{Appended}
use Rattle.model.specs.Listing.{decimal}
use Rattle.lines.proofs.inner.put_fields.Given as goal

abbrev pub invariant-loop-field : goal.invariant-loop-field
invariant-loop-field l =
    Appended l.initial.buffer l.at (flat_map (λ n. 32 ∷ decimal n) (take l.field-index l.fields)) l.buffer l.end
    × (l.end ≤ l.at + 21 * l.field-index)
