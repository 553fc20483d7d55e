-- The loop's invariant in `list_positions`: the ones of the first `y` rows are listed. Assumes nothing.
use Rattle.neighbours.specs.Crop.{Extended}
use Rattle.words.specs.Positions.{ones_above}
use Rattle.words.proofs.inner.positions.list_positions.Given as goal

abbrev pub invariant-loop-y : goal.invariant-loop-y
invariant-loop-y l = Extended l.initial.queue 0 (ones_above l.width l.height l.words l.y) l.queue l.len
