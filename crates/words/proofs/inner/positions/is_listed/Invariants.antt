-- The loop's invariant in `is_listed`: the ones of the first `y` rows stand at the queue's front. Assumes nothing.
use Rattle.std.proofs.Common.{◌≤◌}
use Rattle.neighbours.specs.Crop.{Extended}
use Rattle.words.specs.Positions.{ones_above}
use Rattle.words.proofs.inner.positions.is_listed.Given as goal

abbrev pub invariant-loop-y : goal.invariant-loop-y
invariant-loop-y l = Extended l.queue 0 (ones_above l.width l.height l.words l.y) l.queue l.len × (l.len ≤ l.n)
