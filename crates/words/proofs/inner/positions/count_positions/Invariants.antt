-- The loop's invariant in `count_positions`: the ones of the first `y` rows are counted. Assumes nothing.
use Rattle.std.proofs.Common.{◌≡◌, length}
use Rattle.words.specs.Positions.{ones_above}
use Rattle.words.proofs.inner.positions.count_positions.Given as goal

abbrev pub invariant-loop-y : goal.invariant-loop-y
invariant-loop-y l = l.count ≡ length (ones_above l.width l.height l.words l.y)
