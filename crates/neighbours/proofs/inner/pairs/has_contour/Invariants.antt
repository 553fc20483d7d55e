-- What the loop of `has_contour` keeps: no two pixels side by side in a row above row `y` are a pair.
use mathlib.Core.Path.{◌≡◌}
use mathlib.Core.Bool.{false}
use Rattle.lists.specs.Lists.{any, range}
use Rattle.neighbours.proofs.PairLaws.{row_has_pair}
use Rattle.neighbours.proofs.inner.pairs.has_contour.Given as goal

abbrev pub invariant-loop-y : goal.invariant-loop-y
invariant-loop-y l = any (row_has_pair l.width l.image) (range l.y) ≡ false
