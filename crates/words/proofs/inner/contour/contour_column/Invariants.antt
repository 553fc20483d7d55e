-- `contour::contour_column` meets its contract. The loop's invariant: the first `y` words are written. Assumes
-- nothing.
use Prim.Native.Nat.{◌+◌}
use Rattle.words.specs.Frame.{Written}
use Rattle.words.specs.Positions.{ContourAt}
use Rattle.words.proofs.inner.contour.contour_column.Given as goal

abbrev pub invariant-loop-y : goal.invariant-loop-y
invariant-loop-y l =
    Written (ContourAt l.entries l.from l.apart l.keep) (l.from + l.apart) 1 l.y l.initial.contour l.contour
