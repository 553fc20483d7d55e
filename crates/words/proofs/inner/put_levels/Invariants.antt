-- `put_levels` meets its contract. The loop's invariant: the first `i` levels are written. Assumes nothing.
use Prim.Native.Nat.{◌+◌}
use lib.ListN.{get_or}
use Rattle.neighbours.specs.Words.{Upright}
use Rattle.words.specs.Frame.{Written}
use Rattle.words.proofs.inner.put_levels.Given as goal

abbrev pub invariant-loop-i : goal.invariant-loop-i
invariant-loop-i l =
    Written (λ j w. Upright (get_or l.entries j 0) (get_or l.entries (j + 1) 0)
    (get_or l.entries (j + 2) 0) l.four w) 1 1 l.i l.initial.levels l.levels
