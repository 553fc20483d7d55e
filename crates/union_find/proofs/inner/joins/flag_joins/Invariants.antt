-- `flag_joins`: the flags below `at` are written.
use Prim.Native.Nat.{ℕ, ◌<◌}
use mathlib.Core.Path.{◌≡◌}
use lib.ListN.{length, get_or}
use Rattle.lists.specs.Lists.{bit}
use Rattle.union_find.specs.Regions.{needs_join}
use Rattle.union_find.proofs.inner.joins.flag_joins.Given as goal

abbrev pub invariant-loop-at : goal.invariant-loop-at
invariant-loop-at l =
    (length l.flags ≡ length l.initial.flags)
    × ((k : ℕ) → l.width < k → k < l.at → get_or l.flags k 0 ≡ bit (needs_join l.width l.image k))
