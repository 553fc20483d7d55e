-- `flag_strip` meets its contract. The loop's invariant: the roots of the strip's first `i` pixels are flagged,
-- where they are background, and every position has kept its root. Assumes nothing.
use Prim.Native.Nat.{◌+◌, ◌*◌}
use Rattle.lists.specs.Lists.{tabulate}
use Rattle.union_find.proofs.RootFlagLaws.{ListFlagged}
use Rattle.union_find.proofs.inner.outside.flag_strip.Given as goal

abbrev pub invariant-loop-i : goal.invariant-loop-i
invariant-loop-i l =
    ListFlagged (l.width * l.height) l.image l.initial.queue
    (tabulate l.i (λ i. l.fn.strip.from + i * l.fn.strip.step)) l.initial.flags l.queue l.flags
