-- `flag_outside` meets its contract. The loop's invariant: the border's first `k` strips are flagged. Assumes nothing.
use Prim.Native.Nat.{◌*◌}
use Rattle.neighbours.specs.Border.{first_strips, border_strip}
use Rattle.union_find.proofs.RootFlagLaws.{ListFlagged}
use Rattle.union_find.proofs.inner.outside.flag_outside.Given as goal

abbrev pub invariant-loop-k : goal.invariant-loop-k
invariant-loop-k l =
    ListFlagged (l.width * l.height) l.image l.initial.queue
    (first_strips (border_strip l.width l.height) l.k) l.initial.flags l.queue l.flags
