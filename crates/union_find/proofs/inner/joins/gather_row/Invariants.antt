-- `gather_row` meets its contract. The loop's invariant: the flagged columns below `x` are listed.
-- Assumes nothing.
use Prim.Native.Nat.{◌-◌, ◌≤◌}
use Rattle.union_find.proofs.GatherLaws.{ListedTo}
use Rattle.union_find.proofs.inner.joins.gather_row.Given as goal

abbrev pub invariant-loop-x : goal.invariant-loop-x
invariant-loop-x l =
    (l.x - 1 ≤ l.width - 1) × ListedTo l.x l.flags l.start l.initial.found l.found l.count
