-- `put_reports` meets its contract: the numbers of the first `k` reports stand at the front. Assumes nothing.
use Prim.Native.Nat.{◌*◌}
use lib.ListN.{take}
use Rattle.neighbours.specs.Crop.{Appended}
use Rattle.exports.specs.Numbers.{numbers_of}
use Rattle.exports.proofs.inner.put_reports.Given as goal

abbrev pub invariant-loop-k : goal.invariant-loop-k
invariant-loop-k l = Appended l.initial.reports 0 (numbers_of (take l.k l.from)) l.reports (3 * l.k)
