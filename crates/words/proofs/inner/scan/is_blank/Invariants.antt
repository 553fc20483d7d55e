-- The loop's invariant in `scan::is_blank`: what is seen is 0 exactly if the row's first `k` words have no object
-- pixel. Assumes nothing.
use Rattle.std.proofs.Common.{◌≡◌, ◌↔◌}
use Rattle.words.proofs.ScanLaws.{ClearRow}
use Rattle.words.proofs.inner.scan.is_blank.Given as goal

abbrev pub invariant-loop-k : goal.invariant-loop-k
invariant-loop-k l = (l.seen ≡ 0) ↔ ClearRow l.frame l.entries l.y l.k
