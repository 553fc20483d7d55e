-- `copy_bytes` meets its contract: the first `at` entries are the bytes. Assumes nothing.
use Rattle.std.proofs.Common.{◌≡◌, ℕ, ◌<◌, get_or}
use Rattle.component_records.proofs.inner.map.copy_bytes.Given as goal

abbrev pub invariant-loop-at : goal.invariant-loop-at
invariant-loop-at l = (k : ℕ) → k < l.at → get_or l.labels k 0 ≡ get_or l.bytes k 0
