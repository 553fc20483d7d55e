-- In `read_hex` there are no more digits than bytes of the line.
use Rattle.std.proofs.Common.{◌≤◌}
use Rattle.jobs.proofs.read_hex.Given as goal

abbrev pub invariant-loop-byte : goal.invariant-loop-byte
invariant-loop-byte l = l.digits ≤ l.byte-index
