-- `shared_area` meets its contract. The loop's invariant: the shared pixels of the words so far are counted.
-- Assumes nothing.
use Prim.Native.Nat.{◌*◌, ◌≤◌}
use mathlib.Core.Path.{◌≡◌}
use lib.ListN.{length}
use Rattle.words.specs.Frame.{ones_sum}
use Rattle.propagation.proofs.BeginLaws.{shared_rows}
use Rattle.propagation.proofs.inner.begin.shared_area.Given as goal

abbrev pub invariant-loop-word : goal.invariant-loop-word
invariant-loop-word l =
    (l.sum ≤ 64 * length l.yielded) × (l.sum ≡ ones_sum (length l.yielded) (shared_rows l.words l.mask))
