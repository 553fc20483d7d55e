-- `padded_byte` meets its contract. The loop's invariant: the byte is the number that the first `k` pixels make.
-- Assumes nothing.
use Prim.Native.Nat.{◌+◌}
use mathlib.Core.Path.{◌≡◌}
use Rattle.neighbours.specs.Packed.{padded_pixel}
use Rattle.neighbours.proofs.PackedLaws.{leading}
use Rattle.packing.proofs.inner.padded_byte.Given as goal

abbrev pub invariant-loop-k : goal.invariant-loop-k
invariant-loop-k l = l.byte ≡ leading (λ j. padded_pixel l.width l.image (l.x + j) l.y) l.k
