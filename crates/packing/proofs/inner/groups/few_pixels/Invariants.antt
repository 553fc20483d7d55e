-- `few_pixels` meets its contract. The loop's invariant: the first `k` pixels are bytes of the number. Assumes nothing.
use Prim.Native.Nat.{◌-◌, ◌*◌, ◌^◌}
use mathlib.Core.Path.{◌≡◌}
use Rattle.packing.specs.Groups.{pixel_bits, spread}
use Rattle.packing.proofs.inner.groups.few_pixels.Given as goal

abbrev pub invariant-loop-k : goal.invariant-loop-k
invariant-loop-k l = l.x ≡ spread (pixel_bits l.image l.at l.k * 2 ^ (8 - l.k))
