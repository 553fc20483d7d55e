-- `packed_pixel` meets its contract: a shift to the right divides by a power of two, and the lowest bit is what
-- division by two leaves. Assumes nothing.
use mathlib.Core.Path.{sym, ◌∙◌}
use lib.Bits.{and_mask}
use Rattle.neighbours.proofs.PackedLaws.{packed_pixel-is}
use Rattle.model.specs.Codec.{byte_bits}
use Rattle.packing.proofs.inner.packed_pixel.Goals as goal

pub returns : goal.returns
returns c = rw c.row_bytes.ensures (and_mask _ 1 ∙ sym (packed_pixel-is byte_bits _ _ _ _))
