-- `few_pixels` meets its contract: no pixel makes 0, and each pixel is a byte more. Assumes nothing.
use mathlib.Core.Path.{refl}
use native.Mathlib.Omega.{arith}
use Rattle.lists.specs.Lists.{tabulate, count_from}
use Rattle.packing.specs.Groups.{spread}
use Rattle.packing.proofs.GroupLaws.{pixel_bits-zero, few-more}
use Rattle.packing.proofs.inner.groups.few_pixels.Goals as goal

pub loop-k-init : goal.loop-k-init
unfolding spread tabulate count_from
loop-k-init c = rw (pixel_bits-zero c.args.image.now c.args.at) refl

pub loop-k-preserved : goal.loop-k-preserved
loop-k-preserved c =
    rw c.from.ensures (few-more c.args.image.now c.requires.pixels.bits _ _ _ (omega arith) c.loop-k.invariant)
