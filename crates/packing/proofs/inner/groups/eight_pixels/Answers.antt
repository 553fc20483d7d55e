-- `eight_pixels` meets its contract: the number has the pixels as its bytes. Assumes nothing.
use native.Mathlib.Omega.{arith}
use native.Mathlib.Nat.{add-zero}
use Rattle.lists.specs.Lists.{tabulate, count_from}
use Rattle.packing.specs.Groups.{pixel_bytes}
use Rattle.packing.proofs.inner.groups.eight_pixels.Goals as goal

pub returns : goal.returns
unfolding pixel_bytes tabulate count_from
returns c = rw (add-zero c.args.at) (omega (arith, c.from_le_bytes.ensures))
