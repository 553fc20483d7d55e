-- `hold_rows` meets its contract: the check of a contour has packed the image, or it is packed. Assumes nothing.
use Rattle.performing.specs.Inner.{PackedFor}
use Rattle.performing.proofs.inner.hold_rows.Goals as goal

pub returns-in_default : goal.returns-in_default
unfolding PackedFor
returns-in_default c = rw c.in_default.is at c.requires.packed_for
