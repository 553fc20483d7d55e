-- `padded_pixel` meets its contract: the test on the column says which case of `padded_pixel` holds. Assumes nothing.
use mathlib.Core.Path.{sym}
use Rattle.neighbours.proofs.PackedLaws.{padded_pixel-inside, padded_pixel-behind}
use Rattle.packing.proofs.inner.padded_pixel.Goals as goal

pub returns-then-x-width : goal.returns-then-x-width
returns-then-x-width c = sym (padded_pixel-inside _ _ _ _ c.if-x-width.true)

pub returns : goal.returns
returns c = sym (padded_pixel-behind _ _ _ _ c.if-x-width.false)
