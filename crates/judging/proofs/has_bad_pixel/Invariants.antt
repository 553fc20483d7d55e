-- What the loop of `has_bad_pixel` keeps: the greatest of the pixels so far is bad if one of them is.
use mathlib.Core.Path.{◌≡◌}
use lib.ListN.{take}
use Rattle.lists.specs.Lists.{any}
use Rattle.model.specs.Refusals.{bad_pixel}
use Rattle.judging.proofs.has_bad_pixel.Given as goal

abbrev pub invariant-loop-pixel : goal.invariant-loop-pixel
invariant-loop-pixel l = bad_pixel l.most ≡ any bad_pixel (take l.pixel-index l.pixels)
