-- `from_contour` meets its contract, case by case. Assumes nothing.
use mathlib.Core.Path.{refl}
use Rattle.operations.specs.Inner.{contour_step}
use Rattle.performing.specs.Inner.{way_step, Chosen}
use Rattle.performing.proofs.inner.from_contour.Goals as goal

pub returns-in-Words : goal.returns-in-Words
returns-in-Words c = rw c.in-Words.is c.words_from_contour.ensures

pub returns-in-FloodFill : goal.returns-in-FloodFill
unfolding Chosen way_step contour_step
returns-in-FloodFill c = (refl, rw c.in-FloodFill.is refl)

pub returns-in-ClearBorder : goal.returns-in-ClearBorder
unfolding Chosen
returns-in-ClearBorder c = tt
