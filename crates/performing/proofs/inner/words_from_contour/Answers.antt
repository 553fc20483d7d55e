-- `words_from_contour` meets its contract, case by case. Assumes nothing.
use mathlib.Core.Path.{refl}
use Rattle.operations.specs.Inner.{contour_step}
use Rattle.performing.specs.Inner.{words_step, way_step, Chosen}
use Rattle.performing.proofs.inner.words_from_contour.Goals as goal

pub returns-in-Erode : goal.returns-in-Erode
unfolding Chosen way_step words_step contour_step
returns-in-Erode c = (refl, rw c.in-Erode.is refl)

pub returns-in-Dilate : goal.returns-in-Dilate
unfolding Chosen way_step words_step contour_step
returns-in-Dilate c = (refl, rw c.in-Dilate.is refl)

pub returns-in-Propagate : goal.returns-in-Propagate
unfolding Chosen
returns-in-Propagate c = tt
