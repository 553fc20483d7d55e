-- `run_from_contour` meets its contract, case by case. Assumes nothing.
use Rattle.operations.specs.Inner.{contour_step}
use Rattle.operations.proofs.inner.run_from_contour.Goals as goal

pub erode-requires : goal.erode-requires
unfolding contour_step
erode-requires c =
    rw c.in-Erode.is at c.requires

pub dilate-requires : goal.dilate-requires
unfolding contour_step
dilate-requires c =
    rw c.in-Dilate.is at c.requires

pub flood_fill-requires : goal.flood_fill-requires
unfolding contour_step
flood_fill-requires c =
    rw c.in-FloodFill.is at c.requires

pub returns-in-Erode : goal.returns-in-Erode
unfolding contour_step
returns-in-Erode c =
    rw c.in-Erode.is c.erode.ensures

pub returns-in-Dilate : goal.returns-in-Dilate
unfolding contour_step
returns-in-Dilate c =
    rw c.in-Dilate.is c.dilate.ensures

pub returns-in-FloodFill : goal.returns-in-FloodFill
unfolding contour_step
returns-in-FloodFill c =
    rw c.in-FloodFill.is c.flood_fill.ensures
