-- `run_fill` meets its contract: the contour is taken in hand, and the fill goes from it. Assumes nothing.
use Rattle.operations.specs.Inner.{contour_step}
use Rattle.performing.proofs.StartLaws.{runnable-prepared, operated-queue}
use Rattle.performing.proofs.inner.run_fill.Goals as goal

pub run_from_contour-requires : goal.run_from_contour-requires
unfolding contour_step
run_from_contour-requires c =
    let taken = c.take_contour-len.ensures in
    runnable-prepared c.requires taken.size taken.hand

pub returns : goal.returns
unfolding contour_step
returns c = operated-queue c.take_contour-len.ensures.size c.run_from_contour.ensures
