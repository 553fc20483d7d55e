-- `fill_step` meets its contract: the rows unpacked, their contour listed, the fill done from it, the image packed.
-- Assumes nothing.
use Rattle.operations.specs.Inner.{contour_step}
use Rattle.performing.proofs.OnWordsLaws.{whole-listed}
use Rattle.performing.proofs.StartLaws.{scanned-in-hand}
use Rattle.performing.proofs.StepRowsLaws.{step-packable, step-prepared, stepped-queue}
use Rattle.performing.proofs.inner.fill_step.Goals as goal

pub run_from_contour-report-requires : goal.run_from_contour-report-requires
unfolding contour_step
run_from_contour-report-requires c =
    let taken = scanned-in-hand _ _ _ _ (whole-listed _ c.list_contour-found.ensures.listed) in
    step-prepared c.args.rows.now c.requires c.unpack.ensures taken.0 taken.1

pub pack-requires-clause-packable : goal.pack-requires-clause-packable
unfolding contour_step
pack-requires-clause-packable c =
    step-packable c.args.rows.now c.requires c.unpack.ensures c.run_from_contour-report.ensures.pictured

pub returns : goal.returns
unfolding contour_step
returns c = stepped-queue _ c.unpack.ensures c.run_from_contour-report.ensures c.pack.ensures
