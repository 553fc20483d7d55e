-- `operate_rows` meets its contract, case by case. Assumes nothing.
use mathlib.Core.Path.{refl}
use Rattle.model.specs.Refusals.{reads_mask}
use Rattle.model.specs.declared.Step.TheVariants.{Dilate, Propagate, ErodeBySides}
use Rattle.theorems.proofs.RefusalLaws.{step_checks-iff}
use Rattle.performing.specs.Inner.{words_step}
use Rattle.performing.proofs.WayLaws.{rows-unmasked}
use Rattle.performing.proofs.inner.operate_rows.Goals as goal

pub erosion-run-requires : goal.erosion-run-requires
unfolding words_step
erosion-run-requires c =
    let ready = rw c.in-Erode.is at c.requires in
    ((step_checks-iff _ _ (ErodeBySides _ _ _)).0 ready.passes).0

pub dilation-run-requires : goal.dilation-run-requires
unfolding words_step
dilation-run-requires c =
    let ready = rw c.in-Dilate.is at c.requires in
    (step_checks-iff _ _ (Dilate _ _)).0 ready.passes

pub operate-requires : goal.operate-requires
unfolding words_step
operate-requires c = (rw c.in-Erode.is at c.requires).held

pub operate-requires-in-Dilate : goal.operate-requires-in-Dilate
unfolding words_step
operate-requires-in-Dilate c = (rw c.in-Dilate.is at c.requires).held

pub propagate-requires : goal.propagate-requires
unfolding words_step reads_mask
propagate-requires c =
    let ready = rw c.in-Propagate.is at c.requires in
    record {
      held = ready.held;
      masked = ready.masked refl;
      sized = ready.sized;
      room = ready.room;
      linking = (step_checks-iff _ _ (Propagate _ _)).0 ready.passes;
    }

pub returns-in-Erode : goal.returns-in-Erode
unfolding words_step reads_mask
returns-in-Erode c =
    rw c.in-Erode.is (rows-unmasked _ _ _ (ErodeBySides _ _ _) refl (rw c.erosion-run.ensures at c.operate.ensures))

pub returns-in-Dilate : goal.returns-in-Dilate
unfolding words_step reads_mask
returns-in-Dilate c =
    rw c.in-Dilate.is
    (rows-unmasked _ _ _ (Dilate _ _) refl (rw c.dilation-run.ensures at c.operate-in-Dilate.ensures))

pub returns-in-Propagate : goal.returns-in-Propagate
unfolding words_step
returns-in-Propagate c =
    rw c.in-Propagate.is c.propagate.ensures
