-- `run` meets its contract, way by way. Assumes nothing.
use mathlib.Core.Path.{refl}
use Rattle.model.specs.Refusals.{reads_mask}
use Rattle.model.specs.declared.Step.TheVariants.{FloodFill, ClearBorder}
use Rattle.theorems.proofs.RefusalLaws.{step_checks-iff}
use Rattle.performing.specs.Inner.{way_step}
use Rattle.performing.proofs.WayLaws.{runnable-unmasked, operated-unmasked}
use Rattle.performing.proofs.inner.run.Goals as goal

pub run_words-requires : goal.run_words-requires
unfolding way_step
run_words-requires c = rw c.in-Words.is at c.requires

pub run_fill-requires : goal.run_fill-requires
unfolding way_step reads_mask
run_fill-requires c =
    runnable-unmasked _ _ _ (FloodFill _ _ _) refl (rw c.in-FloodFill.is at c.requires)

pub run_border-requires-clause-connectivity_value : goal.run_border-requires-clause-connectivity_value
unfolding way_step
run_border-requires-clause-connectivity_value c =
    (step_checks-iff _ _ (ClearBorder _)).0 (rw c.in-ClearBorder.is at c.requires).call.accepted.passes

pub returns-in-Words : goal.returns-in-Words
unfolding way_step
returns-in-Words c = rw c.in-Words.is c.run_words.ensures

pub returns-in-FloodFill : goal.returns-in-FloodFill
unfolding way_step reads_mask
returns-in-FloodFill c =
    rw c.in-FloodFill.is (operated-unmasked _ _ _ (FloodFill _ _ _) refl c.run_fill.ensures)

pub returns-in-ClearBorder : goal.returns-in-ClearBorder
unfolding way_step reads_mask
returns-in-ClearBorder c =
    rw c.in-ClearBorder.is (operated-unmasked _ _ _ (ClearBorder _) refl c.run_border.ensures)
