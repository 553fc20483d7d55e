-- `step_rows` meets its contract, way by way: a step does what the one that it goes as does. Assumes nothing.
use mathlib.Core.Path.{refl, sym, ◌∙◌}
use Rattle.model.specs.Refusals.{reads_mask}
use Rattle.model.specs.declared.Step.TheVariants.{FloodFill, ClearBorder}
use Rattle.performing.specs.Inner.{way_step}
use Rattle.performing.proofs.WayLaws.{alike, step-alike, step-unmasked, stepped-alike, stepped-unmasked}
use Rattle.performing.proofs.inner.step_rows.Goals as goal

pub words_step-requires : goal.words_step-requires
unfolding way_step
words_step-requires c = step-alike (alike _ _ c.args.step (sym c.in-Words.is ∙ c.way_of.ensures)) c.requires

pub fill_step-requires : goal.fill_step-requires
unfolding way_step reads_mask
fill_step-requires c =
    step-unmasked _ _ _ (FloodFill _ _ _) refl
    (step-alike (alike _ _ c.args.step (sym c.in-FloodFill.is ∙ c.way_of.ensures)) c.requires)

pub border_step-requires : goal.border_step-requires
unfolding way_step reads_mask
border_step-requires c =
    step-unmasked _ _ _ (ClearBorder _) refl
    (step-alike (alike _ _ c.args.step (sym c.in-ClearBorder.is ∙ c.way_of.ensures)) c.requires)

pub returns-in-Words : goal.returns-in-Words
unfolding way_step
returns-in-Words c = stepped-alike (alike _ _ c.args.step (sym c.in-Words.is ∙ c.way_of.ensures)) c.words_step.ensures

pub returns-in-FloodFill : goal.returns-in-FloodFill
unfolding way_step reads_mask
returns-in-FloodFill c =
    stepped-alike (alike _ _ c.args.step (sym c.in-FloodFill.is ∙ c.way_of.ensures))
    (stepped-unmasked _ _ _ (FloodFill _ _ _) refl c.fill_step.ensures)

pub returns-in-ClearBorder : goal.returns-in-ClearBorder
unfolding way_step reads_mask
returns-in-ClearBorder c =
    stepped-alike (alike _ _ c.args.step (sym c.in-ClearBorder.is ∙ c.way_of.ensures))
    (stepped-unmasked _ _ _ (ClearBorder _) refl c.border_step.ensures)
