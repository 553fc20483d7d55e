-- `count_positions` counts the ones of a row behind those of the rows before it, and they are few. Assumes nothing.
use Rattle.std.proofs.Common.{◌≡◌, refl, ap, ◌∙◌, arith, length, ◌+◌}
use Rattle.words.specs.Positions.{ones_above}
use Rattle.words.proofs.PositionsLaws.{length-ones_above-small, ones_above-count, ones_above-select}
use Rattle.words.proofs.inner.positions.count_positions.Goals as goal

pub loop-y-init : goal.loop-y-init
unfolding ones_above
loop-y-init c = refl

pub overflow_add-count : goal.overflow_add-count
overflow_add-count c =
    let counted = ones_above-count _ _ _ _ _ _ c.loop-y.invariant c.count_row-count.ensures in
    omega (arith, counted, length-ones_above-small c.requires (c.loop-y.y + 1) (omega arith))

pub loop-y-preserved : goal.loop-y-preserved
loop-y-preserved c = ones_above-count _ _ _ _ _ _ c.loop-y.invariant c.count_row-count.ensures

pub returns-clause-counted : goal.returns-clause-counted
returns-clause-counted c test said =
    let all : c.loop-y.y ≡ c.args.height = omega arith in
    c.loop-y.invariant ∙ rw all (ap length (ones_above-select _ _ _ test said))

pub returns-clause-upper_bound : goal.returns-clause-upper_bound
returns-clause-upper_bound c =
    omega (arith, c.loop-y.invariant, length-ones_above-small c.requires c.loop-y.y (omega arith))
