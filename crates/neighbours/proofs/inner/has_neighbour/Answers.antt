-- `has_neighbour` meets its contract: each turn of the loop looks in one more direction. Assumes nothing.
use mathlib.Core.Path.{sym, ◌∙◌}
use native.Mathlib.Omega.{arith}
use borrow.Author.Tests.{eq-eqb, ne_eqb}
use Rattle.neighbours.proofs.DirectionLaws.{get_or-directions, direction-lt, below-same}
use Rattle.neighbours.proofs.DirectionLaws.{has_neighbour_from-zero, has_neighbour_from-end, has_neighbour_from-step}
use Rattle.neighbours.proofs.inner.has_neighbour.Goals as goal

pub neighbour_value-requires-clause-direction_bound : goal.neighbour_value-requires-clause-direction_bound
neighbour_value-requires-clause-direction_bound c =
    let few = below-same c.loop-k-test.true c.from-k-end.ensures in
    omega (arith, c.direction-d.ensures, get_or-directions _ _ few, direction-lt _ _ c.requires.connectivity_value few)

pub loop-k-init : goal.loop-k-init
loop-k-init c = has_neighbour_from-zero _ _ _ _ _ _ _

pub returns-then-neighbour_value-value : goal.returns-then-neighbour_value-value
returns-then-neighbour_value-value c =
    sym (c.loop-k.invariant
    ∙ has_neighbour_from-step _ _ _ _ _ _ _ _ _ _ (below-same c.loop-k-test.true c.from-k-end.ensures)
    c.direction-d.ensures c.neighbour_value.ensures
    ∙ rw (eq-eqb _ _ c.if-neighbour_value-value.true))

pub loop-k-preserved : goal.loop-k-preserved
loop-k-preserved c =
    c.loop-k.invariant
    ∙ has_neighbour_from-step _ _ _ _ _ _ _ _ _ _ (below-same c.loop-k-test.true c.from-k-end.ensures)
    c.direction-d.ensures c.neighbour_value.ensures
    ∙ rw (ne_eqb _ _ c.if-neighbour_value-value.false)

pub returns : goal.returns
returns c = sym (c.loop-k.invariant ∙ has_neighbour_from-end _ _ _ _ _ _ _ _ (omega (arith, c.from-k-end.ensures)))
