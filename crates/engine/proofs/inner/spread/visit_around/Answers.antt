-- `visit_around` meets its contract: the neighbours are visited one by one. Assumes nothing.
use mathlib.Core.Path.{◌≡◌, ◌∙◌}
use native.Mathlib.Omega.{arith}
use Rattle.neighbours.proofs.DirectionLaws.{get_or-directions, direction-lt, below-same}
use Rattle.neighbours.proofs.PositionLaws.{neighbour_at-lt}
use Rattle.neighbours.proofs.AroundLaws.{neighbour-column-row, first_neighbours-zero}
use Rattle.neighbours.proofs.AroundLaws.{first_neighbours-step, first_neighbours-all}
use Rattle.engine.proofs.SpreadLaws.{visited-none, visited-append}
use Rattle.engine.proofs.inner.spread.visit_around.Goals as goal

pub loop-k-init : goal.loop-k-init
loop-k-init c = rw first_neighbours-zero (visited-none _ _ _ _ _)

pub neighbour_at-place-requires-clause-direction_bound : goal.neighbour_at-place-requires-clause-direction_bound
neighbour_at-place-requires-clause-direction_bound c =
    let k_lt = below-same c.loop-k-test.true c.from-k-end.ensures in
    let d-lt = direction-lt _ _ c.requires.room.fits.connected k_lt in
    omega (arith, c.direction-d.ensures, get_or-directions _ _ k_lt)

pub visit-tail-requires-clause-by_index : goal.visit-tail-requires-clause-by_index
visit-tail-requires-clause-by_index c =
    λ j e. let lt = neighbour_at-lt _ _ _ _ _ (rw c.neighbour_at-place.ensures at e) in
    omega (arith, c.requires.room.fits.pixels, c.loop-k.invariant.changed.size)

pub loop-k-preserved : goal.loop-k-preserved
loop-k-preserved c =
    let k_lt = below-same c.loop-k-test.true c.from-k-end.ensures in
    let place = c.neighbour_at-place.ensures ∙ neighbour-column-row _ _ _ _ in
    rw (first_neighbours-step _ _ _ _ _ _ _ k_lt c.direction-d.ensures place)
    (visited-append _ _ c.loop-k.invariant c.requires.room.fits.differs c.visit-tail.ensures)

pub returns : goal.returns
returns c =
    let e : c.loop-k.k ≡ c.args.rule.connectivity = omega (arith, c.from-k-end.ensures) in
    rw (e, first_neighbours-all) at c.loop-k.invariant
