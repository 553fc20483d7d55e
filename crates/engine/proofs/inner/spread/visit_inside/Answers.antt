-- `visit_inside` meets its contract: the neighbours are visited one by one. Assumes nothing.
use Prim.Native.Nat.{ℕ}
use mathlib.Core.Path.{◌≡◌, sym, ap, ◌∙◌}
use native.Mathlib.Omega.{arith}
use lib.ListN.{get_or}
use Rattle.neighbours.specs.Grid.{directions}
use Rattle.neighbours.proofs.DirectionLaws.{get_or-directions, direction-lt, below-same}
use Rattle.neighbours.proofs.AroundLaws.{neighbour-lt, first_neighbours-zero, first_neighbours-step}
use Rattle.neighbours.proofs.AroundLaws.{first_neighbours-all}
use Rattle.engine.proofs.SpreadLaws.{visited-none, visited-append}
use Rattle.engine.proofs.inner.spread.visit_inside.Goals as goal

pub loop-k-init : goal.loop-k-init
loop-k-init c = rw first_neighbours-zero (visited-none _ _ _ _ _)

pub neighbour_inside-beside-requires-clause-direction_bound :
    goal.neighbour_inside-beside-requires-clause-direction_bound
neighbour_inside-beside-requires-clause-direction_bound c =
    let k_lt = below-same c.loop-k-test.true c.from-k-end.ensures in
    let d-lt = direction-lt _ _ (rw c.requires.same at c.requires.room.fits.connected) k_lt in
    omega (arith, c.direction-d.ensures, get_or-directions _ _ k_lt)

pub visit-tail-requires-clause-by_index : goal.visit-tail-requires-clause-by_index
visit-tail-requires-clause-by_index c =
    λ j e. let lt = neighbour-lt _ _ _ _ (c.neighbour_inside-beside.ensures ∙ e) in
    omega (arith, c.requires.room.fits.pixels, c.loop-k.invariant.changed.size)

pub loop-k-preserved : goal.loop-k-preserved
loop-k-preserved c =
    let pre = c.requires in
    let d = c.direction-d.ensures ∙ ap (λ (n : ℕ). get_or (directions n) c.loop-k.k 0) (sym pre.same) in
    rw (first_neighbours-step _ _ _ _ _ _ _ (omega (arith, pre.same, c.loop-k-test.true, c.from-k-end.ensures)) d
    (sym c.neighbour_inside-beside.ensures))
    (visited-append _ _ c.loop-k.invariant pre.room.fits.differs c.visit-tail.ensures)

pub returns : goal.returns
returns c =
    let e : c.loop-k.k ≡ c.args.rule.connectivity = omega (arith, c.requires.same, c.from-k-end.ensures) in
    rw (e, first_neighbours-all) at c.loop-k.invariant
