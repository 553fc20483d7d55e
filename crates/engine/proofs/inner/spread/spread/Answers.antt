-- `spread` meets its contract: the neighbours of the stretch are visited entry by entry. Assumes nothing.
use Rattle.engine.proofs.SpreadLaws.{around-none, around-lt, around-next}
use Rattle.engine.proofs.inner.spread.spread.Goals as goal

pub loop-slot-init : goal.loop-slot-init
loop-slot-init c = around-none _ _ _ _ _ _

pub visit_neighbours-tail-requires-clause-at_in_bounds : goal.visit_neighbours-tail-requires-clause-at_in_bounds
visit_neighbours-tail-requires-clause-at_in_bounds c =
    rw c.queued-at.ensures
    (around-lt _ _ _ c.loop-slot.auto.slot c.loop-slot-test.true c.requires c.loop-slot.invariant)

pub loop-slot-preserved : goal.loop-slot-preserved
loop-slot-preserved c =
    around-next _ _ _ c.loop-slot.auto.slot c.loop-slot-test.true c.requires c.loop-slot.invariant c.queued-at.ensures
    c.visit_neighbours-tail.ensures
