-- `layers` meets its contract: each layer follows the one before, up to an empty one. Assumes nothing.
use Rattle.engine.proofs.SpreadLaws.{reached-start, reached-next, grown-last}
use Rattle.engine.proofs.inner.spread.layers.Goals as goal

pub loop-used-init : goal.loop-used-init
loop-used-init c = reached-start _ _ c.requires

pub returns-then-end-tail : goal.returns-then-end-tail
returns-then-end-tail c =
    grown-last _ _ c.loop-used.invariant c.spread-end.ensures c.if-end-tail.true _ c.loop-used-test.true

pub loop-used-preserved : goal.loop-used-preserved
loop-used-preserved c = reached-next _ _ c.loop-used.invariant c.spread-end.ensures c.if-end-tail.false
