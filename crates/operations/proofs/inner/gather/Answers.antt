-- `gather` meets its contract: the neighbours are marked and queued, painted with the value again, and moved
-- to the front. Assumes nothing.
use mathlib.Core.Path.{refl}
use Rattle.engine.proofs.SpreadLaws.{stretch-positions, stretch-visited}
use Rattle.operations.proofs.GatherLaws.{gather-stretch, gather-kept, gather-gathered}
use Rattle.operations.proofs.inner.gather.Goals as goal

pub spread-end-requires : goal.spread-end-requires
spread-end-requires c = rw c.changing-rule.ensures (gather-stretch c.requires)

pub paint-requires : goal.paint-requires
paint-requires c =
    let visited = rw c.changing-rule.ensures at c.spread-end.ensures in
    stretch-positions _ _ (stretch-visited _ _ (gather-stretch c.requires) visited) refl

pub returns : goal.returns
returns c =
    let from = gather-stretch c.requires in
    let visited = rw c.changing-rule.ensures at c.spread-end.ensures in
    record {
      gathered = gather-gathered _ _ _ from visited c.move_front.ensures;
      kept = gather-kept _ _ _ from visited c.paint.ensures;
    }
