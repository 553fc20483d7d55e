-- `next_unlabelled` meets its contract: nothing is found up to the row in hand, nor up to the position in it. Assumes
-- nothing.
use Rattle.std.proofs.Common.{◌*◌, max}
use Rattle.labelling.proofs.SearchLaws.{Unfound}
use Rattle.labelling.proofs.inner.search.next_unlabelled.Given as goal

abbrev pub invariant-rows : goal.invariant-rows
invariant-rows l =
    let reached = max l.from (l.y * l.width) in
    Unfound (l.width * l.height) l.value l.image l.queue l.initial.labels l.from l.found reached l.labels

abbrev pub invariant-loop-at : goal.invariant-loop-at
invariant-loop-at l =
    Unfound (l.width * l.height) l.value l.image l.queue l.fn.labels l.from l.found l.at l.labels
