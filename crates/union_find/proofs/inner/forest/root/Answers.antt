-- `root` meets its contract: an entry is moved up, and the root is its own entry. Assumes nothing.
use mathlib.Core.Path.{sym, ◌∙◌}
use Rattle.union_find.proofs.ForestLaws.{root-own, climbing-next}
use Rattle.union_find.proofs.inner.forest.root.Goals as goal

pub loop-above-preserved : goal.loop-above-preserved
loop-above-preserved c =
    climbing-next c.requires.forest c.loop-above.invariant c.queued-beyond.ensures c.put_queued.ensures
    c.queued-above-in-loop-above.ensures

pub returns-clause-found : goal.returns-clause-found
returns-clause-found c =
    let inv = c.loop-above.invariant in
    sym (root-own _ _ (sym inv.entry ∙ c.loop-above-test.false)) ∙ inv.found
