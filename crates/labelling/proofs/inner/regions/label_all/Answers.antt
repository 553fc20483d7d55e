-- `label_all` meets its contract: the search finds a pixel inside, which gets the next label, or passes all that are
-- left. Assumes nothing.
use Rattle.std.proofs.Common.{arith}
use Rattle.labelling.proofs.SearchLaws.{next_start-size, next_start-lt}
use Rattle.labelling.proofs.LabelAllLaws.{counting-next, counting-over, labelled-all}
use Rattle.labelling.proofs.inner.regions.label_all.Goals as goal
use Rattle.labelling.proofs.inner.regions.label_all.Goals.{then-count-lt-MAX_LABELS, else-count-lt-MAX_LABELS}

pub returns-in_default-clause-labelled : goal.returns-in_default-clause-labelled
returns-in_default-clause-labelled c =
    labelled-all c.loop-count.invariant c.requires.forest (omega arith) _ c.in_default.ensures

pub offset_bounds-labels-at : goal.offset_bounds-labels-at
offset_bounds-labels-at c = omega (arith, next_start-lt _ _ _ _ _ _ _ c.in-Some.ensures)

pub bounds-labels-at : goal.bounds-labels-at
bounds-labels-at c =
    omega (
      arith,
      next_start-lt _ _ _ _ _ _ _ c.in-Some.ensures,
      next_start-size _ _ _ _ _ _ _ _ c.in-Some.ensures,
      c.loop-count.invariant.size,
    )

pub overflow_add-from : goal.overflow_add-from
overflow_add-from c = omega (arith, next_start-lt _ _ _ _ _ _ _ c.in-Some.ensures)

pub loop-count-preserved : goal.loop-count-preserved
loop-count-preserved c =
    let inv = c.loop-count.invariant in
    let forest = c.requires.forest in
    elim c.if-count-lt-MAX_LABELS.branch [
      | then-count-lt-MAX_LABELS w ↦
          counting-next inv forest (omega arith) _ _ c.in-Some.ensures (omega (arith, w.if-count-lt-MAX_LABELS.true))
          w.labels-is
      | else-count-lt-MAX_LABELS w ↦
          rw w.labels-is
          (counting-over inv forest (omega arith) _ _ c.in-Some.ensures
          (omega (arith, w.if-count-lt-MAX_LABELS.false)))
    ]
