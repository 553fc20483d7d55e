-- `is_start` meets its contract, test by test. Assumes nothing.
use mathlib.Core.Path.{sym, ◌∙◌}
use borrow.Author.Tests.{eq-eqb, ne_eqb}
use Rattle.labelling.proofs.inner.search.is_start.Goals as goal

pub returns-then-queued-at : goal.returns-then-queued-at
returns-then-queued-at c = simp (ne_eqb _ _ (λ e. c.if-queued-at.true (c.queued.ensures ∙ e)))

pub returns : goal.returns
returns c =
    let root = sym c.queued.ensures ∙ c.if-queued-at.false in
    simp (eq-eqb _ _ root, c.is_unlabelled.ensures)
