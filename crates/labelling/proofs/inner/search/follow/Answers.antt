-- `follow` meets its contract, test by test. Assumes nothing.
use mathlib.Core.Path.{sym, ◌∙◌}
use borrow.Author.Tests.{eq-eqb, ne_eqb}
use Rattle.labelling.proofs.inner.search.follow.Goals as goal

pub returns-then-entry-at : goal.returns-then-entry-at
returns-then-entry-at c = simp (eq-eqb _ _ (sym c.queued-entry.ensures ∙ c.if-entry-at.true))

pub returns : goal.returns
returns c =
    let entry = c.queued-entry.ensures in
    simp (ne_eqb _ _ (λ e. c.if-entry-at.false (entry ∙ e)), entry)
