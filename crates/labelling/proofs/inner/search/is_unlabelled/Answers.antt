-- `is_unlabelled` meets its contract, test by test. Assumes nothing.
use borrow.Author.Tests.{eq-eqb, ne_eqb}
use Rattle.labelling.specs.Inner.{is_unlabelled}
use Rattle.labelling.proofs.inner.search.is_unlabelled.Goals as goal

pub returns-then-image-at : goal.returns-then-image-at
unfolding is_unlabelled
returns-then-image-at c = simp (ne_eqb _ _ c.if-image-at.true)

pub returns : goal.returns
unfolding is_unlabelled
returns c = simp (eq-eqb _ _ c.if-image-at.false, c.label_at.ensures)
