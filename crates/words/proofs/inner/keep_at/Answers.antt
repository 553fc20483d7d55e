-- `keep_at` meets its contract, case by case. Assumes nothing.
use borrow.Author.Tests.{eq-eqb, ne_eqb}
use Rattle.words.specs.Frame.{keep_at}
use Rattle.words.proofs.inner.keep_at.Goals as goal

pub returns-then-k-frame : goal.returns-then-k-frame
unfolding keep_at
returns-then-k-frame c = rw (eq-eqb _ _ c.if-k-frame.true)

pub returns : goal.returns
unfolding keep_at
returns c = rw (ne_eqb _ _ c.if-k-frame.false)
