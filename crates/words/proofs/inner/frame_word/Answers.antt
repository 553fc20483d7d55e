-- `frame_word` meets its contract, case by case. Assumes nothing.
use borrow.Author.Tests.{eq-eqb, ne_eqb}
use Rattle.words.specs.Frame.{frame_word}
use Rattle.words.proofs.inner.frame_word.Goals as goal

pub returns-then-y-eq0 : goal.returns-then-y-eq0
unfolding frame_word
returns-then-y-eq0 c = rw (eq-eqb _ _ c.if-y-eq0.true)

pub returns-then-y-frame : goal.returns-then-y-frame
unfolding frame_word
returns-then-y-frame c = rw (ne_eqb _ _ c.if-y-eq0.false, eq-eqb _ _ c.if-y-frame.true)

pub returns : goal.returns
unfolding frame_word
returns c = rw (ne_eqb _ _ c.if-y-eq0.false, ne_eqb _ _ c.if-y-frame.false)
