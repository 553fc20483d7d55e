-- `on_contour` meets its contract: it is an object pixel, and has a background neighbour. Assumes nothing.
use borrow.Author.Tests.{eq-eqb, ne_eqb}
use Rattle.neighbours.specs.Contour.{on_contour}
use Rattle.neighbours.proofs.inner.on_contour.Goals as goal

pub returns-then-image-at-ne1 : goal.returns-then-image-at-ne1
unfolding on_contour
returns-then-image-at-ne1 c = simp (ne_eqb _ _ c.if-image-at-ne1.true)

pub returns-then-on_border : goal.returns-then-on_border
unfolding on_contour
returns-then-on_border c = simp (eq-eqb _ _ c.if-image-at-ne1.false) c.has_neighbour.ensures

pub returns : goal.returns
unfolding on_contour
returns c = simp (eq-eqb _ _ c.if-image-at-ne1.false) c.beside_background.ensures
