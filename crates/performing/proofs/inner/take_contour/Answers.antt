-- `take_contour` meets its contract: a contour handed in that is right is in hand. Assumes nothing.
use Rattle.performing.proofs.StartLaws.{right-in-hand}
use Rattle.performing.proofs.inner.take_contour.Goals as goal

pub returns-in-Contour-clause-hand : goal.returns-in-Contour-clause-hand
returns-in-Contour-clause-hand c = right-in-hand _ _ _ _ c.in-Contour.is c.requires.start_value
