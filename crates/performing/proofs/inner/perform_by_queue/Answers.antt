-- `perform_by_queue` meets its contract: the contour handed in is right, and the step is done from it, or it is not.
-- Assumes nothing.
use mathlib.Core.Path.{refl, sym, ◌∙◌}
use borrow.Author.Rules.{rules}
use Rattle.performing.specs.Inner.{Performed}
use Rattle.performing.proofs.StartLaws.{right-contour, right-wrong, accepted-prepared, performed-kept}
use Rattle.performing.proofs.inner.perform_by_queue.Goals as goal

pub returns-then-not-is_contour : goal.returns-then-not-is_contour
unfolding Performed
returns-then-not-is_contour c =
    let right = c.is_contour.ensures in
    (refl, right-wrong _ _ _ _ _ (right-contour _ _ _ _ _ refl right.answer) (search rules), right.kept, refl)

pub run_from_contour-requires : goal.run_from_contour-requires
run_from_contour-requires c =
    let right = c.is_contour.ensures in
    accepted-prepared c.requires right.kept (sym right.answer ∙ search rules)

pub returns : goal.returns
returns c =
    let right = c.is_contour.ensures in
    performed-kept _ ((right-contour _ _ _ _ _ refl right.answer).0 (search rules)) right.kept
    c.run_from_contour.ensures
