-- `perform` meets its contract: the contour handed in is right, and the operation is done, or it is not. Assumes
-- nothing.
use mathlib.Core.Path.{refl}
use Rattle.performing.specs.Inner.{Performed}
use Rattle.performing.proofs.StartLaws.{right-wrong, performed-kept}
use borrow.Author.Rules.{rules}
use Rattle.performing.proofs.inner.perform.Goals as goal

pub returns-then-not-right_start : goal.returns-then-not-right_start
unfolding Performed
returns-then-not-right_start c =
    let right = c.right_start.ensures in
    (refl, right-wrong _ _ _ _ _ right.answer (search rules), right.kept, refl)

pub returns : goal.returns
unfolding Performed
returns c =
    let right = c.right_start.ensures in
    performed-kept _ (right.answer.0 (search rules)) right.kept c.run.ensures
