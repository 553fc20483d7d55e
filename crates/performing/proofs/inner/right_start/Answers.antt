-- `right_start` meets its contract: a scan is right, and a contour handed in is held against the image. Assumes
-- nothing.
use Rattle.performing.proofs.StartLaws.{right-scan, right-contour}
use Rattle.performing.specs.Inner.{PackedFor}
use Rattle.performing.proofs.inner.right_start.Goals as goal

pub returns-in-Scan-clause-answer : goal.returns-in-Scan-clause-answer
returns-in-Scan-clause-answer c = right-scan _ _ _ _ _ c.in-Scan.is

pub returns-in-Scan-clause-packed : goal.returns-in-Scan-clause-packed
unfolding PackedFor
returns-in-Scan-clause-packed c = λ t. rw c.in-Scan.is tt

pub returns-in-Contour-clause-answer : goal.returns-in-Contour-clause-answer
returns-in-Contour-clause-answer c = right-contour _ _ _ _ _ c.in-Contour.is c.is_contour.ensures.answer

pub returns-in-Contour-clause-packed : goal.returns-in-Contour-clause-packed
unfolding PackedFor
returns-in-Contour-clause-packed c = λ t. rw c.in-Contour.is (c.is_contour.ensures.packed t)
