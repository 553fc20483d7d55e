-- `is_contour` meets its contract: a contour that stands row by row is right, and one longer than the queue is not.
-- Assumes nothing.
use mathlib.Core.Path.{sym}
use native.Mathlib.Omega.{arith}
use Rattle.lists.proofs.BoolLaws.{by-test}
use Rattle.model.specs.Refusals.{is_contour}
use Rattle.theorems.proofs.RefusalLaws.{is_contour-iff}
use Rattle.performing.proofs.StartLaws.{scanned-right}
use Rattle.performing.proofs.inner.is_contour.Goals as goal

pub returns-then-queue-len-clause-answer : goal.returns-then-queue-len-clause-answer
returns-then-queue-len-clause-answer c =
    let a = c.args in
    by-test (is_contour a.width a.height a.image.now a.queue.now a.len)
    (λ t. absurd (omega (arith, ((is_contour-iff _ _ _ _ _).0 t).0))) sym

pub returns-then-is_scanned-clause-answer : goal.returns-then-is_scanned-clause-answer
returns-then-is_scanned-clause-answer c =
    let a = c.args in
    sym (scanned-right a.width a.height a.image.now a.queue.now c.if-queue-len.false
    (c.is_scanned.ensures.answer.0 c.if-is_scanned.true))
