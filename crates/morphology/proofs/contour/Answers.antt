-- `morphology::contour` meets its contract: the test on the length says which case of `front` holds.
-- Assumes nothing.
use borrow.Author.Tests.{le-leb, lt-leb}
use mathlib.Core.Path.{sym}
use lib.Seq.{length-take-le}
use Rattle.model.specs.Queue.{front}
use Rattle.morphology.proofs.contour.Goals as goal

pub returns-then-queue-len : goal.returns-then-queue-len
unfolding front
returns-then-queue-len c = simp (lt-leb _ _ c.if-queue-len.true)

pub slice_bounds-result-end-2 : goal.slice_bounds-result-end-2
slice_bounds-result-end-2 c = sym (length-take-le _ _ c.if-queue-len.false)

pub returns : goal.returns
unfolding front
returns c = simp (le-leb _ _ c.if-queue-len.false)
