-- `mark_contour` meets its contract: the next entry is tested, and marked or found wrong. Assumes nothing.
use mathlib.Core.Path.{◌∙◌}
use native.Mathlib.Numerals.{add-one}
use native.Mathlib.Omega.{arith}
use Rattle.engine.proofs.MarkLaws.{is_on_contour-tested, is_on_contour-outside}
use Rattle.engine.proofs.MarkLaws.{marking-none, marking-one, marked-wrong}
use Rattle.engine.proofs.inner.contour.mark_contour.Goals as goal

pub loop-count-init : goal.loop-count-init
loop-count-init c = marking-none _ _ _ _

pub returns-then-width-height : goal.returns-then-width-height
returns-then-width-height c =
    let outside = rw c.queued-at.ensures at c.if-width-height.true in
    marked-wrong c.loop-count.invariant c.requires.sized.pixels c.loop-count-test.true c.requires.n_in_bounds
    (is_on_contour-outside _ _ _ _ outside)

pub returns-then-not-on_contour : goal.returns-then-not-on_contour
returns-then-not-on_contour c =
    let test = is_on_contour-tested _ _ _ _ c.queued-at.ensures c.if-width-height.false c.on_contour.ensures in
    marked-wrong c.loop-count.invariant c.requires.sized.pixels c.loop-count-test.true c.requires.n_in_bounds
    (test ∙ c.if-not-on_contour.true)

pub loop-count-preserved : goal.loop-count-preserved
loop-count-preserved c =
    let test = is_on_contour-tested _ _ _ _ c.queued-at.ensures c.if-width-height.false c.on_contour.ensures in
    rw (add-one, c.queued-at.ensures)
    (marking-one c.loop-count.invariant c.requires.sized.pixels (omega (arith, c.requires.n_in_bounds))
    (test ∙ c.if-not-on_contour.false))
