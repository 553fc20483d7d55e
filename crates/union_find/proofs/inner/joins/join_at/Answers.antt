-- `join_at` meets its contract: the tests say which pixels of the square touch, and those are joined.
-- Assumes nothing.
use mathlib.Core.Path.{sym, ◌∙◌}
use native.Mathlib.Omega.{arith}
use Rattle.union_find.proofs.RegionLaws.{met-above, met-falling, met-rising}
use Rattle.union_find.proofs.inner.joins.join_at.Goals as goal

pub returns-then-image-at : goal.returns-then-image-at
returns-then-image-at c n l f =
    met-above _ _ _ _ n _ c.requires.square l c.above-above.ensures.position c.if-image-at.true
    (c.join.ensures n l (omega arith) f)

pub returns-then-image-corner : goal.returns-then-image-corner
returns-then-image-corner c n l f =
    let differs = rw c.above-above.ensures.position at c.if-image-at.false in
    let value = c.diagonal_value-diagonal.ensures in
    let corner = c.corner-corner.ensures.position in
    met-falling _ _ _ _ n _ c.requires.square l differs (c.if-image-at-2.true ∙ value)
    (rw corner at c.if-image-corner.true ∙ value)
    (rw corner at (c.join-then-image-corner.ensures n l (omega arith) f))

pub returns-then-image-left : goal.returns-then-image-left
returns-then-image-left c n l f =
    let value = c.diagonal_value-diagonal.ensures in
    let above = c.above-above.ensures.position in
    let left = c.left-left.ensures.position in
    met-rising _ _ _ _ n _ c.requires.square l (rw above at c.if-image-at.false)
    (λ own. c.if-image-at-2.false (own ∙ sym value))
    (rw left at c.if-image-left.true ∙ value) (rw above at c.if-image-above.true ∙ value)
    (rw (left, above) at (c.join-then-image-left.ensures n (omega arith) (omega arith) f))
