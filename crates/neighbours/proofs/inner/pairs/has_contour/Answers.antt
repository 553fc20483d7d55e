-- `has_contour` meets its contract: a pass over the pixels and those below, and passes along the rows. Assumes nothing.
use Prim.Native.Nat.{◌+◌, ◌-◌, ◌*◌}
use mathlib.Core.Path.{◌≡◌, refl, sym, ◌∙◌}
use native.Mathlib.Nat.{zero-add}
use native.Mathlib.Omega.{arith}
use Rattle.lists.specs.Lists.{any, count_from}
use Rattle.lists.proofs.ListLaws.{any-count_from-next}
use Rattle.neighbours.proofs.PairLaws.{below-has_contour, row-has_contour, rows_none, none-has_contour}
use Rattle.neighbours.proofs.inner.pairs.has_contour.Goals as goal

pub returns-then-has_pair : goal.returns-then-has_pair
returns-then-has_pair c =
    let a = c.args in
    let e : a.width * a.height - a.width - 0 ≡ a.width * a.height - a.width = omega arith in
    sym (below-has_contour _ _ _ (sym (rw e at c.has_pair.ensures) ∙ c.if-has_pair.true))

pub returns-then-not-has_pair : goal.returns-then-not-has_pair
returns-then-not-has_pair c =
    let a = c.args in
    let e : a.width * a.height - a.width - 0 ≡ a.width * a.height - a.width = omega arith in
    let f : a.width * a.height - 1 - 0 ≡ a.width * a.height - 1 = omega arith in
    sym (none-has_contour _ _ _ (sym (rw e at c.has_pair.ensures) ∙ c.if-has_pair.false)
    (rows_none a.width a.height a.image.now (sym (rw f at c.has_pair-2.ensures) ∙ c.if-not-has_pair.true)))

pub loop-y-init : goal.loop-y-init
unfolding any count_from
loop-y-init c = refl

pub returns-then-has_pair-2 : goal.returns-then-has_pair-2
returns-then-has_pair-2 c =
    let above = c.loop-y.y * c.args.width in
    let e : above + c.args.width - 1 - above ≡ c.args.width - 1 = omega arith in
    sym (row-has_contour _ _ _ _ c.loop-y-test.true (sym (rw e at c.has_pair-in-loop-y.ensures) ∙ c.if-has_pair-2.true))

pub loop-y-preserved : goal.loop-y-preserved
loop-y-preserved c =
    let above = c.loop-y.y * c.args.width in
    let e : above + c.args.width - 1 - above ≡ c.args.width - 1 = omega arith in
    any-count_from-next _ 0 c.loop-y.y c.loop-y.invariant
    ∙ rw zero-add (sym (rw e at c.has_pair-in-loop-y.ensures) ∙ c.if-has_pair-2.false)

pub returns : goal.returns
returns c =
    let a = c.args in
    let e : a.width * a.height - a.width - 0 ≡ a.width * a.height - a.width = omega arith in
    let last : c.loop-y.y ≡ a.height = omega arith in
    sym (none-has_contour _ _ _ (sym (rw e at c.has_pair.ensures) ∙ c.if-has_pair.false)
    (rw last at c.loop-y.invariant))
