-- `dilate` meets its contract, by the laws of `DilateLaws`. Assumes nothing.
use native.Mathlib.Omega.{arith}
use Rattle.operations.proofs.HandOnLaws.{changed-fits, contour-fits}
use Rattle.operations.proofs.DilateLaws.{dilate-start, dilated}
use Rattle.operations.proofs.inner.dilate.Goals as goal

pub layers-grown-requires : goal.layers-grown-requires
layers-grown-requires c = rw c.changing-rule.ensures (dilate-start c.requires)

pub overflow_cast-result : goal.overflow_cast-result
overflow_cast-result c =
    let grown = rw (c.changing-rule.ensures, c.from.ensures) at c.layers-grown.ensures in
    let done = dilated c.requires grown c.keep_contour-kept.ensures c.clear_behind.ensures in
    omega (arith, changed-fits c.requires.ready.valid done)

pub overflow_cast-result-3 : goal.overflow_cast-result-3
overflow_cast-result-3 c =
    let grown = rw (c.changing-rule.ensures, c.from.ensures) at c.layers-grown.ensures in
    let done = dilated c.requires grown c.keep_contour-kept.ensures c.clear_behind.ensures in
    omega (arith, contour-fits c.requires.ready.valid done)

pub returns : goal.returns
returns c =
    let grown = rw (c.changing-rule.ensures, c.from.ensures) at c.layers-grown.ensures in
    dilated c.requires grown c.keep_contour-kept.ensures c.clear_behind.ensures
