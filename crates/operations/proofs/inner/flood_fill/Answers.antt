-- `flood_fill` meets its contract, by the laws of `FloodFillLaws`. Assumes nothing.
use mathlib.Core.Path.{refl}
use native.Mathlib.Omega.{arith}
use Rattle.operations.proofs.HandOnLaws.{changed-fits, contour-fits}
use Rattle.operations.proofs.FloodFillLaws.{fill-visit, fill-stretch, fill-keep, flood-filled}
use Rattle.operations.proofs.inner.flood_fill.Goals as goal

pub visit-end-requires-clause-room : goal.visit-end-requires-clause-room
visit-end-requires-clause-room c = rw c.changing-rule.ensures (fill-visit c.requires).0

pub visit-end-requires-clause-by_index : goal.visit-end-requires-clause-by_index
visit-end-requires-clause-by_index c = rw (c.from.ensures, c.from-2.ensures) (fill-visit c.requires).1

pub layers-grown-requires : goal.layers-grown-requires
layers-grown-requires c =
    let visited = rw (c.changing-rule.ensures, c.from.ensures, c.from-2.ensures) at c.visit-end.ensures in
    rw c.changing-rule.ensures (fill-stretch c.requires visited)

pub keep_contour-kept-requires-clause-positions : goal.keep_contour-kept-requires-clause-positions
keep_contour-kept-requires-clause-positions c =
    let visited = rw (c.changing-rule.ensures, c.from.ensures, c.from-2.ensures) at c.visit-end.ensures in
    (fill-keep c.requires visited (rw c.changing-rule.ensures at c.layers-grown.ensures)).1

pub overflow_cast-result : goal.overflow_cast-result
overflow_cast-result c =
    let visited = rw (c.changing-rule.ensures, c.from.ensures, c.from-2.ensures) at c.visit-end.ensures in
    let grown = rw c.changing-rule.ensures at c.layers-grown.ensures in
    let done = flood-filled c.requires visited grown c.keep_contour-kept.ensures refl c.clear_behind.ensures in
    omega (arith, changed-fits c.requires.ready.valid done)

pub overflow_cast-result-2 : goal.overflow_cast-result-2
overflow_cast-result-2 c =
    let visited = rw (c.changing-rule.ensures, c.from.ensures, c.from-2.ensures) at c.visit-end.ensures in
    let grown = rw c.changing-rule.ensures at c.layers-grown.ensures in
    let done = flood-filled c.requires visited grown c.keep_contour-kept.ensures refl c.clear_behind.ensures in
    omega (arith, contour-fits c.requires.ready.valid done)

pub returns : goal.returns
returns c =
    let visited = rw (c.changing-rule.ensures, c.from.ensures, c.from-2.ensures) at c.visit-end.ensures in
    let grown = rw c.changing-rule.ensures at c.layers-grown.ensures in
    flood-filled c.requires visited grown c.keep_contour-kept.ensures c.count_used.ensures c.clear_behind.ensures
