-- `erode` meets its contract: each answer is a law of `ErodeLaws` over what the function requires and what its
-- callees ensure. Assumes nothing.
use native.Mathlib.Omega.{arith}
use Rattle.operations.proofs.PreparedLaws.{prepared-fits}
use Rattle.operations.proofs.ErodeLaws.{erode-none, erode-first, erode-further, erode-fits, erode-last, kept-fits}
use Rattle.operations.proofs.ErodeLaws.{eroded}
use Rattle.operations.proofs.inner.erode.Goals as goal

pub unchanged-requires-clause-len_in_bounds : goal.unchanged-requires-clause-len_in_bounds
unchanged-requires-clause-len_in_bounds c = (prepared-fits c.requires).0

pub unchanged-requires-clause-len_le_max_pixels : goal.unchanged-requires-clause-len_le_max_pixels
unchanged-requires-clause-len_le_max_pixels c = (prepared-fits c.requires).1

pub returns-then-iterations-eq0 : goal.returns-then-iterations-eq0
returns-then-iterations-eq0 c =
    erode-none c.requires c.if-iterations-eq0.true c.unchanged.ensures.report c.unchanged.ensures.zeros

pub first_layer-first-requires : goal.first_layer-first-requires
first_layer-first-requires c = rw c.changing-rule.ensures (erode-first c.requires)

pub layers-grown-requires : goal.layers-grown-requires
layers-grown-requires c =
    let peeled = rw c.changing-rule.ensures at c.first_layer-first.ensures in
    rw c.changing-rule.ensures (erode-further c.requires peeled)

pub gather-kept-requires : goal.gather-kept-requires
gather-kept-requires c =
    let peeled = rw c.changing-rule.ensures at c.first_layer-first.ensures in
    erode-last c.requires peeled (rw c.changing-rule.ensures at c.layers-grown.ensures)

pub overflow_cast-result : goal.overflow_cast-result
overflow_cast-result c =
    let peeled = rw c.changing-rule.ensures at c.first_layer-first.ensures in
    let grown = rw c.changing-rule.ensures at c.layers-grown.ensures in
    omega (arith, erode-fits c.requires peeled grown)

pub overflow_cast-result-2 : goal.overflow_cast-result-2
overflow_cast-result-2 c =
    let peeled = rw c.changing-rule.ensures at c.first_layer-first.ensures in
    let grown = rw c.changing-rule.ensures at c.layers-grown.ensures in
    let fits =
    kept-fits c.requires peeled grown (c.gather-kept.ensures.gathered, c.gather-kept.ensures.kept)
    c.clear_behind.ensures in
    omega (arith, fits)

pub returns : goal.returns
returns c =
    let peeled = rw c.changing-rule.ensures at c.first_layer-first.ensures in
    let grown = rw c.changing-rule.ensures at c.layers-grown.ensures in
    eroded c.requires peeled grown (c.gather-kept.ensures.gathered, c.gather-kept.ensures.kept) c.clear_behind.ensures
    (omega (arith, c.if-iterations-eq0.false)) c.count_used.ensures
