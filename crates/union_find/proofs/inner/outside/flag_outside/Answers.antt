-- `flag_outside` meets its contract: no strip, one more, and all four. Assumes nothing.
use mathlib.Core.Path.{◌≡◌}
use native.Mathlib.Omega.{arith}
use native.Mathlib.Numerals.{add-one}
use Rattle.neighbours.proofs.BorderLaws.{first_strips-zero, first_strips-suc, border_strip-lt, border_positions-strips}
use Rattle.union_find.proofs.RootFlagLaws.{list_flagged-none, list_flagged-append, list_flagged-border}
use Rattle.union_find.proofs.inner.outside.flag_outside.Goals as goal

pub loop-k-init : goal.loop-k-init
loop-k-init c = rw first_strips-zero (list_flagged-none c.requires.forest)

pub flag_strip-requires-clause-by_index : goal.flag_strip-requires-clause-by_index
flag_strip-requires-clause-by_index c =
    rw c.border_strip-strip.ensures (border_strip-lt _ _ c.requires.sized.valid _)

pub loop-k-preserved : goal.loop-k-preserved
loop-k-preserved c =
    let strip = c.flag_strip.ensures in
    rw (add-one, first_strips-suc, ← c.border_strip-strip.ensures)
    (list_flagged-append _ _ c.loop-k.invariant (strip.flagged, strip.same))

pub returns-clause-flagged : goal.returns-clause-flagged
returns-clause-flagged c =
    let a = c.args in
    let e : c.loop-k.k ≡ 4 = omega arith in
    list_flagged-border _ _ (rw (e, ← (border_positions-strips a.width a.height)) at c.loop-k.invariant)
