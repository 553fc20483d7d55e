-- `flag_strip` meets its contract: no pixel, one more, and all. Assumes nothing.
use mathlib.Core.Path.{◌≡◌, ◌∙◌}
use native.Mathlib.Omega.{arith}
use native.Mathlib.Numerals.{add-one}
use Rattle.lists.proofs.ListLaws.{tabulate-zero, tabulate-suc}
use Rattle.neighbours.proofs.BorderLaws.{strip_positions-tabulate}
use Rattle.union_find.proofs.RootFlagLaws.{list_flagged-none, list_flagged-one, list_flagged-append}
use Rattle.union_find.proofs.inner.outside.flag_strip.Goals as goal

pub loop-i-init : goal.loop-i-init
loop-i-init c = rw tabulate-zero (list_flagged-none c.requires.root_flags.forest)

pub loop-i-preserved : goal.loop-i-preserved
loop-i-preserved c =
    let listed = c.loop-i.invariant in
    let size = listed.0.size ∙ c.requires.root_flags.size in
    let forest = listed.1.forest in
    let flags = c.flag_root.ensures in
    let l = c.requires.by_index c.loop-i.i c.loop-i-test.true in
    rw (add-one, tabulate-suc)
    (list_flagged-append _ _ listed (list_flagged-one _ size l forest flags.flagged (flags.same _ l forest)))

pub returns-clause-flagged : goal.returns-clause-flagged
returns-clause-flagged c =
    let e : c.loop-i.i ≡ c.args.strip.count = omega arith in
    rw strip_positions-tabulate (rw e at c.loop-i.invariant).0
