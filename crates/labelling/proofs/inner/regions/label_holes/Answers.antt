-- `label_holes` meets its contract: where the roots of the background outside are flagged, a forest of the regions
-- guides the search to the holes. Assumes nothing.
use Prim.Native.Nat.{ℕ}
use mathlib.Core.Path.{ap, ◌∙◌}
use lib.ListN.{replicate}
use Rattle.union_find.proofs.CompleteLaws.{regions-same}
use Rattle.labelling.proofs.GuidedLaws.{guided-holes}
use Rattle.labelling.proofs.inner.regions.label_holes.Goals as goal

pub returns-clause-labelled : goal.returns-clause-labelled
returns-clause-labelled c =
    let pre = c.requires in
    let flags = c.flag_outside.ensures in
    let zeros = c.clear.ensures ∙ ap (λ (n : ℕ). replicate n 0) pre.size in
    c.label_all.ensures.labelled _ (guided-holes pre.known pre.regions flags.same (rw zeros at flags.flagged))

pub returns-clause-regions : goal.returns-clause-regions
returns-clause-regions c = regions-same c.requires.regions c.flag_outside.ensures.same
