-- `label_components` meets its contract: where nothing is labelled yet, a forest of the regions guides the search to
-- the components. Assumes nothing.
use Prim.Native.Nat.{ℕ}
use mathlib.Core.Path.{ap, ◌∙◌}
use lib.ListN.{length, replicate, length-replicate}
use Rattle.labelling.proofs.GuidedLaws.{guided-components}
use Rattle.labelling.proofs.inner.regions.label_components.Goals as goal

pub label_all-requires : goal.label_all-requires
label_all-requires c =
    let pre = c.requires in
    let size = ap length c.clear.ensures ∙ length-replicate _ 0 ∙ pre.size in
    record {
      sized = record { valid = pre.ready.valid; pixels = pre.ready.binary.pixels };
      forest = pre.regions.forest;
      size = size;
    }

pub returns : goal.returns
returns c =
    let pre = c.requires in
    let zeros = c.clear.ensures ∙ ap (λ (n : ℕ). replicate n 0) pre.size in
    c.label_all.ensures.labelled _ (guided-components pre.known pre.regions zeros)
