-- `is_background` meets its contract: the four groups are clear exactly if their numbers put together are 0. Assumes
-- nothing.
use native.Mathlib.Omega.{arith}
use Rattle.packing.proofs.BandLaws.{clear-four}
use Rattle.packing.proofs.inner.band.is_background.Goals as goal

pub returns : goal.returns
returns c =
    let both = clear-four c.args.look.now 0 _ _ _ _
    c.eight_pixels.ensures
    c.eight_pixels-2.ensures
    c.eight_pixels-3.ensures
    c.eight_pixels-4.ensures in
    (λ e i l. both.0 e i (omega arith) (omega arith), λ clear. both.1 (λ i from to. clear i (omega arith)))
