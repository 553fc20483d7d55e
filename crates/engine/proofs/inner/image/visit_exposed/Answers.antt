-- `visit_exposed` meets its contract: the exposed strips are visited one by one. Assumes nothing.
use mathlib.Core.Path.{◌≡◌}
use native.Mathlib.Omega.{arith}
use Rattle.neighbours.proofs.BorderLaws.{exposed_positions-strips, exposed_strip-lt}
use Rattle.engine.proofs.VisitLaws.{visited-strips-none, visited-strips-suc}
use Rattle.engine.proofs.inner.image.visit_exposed.Goals as goal

pub loop-k-init : goal.loop-k-init
loop-k-init c = visited-strips-none _ _ _ _ _ _

pub visit_strip-tail-requires-clause-by_index : goal.visit_strip-tail-requires-clause-by_index
visit_strip-tail-requires-clause-by_index c =
    rw c.exposed_strip-strip.ensures (exposed_strip-lt _ _ c.requires.fits.valid _ _)

pub loop-k-preserved : goal.loop-k-preserved
loop-k-preserved c =
    visited-strips-suc _ _ _ _ c.loop-k.invariant c.requires.fits.differs
    (rw c.exposed_strip-strip.ensures at c.visit_strip-tail.ensures)

pub returns : goal.returns
returns c =
    let e : c.loop-k.k ≡ 4 = omega arith in
    rw exposed_positions-strips (rw e at c.loop-k.invariant)
