-- `visit_strip` meets its contract: the strip's positions are visited one by one. Assumes nothing.
use mathlib.Core.Path.{◌≡◌}
use native.Mathlib.Omega.{arith}
use Rattle.neighbours.proofs.AroundLaws.{inside-at}
use Rattle.neighbours.proofs.BorderLaws.{strip_positions-tabulate}
use Rattle.engine.proofs.VisitLaws.{visited-tabulate-none, visited-tabulate-suc}
use Rattle.engine.proofs.inner.image.visit_strip.Goals as goal

pub loop-i-init : goal.loop-i-init
loop-i-init c = visited-tabulate-none _ _ _ _ _ _

pub loop-i-preserved : goal.loop-i-preserved
loop-i-preserved c =
    visited-tabulate-suc _ _ _ _ c.loop-i.invariant c.requires.room.fits.differs (rw inside-at at c.visit-tail.ensures)

pub returns : goal.returns
returns c =
    let e : c.loop-i.i ≡ c.args.strip.count = omega arith in
    rw strip_positions-tabulate (rw e at c.loop-i.invariant)
