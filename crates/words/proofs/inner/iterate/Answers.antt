-- `iterate` meets its contract: by an iteration that changes something, by one that changes nothing, and where as many
-- were done as asked. Assumes nothing.
use mathlib.Core.Path.{◌≡◌, refl}
use native.Mathlib.Omega.{arith}
use Rattle.words.proofs.RunLaws.{progress-none, progress-more, progress-stop, progress-end}
use Rattle.words.proofs.inner.iterate.Goals as goal

pub loop-used-init : goal.loop-used-init
loop-used-init c = progress-none _ _

pub returns-then-step-eq0 : goal.returns-then-step-eq0
returns-then-step-eq0 c =
    progress-stop c.loop-used.invariant c.step.ensures _ c.loop-used-test.true c.if-step-eq0.true

pub loop-used-preserved : goal.loop-used-preserved
loop-used-preserved c = progress-more c.loop-used.invariant c.step.ensures c.if-step-eq0.false

pub returns : goal.returns
returns c =
    let all : c.loop-used.used ≡ c.args.iterations = omega arith in
    progress-end _ (rw all at c.loop-used.invariant) refl
