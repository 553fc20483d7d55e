-- The loop of `visit_strip`: the strip's first `i` positions are visited. Assumes nothing.
use Prim.Native.Nat.{◌+◌, ◌*◌}
use mathlib.Core.List.{[]}
use Rattle.lists.specs.Lists.{tabulate}
use Rattle.engine.specs.Spread.{Visited}
use Rattle.engine.proofs.inner.image.visit_strip.Given as goal

abbrev pub invariant-loop-i : goal.invariant-loop-i
invariant-loop-i l =
    Visited l.rule [] l.initial.image l.initial.queue l.end (tabulate l.i (λ i. l.strip.from + i * l.strip.step))
    l.image l.queue l.tail
