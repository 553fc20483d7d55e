-- The loop of `paint`: the pixels at the first entries are painted. Assumes nothing.
use lib.ListN.{take}
use Rattle.engine.specs.Leaves.{Painted}
use Rattle.engine.proofs.inner.image.paint.Given as goal

abbrev pub invariant-loop-at : goal.invariant-loop-at
invariant-loop-at l = Painted l.initial.image (take l.at-index l.at-items) l.value l.image
