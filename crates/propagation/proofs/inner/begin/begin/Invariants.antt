-- `begin` meets its contract. The loop's invariant: the rows are clean, and `used` iterations are done, each of which
-- changed something. Assumes nothing.
use Prim.Native.Nat.{◌-◌, ◌≤◌}
use Rattle.neighbours.specs.Limits.{max_pixels}
use Rattle.model.specs.Steps.{propagate_once}
use Rattle.model.specs.Words.{unpacked_words}
use Rattle.words.specs.Frame.{Clean}
use Rattle.propagation.specs.Propagation.{Began}
use Rattle.propagation.proofs.BeginLaws.{doing}
use Rattle.propagation.proofs.inner.begin.begin.Given as goal

abbrev pub invariant-loop-used : goal.invariant-loop-used
invariant-loop-used l =
    record {
      clean : Clean l.width l.height l.words;
      began : Began (propagate_once l.width l.height l.connectivity (unpacked_words l.width l.height l.mask))
          l.iterations (unpacked_words l.width l.height l.initial.words) (unpacked_words l.width l.height l.words)
          (doing l.used);
      few : l.before ≤ max_pixels;
    }

abbrev pub decreases-loop-used : goal.decreases-loop-used
decreases-loop-used l = l.iterations - l.used
