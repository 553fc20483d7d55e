-- `iterate` meets its contract. The loop's invariant: `used` iterations are done, each of which changed
-- something, and the set has the rows that the next one changes. Assumes nothing.
use mathlib.Core.Path.{◌≡◌}
use lib.ListN.{length}
use Rattle.neighbours.specs.Words.{word_bits}
use Rattle.neighbours.proofs.PackedLaws.{Units}
use Rattle.propagation.specs.RowSet.{set_words}
use Rattle.propagation.proofs.PropagationLaws.{Progress, Settled}
use Rattle.propagation.proofs.inner.iterate.Given as goal

abbrev pub invariant-loop-used : goal.invariant-loop-used
invariant-loop-used l =
    (length l.set ≡ set_words)
    × Units word_bits l.words
    × Progress l.frame l.used l.mask l.initial.words l.words
    × Settled l.frame l.used l.mask l.initial.words l.set
