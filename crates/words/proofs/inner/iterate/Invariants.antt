-- `iterate` meets its contract. The loop's invariant: `used` iterations are done, each of which changed something.
-- Assumes nothing.
use Rattle.words.proofs.RunLaws.{Progress}
use Rattle.words.proofs.inner.iterate.Given as goal

abbrev pub invariant-loop-used : goal.invariant-loop-used
invariant-loop-used l = Progress l.frame l.used l.initial.entries l.entries
