-- `step` meets its contract. The loop's invariant: the first `k` columns are done, and the entries are words. Assumes
-- nothing.
use Rattle.neighbours.specs.Words.{word_bits}
use Rattle.neighbours.proofs.PackedLaws.{Units}
use Rattle.words.proofs.FramedLaws.{SteppedColumns, MovedColumns}
use Rattle.words.proofs.inner.step.Given as goal

abbrev pub invariant-loop-k : goal.invariant-loop-k
invariant-loop-k l = record {
  before : Units word_bits l.initial.entries;
  after : Units word_bits l.entries;
  stepped : SteppedColumns l.frame l.levels l.rows l.k l.initial.entries l.entries;
  told : MovedColumns l.rows l.k l.initial.entries l.entries l.moved;
}
