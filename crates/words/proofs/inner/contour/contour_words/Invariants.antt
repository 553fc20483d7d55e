-- `contour::contour_words` meets its contract. The loop's invariant: the first `k` columns are written. Assumes
-- nothing.
use Rattle.words.proofs.ContourLaws.{ContourColumns}
use Rattle.words.proofs.inner.contour.contour_words.Given as goal

abbrev pub invariant-loop-k : goal.invariant-loop-k
invariant-loop-k l = ContourColumns l.frame l.entries l.rows l.k l.initial.contour l.contour
