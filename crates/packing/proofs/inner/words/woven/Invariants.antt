-- `woven` meets its contract. The loop's invariant: the pixels from group `g` on are woven into the word. Assumes
-- nothing.
use Rattle.packing.proofs.WeaveLaws.{Woven}
use Rattle.packing.proofs.inner.words.woven.Given as goal

abbrev pub invariant-loop-g : goal.invariant-loop-g
invariant-loop-g l = Woven l.image l.at l.count l.g l.word
