-- `all_bits` meets its contract: a word of ones. Assumes nothing.
use Rattle.neighbours.proofs.WordLaws.{flat-full}
use Rattle.words.proofs.inner.all_bits.Goals as goal

pub returns-then-set : goal.returns-then-set
returns-then-set c = rw c.if-set.true flat-full
