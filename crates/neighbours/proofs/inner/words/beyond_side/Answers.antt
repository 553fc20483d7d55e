-- `beyond_side` meets its contract: a word of ones or of zeros. Assumes nothing.
use Rattle.neighbours.proofs.WordLaws.{flat-full, flat-zero}
use Rattle.neighbours.proofs.inner.words.beyond_side.Goals as goal

pub returns-then-has_side : goal.returns-then-has_side
returns-then-has_side c = rw (← c.has_side.ensures, c.if-has_side.true) flat-full

pub returns-else-has_side : goal.returns-else-has_side
returns-else-has_side c = rw (← c.has_side.ensures, c.if-has_side.false) flat-zero

pub has_side-requires : goal.has_side-requires
has_side-requires c = c.requires
