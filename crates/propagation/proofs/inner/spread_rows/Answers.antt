-- `spread_rows` meets its contract: the first iterations on words, and where they are not all, the others behind the
-- hand-over. Assumes nothing.
use native.Mathlib.Omega.{arith}
use Rattle.neighbours.specs.Words.{word_bits}
use Rattle.neighbours.proofs.PackedLaws.{units-front}
use Rattle.propagation.proofs.BeginLaws.{counted-le}
use Rattle.propagation.proofs.HandOverLaws.{handing-rows}
use Rattle.propagation.proofs.PropagateLaws.{spread-ended, spread-further}
use Rattle.propagation.proofs.inner.spread_rows.Goals as goal

pub begin-begun-requires-clause-propagatable : goal.begin-begun-requires-clause-propagatable
begin-begun-requires-clause-propagatable c = handing-rows c.requires.handing c.words_length-n.ensures

-- the first iterations are all
pub returns-then-begun : goal.returns-then-begun
returns-then-begun c =
    let begun = c.begin-begun.ensures in
    spread-ended c.requires.handing c.words_length-n.ensures begun.clean begun.began c.if-begun.true
    (units-front word_bits _ _ (λ i. (c.type_inv.rows i).fits))

pub overflow_add-result : goal.overflow_add-result
overflow_add-result c =
    omega (arith, c.begin-begun.ensures.began.within, counted-le _ _ c.hand_over-further.ensures.counted)

-- the others follow
pub returns : goal.returns
returns c =
    let begun = c.begin-begun.ensures in
    spread-further c.requires.handing c.words_length-n.ensures begun.clean begun.began _ c.hand_over-further.ensures
