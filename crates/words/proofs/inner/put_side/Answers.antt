-- `put_side` meets its contract: the stretch is filled. Assumes nothing.
use Rattle.words.proofs.WrittenLaws.{written_filled}
use Rattle.words.proofs.inner.put_side.Goals as goal

pub returns : goal.returns
returns c = written_filled c.requires.within (c.fill.ensures.after (λ y e. e))
