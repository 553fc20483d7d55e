-- `duhzarek_unpack_words` meets its contract: it is `words::unpack_words`, with the verdict as a number. Assumes
-- nothing.
use Rattle.model.specs.Answers.{repacked_to}
use Rattle.exports.proofs.duhzarek_unpack_words.Goals as goal

pub returns : goal.returns
unfolding repacked_to
returns c = rw c.verdict_number.ensures c.unpack_words-verdict.ensures
