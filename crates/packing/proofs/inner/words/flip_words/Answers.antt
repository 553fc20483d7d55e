-- `flip_words` meets its contract: a word more is flipped. Assumes nothing.
use Rattle.std.proofs.Common.{arith}
use Rattle.std.proofs.lemmas.Grind.{common_steps}
use Rattle.std.proofs.lemmas.List.Edits.{map_over_more}
use Rattle.packing.specs.Groups.{flipped}
use Rattle.packing.proofs.inner.words.flip_words.Goals as goal

pub loop-word-preserved : goal.loop-word-preserved
loop-word-preserved c = grind (arith, common_steps, map_over_more flipped)
