-- `duhzarek_widen_map` meets its contract: it is `labelling::widen_map`, with the verdict as a number. Assumes nothing.
use Rattle.model.specs.Answers.{widened_to}
use Rattle.exports.proofs.duhzarek_widen_map.Goals as goal

pub returns : goal.returns
unfolding widened_to
returns c = rw c.verdict_number.ensures c.widen_map-verdict.ensures
