-- `judge_widening` meets its contract: the lengths judged are those of the two maps. Assumes nothing.
use mathlib.Core.Path.{◌∙◌}
use mathlib.Core.Bool.{or_assoc, or_self, or-false}
use Rattle.lists.specs.Lists.{any}
use Rattle.model.specs.Refusals.{wrong_length}
use Rattle.model.specs.Widening.{widen_refusal}
use Rattle.judging.specs.Lengths.{size_checks}
use Rattle.judging.proofs.judge_widening.Goals as goal

pub returns : goal.returns
unfolding widen_refusal size_checks any wrong_length
returns c = c.judge_sizes.ensures ∙ simp (or_assoc, or_self, or-false)
