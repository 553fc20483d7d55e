-- `judge_labelling` meets its contract: the buffers are judged, and then the connectivity. Assumes nothing.
use borrow.Author.Rules.{rules}
use Rattle.model.specs.Refusals.{connectivity_check, label_refusal}
use Rattle.judging.proofs.JudgeLaws.{check-last, row-refused, row-accepted}
use Rattle.labelling.proofs.judge_labelling.Goals as goal

pub returns-in_err-judge_maps : goal.returns-in_err-judge_maps
unfolding label_refusal
returns-in_err-judge_maps c =
    row-refused _ _ c.judge_maps.ensures c.in_err-judge_maps.was (search rules)

pub returns : goal.returns
unfolding label_refusal connectivity_check
returns c =
    row-accepted _ _ c.judge_maps.ensures c.in_ok-judge_maps.was
    (check-last _ _ (rw (← c.bad_connectivity.ensures) c.refuse_if.ensures))
