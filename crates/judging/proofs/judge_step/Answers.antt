-- `judge_step` meets its contract: each kind's checks are judged by a function of its own. Assumes nothing.
use Rattle.model.specs.Refusals.{step_checks}
use Rattle.judging.proofs.JudgeLaws.{check-last}
use Rattle.judging.proofs.judge_step.Goals as goal

pub returns-in-Erode : goal.returns-in-Erode
unfolding step_checks
returns-in-Erode c = rw c.in-Erode.is c.judge_erode.ensures

pub returns-in-Dilate : goal.returns-in-Dilate
unfolding step_checks
returns-in-Dilate c = rw c.in-Dilate.is (check-last _ _ c.judge_connectivity.ensures)

pub returns-in-Propagate : goal.returns-in-Propagate
unfolding step_checks
returns-in-Propagate c = rw c.in-Propagate.is (check-last _ _ c.judge_connectivity-in-Propagate.ensures)

pub returns-in-ClearBorder : goal.returns-in-ClearBorder
unfolding step_checks
returns-in-ClearBorder c = rw c.in-ClearBorder.is (check-last _ _ c.judge_connectivity-in-ClearBorder.ensures)

pub returns-in-FloodFill : goal.returns-in-FloodFill
unfolding step_checks
returns-in-FloodFill c = rw c.in-FloodFill.is c.judge_flood_fill.ensures

pub returns-in-ErodeBySides : goal.returns-in-ErodeBySides
unfolding step_checks
returns-in-ErodeBySides c = rw c.in-ErodeBySides.is c.judge_erode-in-ErodeBySides.ensures
