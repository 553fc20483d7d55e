-- `judge_words` meets its contract: the rows are judged, and then the step. Assumes nothing.
use borrow.Author.Rules.{rules}
use Rattle.model.specs.Words.{words_refusal}
use Rattle.judging.proofs.JudgeLaws.{row-refused, row-accepted}
use Rattle.words.proofs.judge_words.Goals as goal

pub returns-in_err-judge_rows : goal.returns-in_err-judge_rows
unfolding words_refusal
returns-in_err-judge_rows c = row-refused _ _ c.judge_rows.ensures c.in_err-judge_rows.was (search rules)

pub returns : goal.returns
unfolding words_refusal
returns c = row-accepted _ _ c.judge_rows.ensures c.in_ok-judge_rows.was c.judge_step.ensures
