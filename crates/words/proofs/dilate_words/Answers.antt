-- `dilate_words` meets its contract: it asks the table's rows in turn and does the operation. Assumes nothing.
use borrow.Author.Rules.{rules}
use Rattle.judging.proofs.JudgeLaws.{verdict-refused, verdict-accepted}
use Rattle.words.proofs.EntryLaws.{words_refusal-passes, words-refused, words-done}
use Rattle.words.proofs.dilate_words.Goals as goal

pub returns-in_err-judge_words : goal.returns-in_err-judge_words
returns-in_err-judge_words c =
    words-refused _ _ _ _ (verdict-refused c.judge_words.ensures c.in_err-judge_words.was) (search rules)

pub dilation-run-requires : goal.dilation-run-requires
dilation-run-requires c =
    let pass = words_refusal-passes _ _ _ _ (verdict-accepted c.judge_words.ensures c.in_ok-judge_words.was) in
    pass.1

pub operate-requires : goal.operate-requires
operate-requires c =
    let pass = words_refusal-passes _ _ _ _ (verdict-accepted c.judge_words.ensures c.in_ok-judge_words.was) in
    pass.0

pub returns : goal.returns
returns c =
    words-done _ _ _ _ (verdict-accepted c.judge_words.ensures c.in_ok-judge_words.was)
    (rw c.dilation-run.ensures at c.operate.ensures)
