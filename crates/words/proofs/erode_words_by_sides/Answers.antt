-- `erode_words_by_sides` meets its contract: it asks the table's rows in turn and does the operation. Assumes nothing.
use borrow.Author.Rules.{rules}
use Rattle.judging.proofs.JudgeLaws.{verdict-refused, verdict-accepted}
use Rattle.words.proofs.EntryLaws.{words_refusal-passes, words-refused, words-done}
use Rattle.words.proofs.erode_words_by_sides.Goals as goal

pub returns-in_err-judge_words : goal.returns-in_err-judge_words
returns-in_err-judge_words c =
    words-refused _ _ _ _ (verdict-refused c.judge_words.ensures c.in_err-judge_words.was) (search rules)

pub erosion-run-requires : goal.erosion-run-requires
erosion-run-requires c =
    let pass = words_refusal-passes _ _ _ _ (verdict-accepted c.judge_words.ensures c.in_ok-judge_words.was) in
    pass.1.0

pub operate-requires : goal.operate-requires
operate-requires c =
    let pass = words_refusal-passes _ _ _ _ (verdict-accepted c.judge_words.ensures c.in_ok-judge_words.was) in
    pass.0

pub returns : goal.returns
returns c =
    words-done _ _ _ _ (verdict-accepted c.judge_words.ensures c.in_ok-judge_words.was)
    (rw c.erosion-run.ensures at c.operate.ensures)
