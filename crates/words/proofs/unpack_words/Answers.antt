-- `unpack_words` meets its contract: it asks the table's rows in turn and unpacks. Assumes nothing.
use borrow.Author.Rules.{rules}
use Rattle.judging.proofs.JudgeLaws.{verdict-refused, verdict-accepted}
use Rattle.words.proofs.EntryLaws.{unpack-refused, unpack-done}
use Rattle.words.proofs.EntryLaws.{unpack_refusal-passes}
use Rattle.words.proofs.unpack_words.Goals as goal

pub returns-in_err-judge_unpacking : goal.returns-in_err-judge_unpacking
returns-in_err-judge_unpacking c =
    unpack-refused _ _ _ _ (verdict-refused c.judge_unpacking.ensures c.in_err-judge_unpacking.was) (search rules)

pub returns : goal.returns
returns c =
    unpack-done _ _ _ _ (verdict-accepted c.judge_unpacking.ensures c.in_ok-judge_unpacking.was)
    c.unpack_words.ensures

pub unpack_words-requires : goal.unpack_words-requires
unpack_words-requires c =
    let pass = unpack_refusal-passes _ _ _ _ (verdict-accepted c.judge_unpacking.ensures c.in_ok-judge_unpacking.was) in
    record { sized = record { valid = pass.0; pixels = pass.1 }; words_len = pass.2 }
