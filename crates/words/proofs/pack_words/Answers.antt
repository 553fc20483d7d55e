-- `pack_words` meets its contract: it asks the table's rows in turn and packs. Assumes nothing.
use borrow.Author.Rules.{rules}
use Rattle.judging.proofs.JudgeLaws.{verdict-refused, verdict-accepted}
use Rattle.words.proofs.EntryLaws.{pack-refused, pack-done}
use Rattle.words.proofs.EntryLaws.{pack_refusal-passes}
use Rattle.words.proofs.pack_words.Goals as goal

pub returns-in_err-judge_packing : goal.returns-in_err-judge_packing
returns-in_err-judge_packing c =
    pack-refused _ _ _ _ (verdict-refused c.judge_packing.ensures c.in_err-judge_packing.was) (search rules)

pub returns : goal.returns
returns c = pack-done _ _ _ _ (verdict-accepted c.judge_packing.ensures c.in_ok-judge_packing.was) c.pack_words.ensures

pub pack_words-requires : goal.pack_words-requires
pack_words-requires c =
    let pass = pack_refusal-passes _ _ _ _ (verdict-accepted c.judge_packing.ensures c.in_ok-judge_packing.was) in
    record { packable = pass.0; words_len = pass.1 }
