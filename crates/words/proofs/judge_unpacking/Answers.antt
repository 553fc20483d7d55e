-- `judge_unpacking` meets its contract: the lengths are judged, and then the unused bits. Assumes nothing.
use borrow.Author.Rules.{rules}
use Rattle.model.specs.Words.{unpack_refusal}
use Rattle.judging.proofs.JudgeLaws.{check-last, row-refused, row-accepted}
use Rattle.words.proofs.EntryLaws.{repack_checks-passes}
use Rattle.judging.proofs.JudgeLaws.{verdict-accepted}
use Rattle.words.proofs.judge_unpacking.Goals as goal

pub returns-in_err-judge_repacking : goal.returns-in_err-judge_repacking
unfolding unpack_refusal
returns-in_err-judge_repacking c =
    row-refused _ _ c.judge_repacking.ensures c.in_err-judge_repacking.was (search rules)

pub returns : goal.returns
unfolding unpack_refusal
returns c =
    row-accepted _ _ c.judge_repacking.ensures c.in_ok-judge_repacking.was
    (check-last _ _ (rw (← c.unused_set.ensures) c.refuse_if.ensures))

pub unused_set-requires : goal.unused_set-requires
unused_set-requires c =
    let pass = repack_checks-passes _ _ _ _ (verdict-accepted c.judge_repacking.ensures c.in_ok-judge_repacking.was) in
    record { valid_size = pass.0; words_len = pass.2 }
