-- `judge_packing` meets its contract: the lengths are judged, and then the pixels. Assumes nothing.
use mathlib.Core.Bool.{or-false}
use borrow.Author.Rules.{rules}
use Rattle.lists.specs.Lists.{any}
use Rattle.model.specs.Words.{pack_refusal}
use Rattle.judging.proofs.JudgeLaws.{check-last, row-refused, row-accepted}
use Rattle.words.proofs.judge_packing.Goals as goal

pub returns-in_err-judge_repacking : goal.returns-in_err-judge_repacking
unfolding pack_refusal
returns-in_err-judge_repacking c =
    row-refused _ _ c.judge_repacking.ensures c.in_err-judge_repacking.was (search rules)

pub returns : goal.returns
unfolding pack_refusal any
returns c =
    row-accepted _ _ c.judge_repacking.ensures c.in_ok-judge_repacking.was
    (check-last _ _ (rw (or-false, ← c.has_bad_pixel.ensures) c.refuse_if.ensures))
