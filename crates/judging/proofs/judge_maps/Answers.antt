-- `judge_maps` meets its contract: it judges the lengths and then the pixels. Assumes nothing.
use Prim.Native.Nat.{ℕ}
use mathlib.Core.Bool.{or-false, or_assoc}
use mathlib.Core.List.{List, [], ◌∷◌}
use lib.ListN.{length}
use borrow.Author.Rules.{rules}
use Rattle.lists.specs.Lists.{any}
use Rattle.model.specs.Refusals.{wrong_length}
use Rattle.judging.proofs.JudgeLaws.{check-last, row-refused, row-accepted, SameLengths, buffer_checks-lengths}
use Rattle.judging.proofs.judge_maps.Goals as goal

-- the lengths judged are those of the buffers
lengths : (needed : ℕ) (image components holes : List ℕ) →
    SameLengths needed (image ∷ components ∷ holes ∷ []) (length image) (length components) (length holes)
unfolding any wrong_length
lengths needed image components holes = simp (or_assoc, or-false)

pub returns-in_err-judge_lengths : goal.returns-in_err-judge_lengths
returns-in_err-judge_lengths c =
    buffer_checks-lengths _ _ _ _ _ _ _ _ (lengths _ _ _ _)
    (row-refused _ _ c.judge_lengths.ensures c.in_err-judge_lengths.was (search rules))

pub returns : goal.returns
unfolding any
returns c =
    buffer_checks-lengths _ _ _ _ _ _ _ _ (lengths _ _ _ _)
    (row-accepted _ _ c.judge_lengths.ensures c.in_ok-judge_lengths.was
    (check-last _ _ (rw (or-false, ← c.has_bad_pixel.ensures) c.refuse_if.ensures)))
