-- `judge_masked` meets its contract: it judges the lengths and then the pixels. Assumes nothing.
use Prim.Native.Nat.{ℕ}
use mathlib.Core.Path.{◌≡◌, sym, ap, ◌∙◌}
use mathlib.Core.Bool.{◌||◌, or-false, or_comm, or_self_left}
use mathlib.Core.List.{List, [], ◌∷◌}
use lib.ListN.{length}
use native.Mathlib.Omega.{arith}
use borrow.Author.Rules.{rules}
use Rattle.lists.specs.Lists.{any}
use Rattle.model.specs.Refusals.{wrong_length, bad_pixel, refuse_if}
use Rattle.model.specs.declared.Refusal.TheVariants.{BadPixel}
use Rattle.judging.proofs.JudgeLaws.{check-last, row-refused, row-accepted, SameLengths, buffer_checks-lengths}
use Rattle.judging.proofs.judge_masked.Goals as goal

-- the lengths judged are those of the buffers
lengths : (needed : ℕ) (image mask : List ℕ) →
    SameLengths needed (image ∷ mask ∷ []) (length image) (length mask) (length image)
unfolding any wrong_length
lengths needed image mask =
    let wrong = wrong_length needed in
    simp or-false (sym (or_comm (wrong image || wrong mask) (wrong image) ∙ or_self_left (wrong image) (wrong mask)))

pub returns-in_err-judge_lengths : goal.returns-in_err-judge_lengths
returns-in_err-judge_lengths c =
    buffer_checks-lengths _ _ _ _ _ _ _ _ (lengths _ _ _)
    (row-refused _ _ c.judge_lengths.ensures c.in_err-judge_lengths.was (search rules))

pub returns : goal.returns
unfolding any
returns c =
    let bad : c.if-has_bad_pixel.refuse_if ≡ (any bad_pixel c.args.image.now || any bad_pixel c.args.mask.now) =
    grind arith in
    buffer_checks-lengths _ _ _ _ _ _ _ _ (lengths _ _ _)
    (row-accepted _ _ c.judge_lengths.ensures c.in_ok-judge_lengths.was
    (check-last _ _ (rw or-false (c.refuse_if.ensures ∙ ap (λ (t : _). refuse_if t BadPixel) bad))))
