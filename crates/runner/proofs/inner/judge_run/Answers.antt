-- `judge_run` meets its contract: the checks of the list, of the buffers' lengths and of the pixels stand one
-- behind another in `steps_refusal`. Assumes nothing.
use Prim.Native.Nat.{◌*◌}
use mathlib.Core.Path.{◌≡◌, ap, ◌∙◌}
use mathlib.Core.Bool.{◌||◌, false}
use mathlib.Core.List.{[], ◌∷◌}
use native.Mathlib.Omega.{arith}
use borrow.Author.Rules.{rules}
use Rattle.lists.specs.Lists.{any}
use Rattle.neighbours.proofs.PositionLaws.{size-le}
use Rattle.model.specs.Refusals.{refuse_if, bad_pixel, length_check, queue_check}
use Rattle.model.specs.Run.{steps_refusal, run_refusal}
use Rattle.model.specs.declared.Refusal.TheVariants.{BadPixel}
use Rattle.theorems.proofs.StepListLaws.{list_checks-none}
use Rattle.judging.proofs.JudgeLaws.{verdict-accepted, check-last, row-refused, row-accepted}
use Rattle.runner.proofs.inner.judge_run.Goals as goal

pub returns-in_err-judge_list : goal.returns-in_err-judge_list
unfolding steps_refusal
returns-in_err-judge_list c = row-refused _ _ c.judge_list.ensures c.in_err-judge_list.was (search rules)

pub overflow_mul-width : goal.overflow_mul-width
overflow_mul-width c =
    omega (arith, size-le (list_checks-none _ _ _ (verdict-accepted c.judge_list.ensures c.in_ok-judge_list.was)).0)

pub returns-in_err-judge_buffers : goal.returns-in_err-judge_buffers
unfolding steps_refusal run_refusal
returns-in_err-judge_buffers c =
    let a = c.args in
    let lent = length_check (a.width * a.height) (a.image.now ∷ a.mask.now ∷ [])
    ∷ queue_check (a.width * a.height) a.queue.now ∷ [] in
    row-accepted _ _ c.judge_list.ensures c.in_ok-judge_list.was
    (row-refused lent _ c.judge_buffers.ensures c.in_err-judge_buffers.was (search rules))

pub returns : goal.returns
unfolding steps_refusal run_refusal any
returns c =
    let a = c.args in
    let lent = length_check (a.width * a.height) (a.image.now ∷ a.mask.now ∷ [])
    ∷ queue_check (a.width * a.height) a.queue.now ∷ [] in
    let bad : c.if-has_bad_pixel.refuse_if
    ≡ (any bad_pixel a.image.now || (any bad_pixel a.mask.now || false)) =
    grind arith in
    row-accepted _ _ c.judge_list.ensures c.in_ok-judge_list.was
    (row-accepted lent _ c.judge_buffers.ensures c.in_ok-judge_buffers.was
    (check-last _ _ (c.refuse_if.ensures ∙ ap (λ (t : _). refuse_if t BadPixel) bad)))
