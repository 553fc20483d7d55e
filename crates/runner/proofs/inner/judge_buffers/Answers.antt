-- `judge_buffers` meets its contract: two checks. Assumes nothing.
use mathlib.Core.Path.{◌≡◌, ap, ◌∙◌}
use mathlib.Core.Bool.{◌||◌, not, false}
use native.Mathlib.Omega.{arith}
use borrow.Author.Rules.{rules}
use lib.Dec.{eqb}
use lib.ListN.{length}
use Rattle.lists.specs.Lists.{any}
use Rattle.model.specs.Refusals.{refuse_if, wrong_length}
use Rattle.model.specs.Run.{run_refusal}
use Rattle.model.specs.declared.Refusal.TheVariants.{BadLength}
use Rattle.judging.proofs.JudgeLaws.{check-last, check-refused, check-accepted}
use Rattle.runner.proofs.inner.judge_buffers.Goals as goal

pub returns-in_err-refuse_if : goal.returns-in_err-refuse_if
unfolding run_refusal any wrong_length
returns-in_err-refuse_if c =
    let a = c.args in
    let differs : c.if-image-pixels.refuse_if
    ≡ (not (eqb (length a.image.now) a.pixels) || (not (eqb (length a.mask.now) a.pixels) || false)) =
    grind arith in
    check-refused _ _ (c.refuse_if.ensures ∙ ap (λ (t : _). refuse_if t BadLength) differs) c.in_err-refuse_if.was
    (search rules)

pub returns : goal.returns
unfolding run_refusal any wrong_length
returns c =
    let a = c.args in
    let differs : c.if-image-pixels.refuse_if
    ≡ (not (eqb (length a.image.now) a.pixels) || (not (eqb (length a.mask.now) a.pixels) || false)) =
    grind arith in
    check-accepted _ _ (c.refuse_if.ensures ∙ ap (λ (t : _). refuse_if t BadLength) differs) c.in_ok-refuse_if.was
    (check-last _ _ c.refuse_if-2.ensures)
