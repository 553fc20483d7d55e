-- `judge_sizes` meets its contract: two checks. Where the first passes, the pixels are a small number. Assumes nothing.
use mathlib.Core.Path.{◌≡◌, sym, ap, ◌∙◌}
use mathlib.Core.Bool.{◌||◌, not}
use native.Mathlib.Omega.{arith}
use borrow.Author.Rules.{rules}
use Prim.Native.Nat.{◌*◌}
use lib.Dec.{eqb}
use Rattle.model.specs.Refusals.{refuse_if}
use Rattle.model.specs.declared.Refusal.TheVariants.{BadLength}
use Rattle.judging.specs.Lengths.{size_checks}
use Rattle.judging.proofs.JudgeLaws.{check-last, check-refused, check-accepted, check_passed, size-good}
use Rattle.judging.proofs.judge_sizes.Goals as goal

pub returns-in_err-refuse_if : goal.returns-in_err-refuse_if
unfolding size_checks
returns-in_err-refuse_if c =
    check-refused _ _ (rw (← c.bad_size.ensures) c.refuse_if.ensures) c.in_err-refuse_if.was (search rules)

pub overflow_mul-pixels : goal.overflow_mul-pixels
overflow_mul-pixels c =
    omega (
      arith,
      size-good _ _ (sym c.bad_size.ensures ∙ check_passed _ _ c.refuse_if.ensures c.in_ok-refuse_if.was),
    )

pub returns : goal.returns
unfolding size_checks
returns c =
    let needed = c.args.width * c.args.height in
    let differs : c.if-second-pixels.refuse_if
    ≡ (not (eqb c.args.first needed) || not (eqb c.args.second needed) || not (eqb c.args.third needed)) =
    grind arith in
    check-accepted _ _ (rw (← c.bad_size.ensures) c.refuse_if.ensures) c.in_ok-refuse_if.was
    (check-last _ _ (c.refuse_if-2.ensures ∙ ap (λ (t : _). refuse_if t BadLength) differs))
