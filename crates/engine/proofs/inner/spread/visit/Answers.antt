-- `visit` meets its contract: each exit is one of the laws for a place outside, a pixel outside the mask, a full
-- queue, and a pixel that is changed if it holds the old value. Assumes nothing.
use mathlib.Core.Path.{◌≡◌, refl, sym, ◌∙◌}
use mathlib.Core.Bool.{Bool, true, false, cond}
use mathlib.Core.Logic.{◌⊎◌, inl, inr}
use native.Mathlib.Omega.{arith}
use lib.Dec.{eqb}
use lib.ListN.{length, get_or}
use mir.Val.{bool_byte}
use borrow.Author.Tests.{eq-eqb, ne_eqb}
use Rattle.std.proofs.lemmas.Grind.{common_steps}
use Rattle.lists.specs.Lists.{bit}
use Rattle.lists.proofs.BoolLaws.{cond-true, cond-false}
use Rattle.neighbours.proofs.AroundLaws.{inside-at, inside-outside}
use Rattle.engine.proofs.SpreadLaws.{is_open-masked, visited-none, visited-skip, visited-full, visited-one}
use Rattle.engine.proofs.inner.spread.visit.Goals as goal
use Rattle.engine.proofs.inner.spread.visit.Goals.{else-not-is_empty-via-then-not-is_empty+else-mask-at}
use Rattle.engine.proofs.inner.spread.visit.Goals.{else-not-is_empty-via-else-not-is_empty}
use Rattle.engine.proofs.inner.spread.visit.Goals.{then-changes, else-changes}

-- a test counts 1 or 0
counted : (b : Bool) → bool_byte b ≡ bit b
counted true = refl
counted false = refl

pub returns-in_default : goal.returns-in_default
returns-in_default c = rw (c.in_default.is, inside-outside) (visited-none _ _ _ _ _)

pub returns-then-mask-at : goal.returns-then-mask-at
returns-then-mask-at c =
    rw (c.in-Some.is, inside-at)
    (visited-skip _ _ _ _ _ _ (is_open-masked _ _ _ _ (grind (arith, common_steps)) c.if-mask-at.true))

pub returns-then-queue-end : goal.returns-then-queue-end
returns-then-queue-end c =
    rw (c.in-Some.is, inside-at)
    (visited-full _ _ c.requires.room (c.requires.by_index _ c.in-Some.is) c.if-queue-end.true)

pub returns : goal.returns
returns c =
    let a = c.args in
    let allowed : (length a.mask.now ≡ 0) ⊎ (get_or a.mask.now c.in-Some.at 0 ≡ a.rule.allowed) =
    elim c.else-not-is_empty.branch [
      | else-not-is_empty-via-then-not-is_empty+else-mask-at w ↦ inr w.if-mask-at.false
      | else-not-is_empty-via-else-not-is_empty w ↦ inl (grind (arith, common_steps))
    ] in
    let pixel = get_or a.image.now c.in-Some.at 0 in
    let replaced : c.if-changes.image ≡ cond (eqb pixel a.rule.old) a.rule.new pixel =
    elim c.if-changes.branch [
      | then-changes w ↦ w.image-is ∙ sym (cond-true _ _ (eq-eqb _ _ w.if-changes.true))
      | else-changes w ↦ w.image-is ∙ sym (cond-false _ _ (ne_eqb _ _ w.if-changes.false))
    ] in
    rw (c.in-Some.is, inside-at)
    (visited-one _ _ c.requires.room.fits.differs _ _ _ _ (c.requires.by_index _ c.in-Some.is) c.if-queue-end.false
    allowed replaced c.put_queued.ensures (c.from.ensures ∙ counted _))
