-- `parent_of` meets its contract: each of its three answers is a case of the choice. Assumes nothing.
use Prim.Native.Nat.{ℕ}
use mathlib.Core.Path.{◌≡◌, sym, ◌∙◌}
use mathlib.Core.Bool.{cond, ◌||◌}
use lib.Dec.{eqb}
use borrow.Author.Tests.{eq-eqb, ne_eqb}
use Rattle.lists.proofs.BoolLaws.{cond-true, cond-false, or_left, or_right, or-false-both}
use Rattle.component_records.proofs.inner.parent_of.Goals as goal

-- a column that is not the first, and a hole to the left
held : (x hole other : ℕ) → (x ≡ 0 → ⊥) → (hole ≡ 0 → ⊥) → other ≡ cond (eqb x 0 || eqb hole 0) 0 other
held x hole other right some =
    sym (cond-false _ _ (or-false-both (eqb x 0) (eqb hole 0) (ne_eqb x 0 right) (ne_eqb hole 0 some)))

pub returns-then-x-eq0 : goal.returns-then-x-eq0
returns-then-x-eq0 c = sym (cond-true _ _ (or_left _ _ (eq-eqb _ 0 c.if-x-eq0.true)))

pub returns-then-hole-eq0 : goal.returns-then-hole-eq0
returns-then-hole-eq0 c =
    let a = c.args in
    sym (cond-true 0 _ (or_right (eqb a.x 0) _ (eq-eqb _ 0 (sym c.label_at-hole.ensures ∙ c.if-hole-eq0.true))))

pub returns : goal.returns
returns c =
    let label = c.label_at-hole.ensures in
    let some = rw label at c.if-hole-eq0.false in
    c.queued.ensures ∙ rw label (held _ _ _ c.if-x-eq0.false some)
