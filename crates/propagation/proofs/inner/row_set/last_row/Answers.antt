-- `row_set::last_row` meets its contract: the last word, the word before, a row that is found, and none. Assumes
-- nothing.
use Prim.Native.Nat.{◌-◌}
use native.Mathlib.Omega.{arith}
use lib.ListN.{get_or}
use Rattle.propagation.proofs.RowSetLaws.{before-first, before-next, before-none, before_last, and-full}
use Rattle.propagation.proofs.inner.row_set.last_row.Goals as goal

pub loop-j-init : goal.loop-j-init
loop-j-init c = before-first _ _ _ (c.type_inv.set _).fits c.bits_to-kept.ensures

pub loop-j-preserved : goal.loop-j-preserved
loop-j-preserved c =
    let small = (c.type_inv.set (c.loop-j.j - 1)).fits in
    rw (and-full (get_or c.args.set.now (c.loop-j.j - 1) 0) small)
    (before-next c.loop-j.invariant c.if-word-ne0.false (λ e. omega arith) small)

pub returns-then-word-ne0 : goal.returns-then-word-ne0
returns-then-word-ne0 c = before_last c.loop-j.invariant c.if-word-ne0.true c.last_one.ensures

pub returns-else-word-ne0 : goal.returns-else-word-ne0
returns-else-word-ne0 c = before-none c.loop-j.invariant c.if-word-ne0.false (omega arith)
