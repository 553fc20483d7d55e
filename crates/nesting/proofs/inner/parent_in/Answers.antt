-- `parent_in` meets its contract: each test says which case of `parent_in` holds. Assumes nothing.
use mathlib.Core.Path.{sym}
use native.Mathlib.Omega.{arith}
use Rattle.theorems.proofs.DepthLaws.{parent_in-is, parent_in-none, parent_in-short}
use Rattle.nesting.proofs.inner.parent_in.Goals as goal

pub returns-then-p-eq0 : goal.returns-then-p-eq0
returns-then-p-eq0 c = sym (parent_in-none _ _ (omega arith))

pub returns-then-records-end : goal.returns-then-records-end
returns-then-records-end c = sym (parent_in-short _ _ c.if-records-end.true)

pub returns-then-enclosing-p : goal.returns-then-enclosing-p
returns-then-enclosing-p c = sym (parent_in-is _ _ (omega arith) (omega arith) c.if-enclosing-p.true)

pub returns-else-enclosing-p : goal.returns-else-enclosing-p
returns-else-enclosing-p c = sym (parent_in-none _ _ c.if-enclosing-p.false)
