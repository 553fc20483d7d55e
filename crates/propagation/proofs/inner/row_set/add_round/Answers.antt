-- `row_set::add_round` meets its contract: three rows of one word. Assumes nothing.
use native.Mathlib.Omega.{arith}
use borrow.Author.Tests.{ne_eqb}
use Rattle.propagation.proofs.RowSetLaws.{rows_added-three}
use Rattle.propagation.proofs.inner.row_set.add_round.Goals as goal

pub returns-then-y-lt62 : goal.returns-then-y-lt62
returns-then-y-lt62 c =
    rw (ne_eqb c.args.changed 0 c.if-changed-eq0.false)
    (rows_added-three c.args.set.now c.args.y (omega (arith, c.requires)) c.if-y-lt62.true)
