-- `keep_row` meets its contract: the row is copied to the front. Assumes nothing.
use native.Mathlib.Omega.{arith}
use Rattle.propagation.proofs.GrownLaws.{row_next, row_copied}
use Rattle.propagation.proofs.inner.keep_row.Goals as goal

pub returns-clause-row_above : goal.returns-clause-row_above
returns-clause-row_above c =
    let a = c.args in
    let pre = c.requires in
    let row = row_next a.columns a.y a.last (omega arith) in
    λ other. row_copied a.columns a.y a.words.now a.below.now (omega arith) pre.room c.copy_from_slice.ensures.after
