-- `load` meets its contract: one column more is written, and the sides leave the columns as they are. Assumes nothing.
use Prim.Native.Nat.{◌+◌, ◌*◌}
use mathlib.Core.Path.{◌≡◌}
use native.Mathlib.Omega.{arith}
use native.Mathlib.Nat.{zero-add}
use Rattle.words.proofs.WrittenLaws.{written-before, written_behind, written_at}
use Rattle.words.proofs.ColumnLaws.{column-le, column-first, frame-more}
use Rattle.words.proofs.inner.load.Goals as goal

pub loop-k-preserved : goal.loop-k-preserved
loop-k-preserved c =
    frame-more _ 0 _ _ _ (omega arith) (omega arith) c.loop-k.invariant c.load_column.ensures

pub returns : goal.returns
returns c =
    let frame = c.args.frame in
    let apart = frame.rows + 2 in
    let left = c.put_side.ensures in
    let right = c.put_side-2.ensures in
    let all : c.loop-k.k ≡ frame.columns = omega arith in
    record {
      inside =
          λ k y l h.
          let at = (k + 1) * apart + y in
          let e : (k + 1) * apart + 0 + y ≡ at = omega arith in
          rw (
            written-before right at (omega (arith, column-le apart k frame.columns l)),
            written_behind left at (omega (arith, column-first apart k)),
          )
          (rw e at (c.loop-k.invariant.each k y (rw all l) h));
      left =
          λ y h.
          rw (written-before right y (omega (arith, column-first apart frame.columns)))
          (rw zero-add at (written_at left y h));
      right = λ y h. written_at right y h;
    }
