-- `load_column` meets its contract: one entry more is written, and at the end all are. Assumes nothing.
use Prim.Native.Nat.{◌+◌}
use mathlib.Core.Path.{◌≡◌}
use native.Mathlib.Omega.{arith}
use Rattle.words.proofs.WrittenLaws.{written-more}
use Rattle.words.proofs.inner.load_column.Goals as goal

pub loop-y-preserved : goal.loop-y-preserved
loop-y-preserved c =
    written-more _ _ (omega arith) c.loop-y.invariant (omega arith) (omega arith)
    (rw (c.frame_word.ensures, c.keep_at-keep.ensures, c.fill_at-fill.ensures) at c.fill_behind.ensures)

pub returns : goal.returns
returns c = let all : c.loop-y.y ≡ c.args.frame.rows + 2 = omega arith in rw all at c.loop-y.invariant
