-- `put_levels` meets its contract: one level more is written, and at the end all are. Assumes nothing.
use mathlib.Core.Path.{◌≡◌}
use native.Mathlib.Omega.{arith}
use Rattle.words.proofs.WrittenLaws.{written-more}
use Rattle.words.proofs.inner.put_levels.Goals as goal

pub loop-i-preserved : goal.loop-i-preserved
loop-i-preserved c =
    written-more _ _ (omega arith) c.loop-i.invariant (omega arith) (omega arith) c.upright.ensures

pub returns : goal.returns
returns c = let all : c.loop-i.i ≡ c.args.n = omega arith in rw all at c.loop-i.invariant
