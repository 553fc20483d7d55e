-- `put_four` meets its contract: one number more is written. Assumes nothing.
use Rattle.std.proofs.Common.{◌≡◌, ℕ, ◌*◌, ◌/◌, ◌%◌, ◌^◌, add-zero, arith}
use lib.Bits.{and_mask}
use Rattle.lists.proofs.ListLaws.{tabulate-zero}
use Rattle.neighbours.proofs.ExtendedLaws.{extended_none}
use Rattle.word_ones.specs.Table.{lanes}
use Rattle.word_ones.proofs.TableLaws.{lane-more}
use Rattle.word_ones.proofs.inner.bytes.put_four.Goals as goal

pub loop-k-init : goal.loop-k-init
loop-k-init c = rw (tabulate-zero, add-zero) (extended_none _ _)

pub loop-k-preserved : goal.loop-k-preserved
loop-k-preserved c =
    let lane : ℕ → ℕ = λ j. c.args.x / 2 ^ (16 * j) % 2 ^ 16 in
    rw (and_mask _ 16) (lane-more lane c.loop-k.k c.loop-k.invariant (omega arith))

pub returns : goal.returns
unfolding lanes
returns c =
    let e : c.loop-k.k ≡ 4 = omega arith in
    rw e at c.loop-k.invariant
