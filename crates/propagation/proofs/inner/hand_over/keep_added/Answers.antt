-- `keep_added` meets its contract: one word more, and all. Assumes nothing.
use Prim.Native.Nat.{◌<◌, ◌^◌}
use mathlib.Core.Path.{◌≡◌, ap, ◌∙◌}
use native.Mathlib.Omega.{arith}
use borrow.Author.Rules.{rules}
use lib.Bits.{bit_and, bit_xor}
use lib.ListN.{length, get_or}
use Rattle.neighbours.specs.Words.{word_bits, full_word}
use Rattle.words.proofs.WrittenLaws.{written-more, written_behind}
use Rattle.propagation.proofs.RowSetLaws.{not-is}
use Rattle.propagation.proofs.inner.hand_over.keep_added.Goals as goal

pub loop-i-preserved : goal.loop-i-preserved
loop-i-preserved c =
    let inv = c.loop-i.invariant in
    let small : get_or c.loop-i.before c.loop-i.i 0 < 2 ^ word_bits = search rules in
    written-more _ _ (omega arith) inv (omega arith) (omega arith)
    (ap (bit_and (get_or c.args.words.now c.loop-i.i 0))
    (not-is _ small ∙ ap (λ w. bit_xor w full_word) (written_behind inv c.loop-i.i (omega arith))))

pub returns : goal.returns
returns c =
    let all : c.loop-i.i ≡ length c.args.before.now = omega arith in
    rw all at c.loop-i.invariant
