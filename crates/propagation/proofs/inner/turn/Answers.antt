-- `turn` meets its contract: one word more, and all. Assumes nothing.
use Prim.Native.Nat.{◌<◌, ◌^◌}
use mathlib.Core.Path.{◌≡◌, ap, ◌∙◌}
use native.Mathlib.Omega.{arith}
use borrow.Author.Rules.{rules}
use lib.Bits.{bit_xor}
use lib.ListN.{length, get_or}
use Rattle.neighbours.specs.Words.{word_bits, full_word}
use Rattle.words.proofs.WrittenLaws.{written-more, written_behind}
use Rattle.propagation.proofs.RowSetLaws.{not-is}
use Rattle.propagation.proofs.inner.turn.Goals as goal

pub loop-word-preserved : goal.loop-word-preserved
loop-word-preserved c =
    let inv = c.loop-word.invariant in
    let small : get_or c.loop-word.words c.loop-word.word-index 0 < 2 ^ word_bits = search rules in
    written-more _ _ (omega arith) inv (omega arith) (omega arith)
    (not-is _ small ∙ ap (λ w. bit_xor w full_word) (written_behind inv c.loop-word.word-index (omega arith)))

pub returns : goal.returns
returns c =
    let all : c.loop-word.word-index ≡ length c.args.words.now = omega arith in
    rw all at c.loop-word.invariant
