-- `keep_added` meets its contract. The loop's invariant: the first `i` words are written. Assumes nothing.
use mathlib.Core.Path.{◌≡◌}
use lib.Bits.{bit_and, bit_xor}
use lib.ListN.{get_or}
use Rattle.neighbours.specs.Words.{full_word}
use Rattle.words.specs.Frame.{Written}
use Rattle.propagation.proofs.inner.hand_over.keep_added.Given as goal

abbrev pub invariant-loop-i : goal.invariant-loop-i
invariant-loop-i l =
    Written (λ j w. w ≡ bit_and (get_or l.words j 0) (bit_xor (get_or l.initial.before j 0) full_word)) 0 1 l.i
    l.initial.before l.before
