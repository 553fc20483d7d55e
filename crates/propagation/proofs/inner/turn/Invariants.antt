-- `turn` meets its contract. The loop's invariant: the words so far are turned. Assumes nothing.
use mathlib.Core.Path.{◌≡◌}
use lib.Bits.{bit_xor}
use lib.ListN.{get_or}
use Rattle.neighbours.specs.Words.{full_word}
use Rattle.words.specs.Frame.{Written}
use Rattle.propagation.proofs.inner.turn.Given as goal

abbrev pub invariant-loop-word : goal.invariant-loop-word
invariant-loop-word l =
    Written (λ j w. w ≡ bit_xor (get_or l.initial.words j 0) full_word) 0 1 l.word-index l.initial.words l.words
