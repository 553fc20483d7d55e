-- `flip_words` meets its contract. The loop's invariant: the words so far are flipped. Assumes nothing.
use Rattle.std.proofs.Common.{◌≡◌, ◌++◌, map, take, drop}
use Rattle.packing.specs.Groups.{flipped}
use Rattle.packing.proofs.inner.words.flip_words.Given as goal

abbrev pub invariant-loop-word : goal.invariant-loop-word
invariant-loop-word l =
    l.words ≡ map flipped (take l.word-index l.initial.words) ++ drop l.word-index l.initial.words
