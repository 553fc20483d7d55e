-- `eroded_word` meets its contract: what is kept, filled up behind the row's end. Assumes nothing.
use Prim.Native.Nat.{◌+◌, ◌*◌}
use mathlib.Core.Path.{◌∙◌}
use borrow.Author.Tests.{lt-ltb, le-ltb}
use Rattle.lists.proofs.BoolLaws.{by-lt}
use Rattle.neighbours.specs.Words.{word_bits}
use Rattle.words.proofs.inner.eroded_word.Goals as goal

pub returns : goal.returns
returns c width height sides image connectivity k y round mask j l =
    c.fill_behind.ensures width sides k mask j l
    ∙ by-lt (word_bits * k + j) width
    (λ h.
    rw (lt-ltb (word_bits * k + j) width h)
    (c.without_background-kept.ensures width height sides image connectivity k y round j l h))
    (λ h. rw (le-ltb (word_bits * k + j) width h))
