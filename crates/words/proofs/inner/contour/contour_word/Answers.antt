-- `contour::contour_word` meets its contract: what the lower crate's test gives, and nothing behind the row's end.
-- Assumes nothing.
use Prim.Native.Nat.{◌+◌, ◌*◌}
use mathlib.Core.Path.{◌∙◌}
use native.Mathlib.Omega.{arith}
use borrow.Author.Tests.{lt-ltb, le-ltb}
use Rattle.lists.proofs.BoolLaws.{by-lt, bit_le}
use Rattle.neighbours.specs.Grid.{position}
use Rattle.neighbours.specs.Contour.{on_contour}
use Rattle.neighbours.specs.Words.{word_bits}
use Rattle.neighbours.proofs.WordLaws.{bit-and}
use Rattle.words.proofs.inner.contour.contour_word.Goals as goal

pub returns : goal.returns
returns c width height image k y round inside j l =
    bit-and c.contour_word.result c.args.keep j
    ∙ by-lt (word_bits * k + j) width
    (λ h.
    let most = bit_le (on_contour width height image (position width (word_bits * k + j) y)) in
    rw (inside j l, lt-ltb (word_bits * k + j) width h, c.contour_word.ensures width height image k y round j l h)
    (omega arith))
    (λ h. rw (inside j l, le-ltb (word_bits * k + j) width h) (omega arith))
