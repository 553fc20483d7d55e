-- `without_background` meets its contract. Assumes nothing.
use Prim.Native.Nat.{◌+◌, ◌*◌}
use Rattle.neighbours.specs.Words.{word_bits, beside_value}
use Rattle.neighbours.proofs.WordLaws.{bit-without_background}
use Rattle.neighbours.proofs.inner.words.without_background.Goals as goal

pub returns : goal.returns
returns c width height sides image connectivity k y round =
    let pixels = beside_value width height sides image connectivity y in
    let x = word_bits * k in
    let before = c.left_neighbours.ensures pixels x round.is_left round.is_here in
    let behind = c.right_neighbours.ensures pixels (x + 1) round.is_here round.is_right in
    bit-without_background width height sides image _ _ _ round c.upright.ensures before behind
