-- `upright` meets its contract. Assumes nothing.
use Prim.Native.Nat.{ℕ, min, max}
use mathlib.Core.Path.{ap, ◌∙◌}
use Rattle.neighbours.specs.Packed.{bit_at}
use Rattle.neighbours.specs.Words.{word_bits}
use Rattle.neighbours.proofs.WordLaws.{bit-and, bit-or}
use Rattle.neighbours.proofs.inner.words.upright.Goals as goal

pub returns : goal.returns
returns c j =
    let a = c.args in
    bit-and a.here _ j
    ∙ ap (min (bit_at word_bits a.here j))
    (bit-or _ a.alone j ∙ ap (λ (v : ℕ). max v (bit_at word_bits a.alone j)) (bit-and a.above a.below j))
