-- `grown_word` meets its contract: what the lower crate keeps, and what is not in the mask. Assumes nothing.
use Prim.Native.Nat.{max}
use mathlib.Core.Path.{ap, ap₂, ◌∙◌}
use native.Mathlib.Omega.{arith}
use lib.Bits.{bit_xor, differ}
use Rattle.neighbours.specs.Packed.{bit_at}
use Rattle.neighbours.specs.Words.{word_bits, full_word}
use Rattle.neighbours.proofs.WordLaws.{bit-or, bit-xor, bit-le-one, flat-full}
use Rattle.propagation.proofs.RowSetLaws.{not-is}
use Rattle.propagation.proofs.inner.grown_word.Goals as goal

pub returns : goal.returns
returns c =
    let kept = c.without_background.result in
    let mask = c.args.mask in
    rw (not-is mask c.ranges.mask.fits)
    record {
      inside =
          λ width height image connectivity k y round j l h.
          bit-or kept (bit_xor mask full_word) j
          ∙ ap₂ max (c.without_background.ensures width height _ image connectivity k y round j l h)
          (bit-xor mask full_word j ∙ ap (differ (bit_at word_bits mask j)) (flat-full j l));
      behind =
          λ j l e.
          bit-or kept (bit_xor mask full_word) j
          ∙ rw (bit-xor mask full_word j, e, flat-full j l) (omega (arith, bit-le-one kept j));
    }
