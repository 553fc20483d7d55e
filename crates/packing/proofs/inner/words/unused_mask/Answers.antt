-- `unused_mask` meets its contract: less than a word is unused. Assumes nothing.
use Prim.Native.Nat.{◌-◌, ◌*◌, ◌<◌}
use mathlib.Core.Path.{refl}
use native.Mathlib.Omega.{arith}
use lib.Pow.{pow_pos}
use Rattle.neighbours.proofs.PackedLaws.{row_units-ge, row_units-lt}
use Rattle.packing.proofs.WordsLaws.{one_shifted}
use Rattle.packing.proofs.inner.words.unused_mask.Goals as goal

-- less than a word's bits are unused
unused-lt : (c : goal.After-row_words) → 64 * c.row_words.result - c.args.width < 64
unused-lt c = omega (arith, c.row_words.ensures, row_units-lt 64 c.args.width (omega arith))

pub overflow_mul-result : goal.overflow_mul-result
overflow_mul-result c = omega (arith, c.row_words.ensures, row_units-lt 64 c.args.width (omega arith))

pub overflow_sub-result : goal.overflow_sub-result
overflow_sub-result c = omega (arith, c.row_words.ensures, row_units-ge 64 c.args.width (omega arith))

pub overflow_sub-result-2 : goal.overflow_sub-result-2
overflow_sub-result-2 c = rw (one_shifted _ (unused-lt c)) (pow_pos _)

pub returns : goal.returns
returns c = rw (one_shifted _ (unused-lt c), c.row_words.ensures) refl

pub overflow_shl-result : goal.overflow_shl-result
overflow_shl-result c = unused-lt c
