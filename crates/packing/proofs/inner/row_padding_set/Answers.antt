-- `row_padding_set` meets its contract: each column from the row's end on is tested. Assumes nothing.
use borrow.Author.Rules.{rules}
use borrow.Author.Tests.{tests}
use Prim.Native.Nat.{◌-◌, ◌*◌}
use mathlib.Core.Path.{refl, ◌∙◌}
use native.Mathlib.Omega.{arith}
use lib.Dec.{eqb}
use Rattle.std.proofs.lemmas.Iterator.{YieldsList-from_range}
use Rattle.std.proofs.lemmas.Iterator.Search.{any_from_yields_List}
use Rattle.neighbours.proofs.PackedLaws.{row_units-lt}
use Rattle.model.specs.Codec.{byte_bits, packed_pixel}
use Rattle.packing.specs.Rows.{row_padding_set}
use Rattle.packing.proofs.RowsLaws.{any-range_with_len}
use Rattle.packing.proofs.inner.row_padding_set.Goals as goal

pub overflow_mul-row_bytes : goal.overflow_mul-row_bytes
overflow_mul-row_bytes c = omega (arith, c.row_bytes.ensures, row_units-lt byte_bits c.args.width (omega arith))

pub returns : goal.returns
unfolding row_padding_set
returns c =
    let a = c.args in
    let end = 8 * c.row_bytes.result in
    any_from_yields_List (λ x. eqb (packed_pixel a.width a.packed.now x a.y) 1) _ _ _ c.any.ensures.ran
    (YieldsList-from_range a.width end (end - a.width) refl refl)
    (λ x b q k. search (rules, tests))
    ∙ any-range_with_len _ a.width (end - a.width)
    ∙ rw c.row_bytes.ensures refl
