-- `padding_set` meets its contract: each row is tested, unless none has padding. Assumes nothing.
use borrow.Author.Rules.{rules}
use borrow.Author.Tests.{tests}
use mathlib.Core.Path.{refl, sym, ◌∙◌}
use native.Mathlib.Omega.{arith}
use Rattle.std.proofs.lemmas.Iterator.{YieldsList-from_range, serves_from_Range}
use Rattle.std.proofs.lemmas.Iterator.Search.{any_from_yields_List}
use Rattle.neighbours.proofs.PackedLaws.{packed_length-is}
use Rattle.neighbours.specs.Packed.{row_units}
use Rattle.model.specs.Codec.{byte_bits, row_bytes}
use Rattle.packing.specs.Rows.{PackedRowOf, row_padding_set}
use Rattle.packing.proofs.RowsLaws.{row-le, padding_set-rows, padding_set-whole, any-range_with_len}
use Rattle.packing.proofs.inner.padding_set.Goals as goal

-- rows that end with a byte
pub returns-then-width-eq0 : goal.returns-then-width-eq0
unfolding row_units
returns-then-width-eq0 c =
    let a = c.args in
    sym (padding_set-whole byte_bits a.width a.height a.packed.now (omega (arith, c.if-width-eq0.true)))

pub any-requires-clause-callable : goal.any-requires-clause-callable
any-requires-clause-callable c =
    serves_from_Range (λ x q r. search rules)
    (λ y l h.
    let a = c.args in
    let room = row-le (row_bytes a.width) a.height y h in
    let valid = c.requires.valid_size in
    let row : PackedRowOf byte_bits a.width a.packed.now y = record {
      wide = valid.wide;
      narrow = valid.narrow;
      low = omega (arith, valid.low);
      whole = omega (arith, c.requires.packed_len, packed_length-is byte_bits a.width a.height);
    } in
    search rules)

pub returns : goal.returns
returns c =
    let a = c.args in
    any_from_yields_List (row_padding_set byte_bits a.width a.packed.now) _ _ _ c.any.ensures.ran
    (YieldsList-from_range 0 a.height a.height refl (omega arith))
    (λ y b q k. search (rules, tests))
    ∙ any-range_with_len _ 0 a.height
    ∙ sym (padding_set-rows byte_bits _ _ _)
