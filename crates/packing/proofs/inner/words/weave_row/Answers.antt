-- `weave_row` meets its contract: the row's words are those with 64 pixels, or these and one with fewer. Assumes
-- nothing.
use Rattle.std.proofs.Common.{◌≡◌, ℕ, ◌+◌, ◌*◌, ◌/◌, ◌<◌, ap, ◌∙◌, arith}
use Rattle.neighbours.specs.Packed.{row_units, packed_unit}
use Rattle.neighbours.proofs.PackedLaws.{row_units-ge, row_units-lt}
use Rattle.packing.specs.Rows.{packed_row}
use Rattle.packing.proofs.WeaveLaws.{appended-woven}
use Rattle.packing.proofs.inner.words.weave_row.Goals as goal

-- behind the whole words there is one more
one-more : (width m : ℕ) → m ≡ row_units 64 width → (width / 64 ≡ m → ⊥) →
    (width / 64 + 1 ≡ row_units 64 width) × (64 * (width / 64) < width)
one-more width m units some =
    let held = row_units-ge 64 width (omega arith) in
    let less = row_units-lt 64 width (omega arith) in
    (omega (arith, some, held, less, units), omega (arith, some, held, less, units))

-- all words are whole
pub returns-then-whole-m : goal.returns-then-whole-m
unfolding packed_row
returns-then-whole-m c =
    let whole = c.if-whole-m.true ∙ c.row_words-m.ensures in
    rw whole at c.weave_whole.ensures

pub woven_word-requires-clause-x_lt_width : goal.woven_word-requires-clause-x_lt_width
woven_word-requires-clause-x_lt_width c = (one-more _ _ c.row_words-m.ensures c.if-whole-m.false).1

pub bounds-words-y : goal.bounds-words-y
bounds-words-y c =
    let place = ap (λ n. c.args.y * n) c.row_words-m.ensures in
    omega (arith, one-more _ _ c.row_words-m.ensures c.if-whole-m.false)

pub returns : goal.returns
unfolding packed_row
returns c =
    let a = c.args in
    let place = ap (λ n. a.y * n) c.row_words-m.ensures in
    let units = (one-more _ _ c.row_words-m.ensures c.if-whole-m.false).0 in
    let f : ℕ → ℕ = λ k. packed_unit 64 a.width a.image.now (64 * k) a.y in
    rw units at
    (appended-woven a.words.now _ f (a.width / 64) (a.y * c.row_words-m.result + a.width / 64) _
    c.weave_whole.ensures (omega arith) (omega arith) c.woven_word.ensures)
