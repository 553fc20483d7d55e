-- `weave_rows` meets its contract: one row more is woven. Assumes nothing.
use Rattle.std.proofs.Common.{◌≡◌, ◌+◌, ◌*◌, ◌≤◌, map, length, sym, ◌∙◌, add-one, arith}
use mathlib.Core.List.{flat_map}
use native.Mathlib.Nat.{zero-mul, suc-mul, mul_comm}
use Rattle.lists.specs.Lists.{count_from}
use lib.ListN.{length-map}
use Rattle.neighbours.specs.Packed.{row_units}
use Rattle.neighbours.proofs.AppendedLaws.{appended-none, appended-whole}
use Rattle.neighbours.proofs.PackedLaws.{packed_length-is}
use Rattle.packing.specs.Groups.{flipped}
use Rattle.packing.proofs.RowsLaws.{packed-rows, appended-flat_map-suc}
use Rattle.packing.proofs.WordsLaws.{row-words-le}
use Rattle.packing.proofs.inner.words.weave_rows.Goals as goal

pub loop-y-init : goal.loop-y-init
unfolding flat_map count_from
loop-y-init c = rw zero-mul (appended-none _ _)

pub weave_row-requires-clause-width_in_bounds : goal.weave_row-requires-clause-width_in_bounds
weave_row-requires-clause-width_in_bounds c =
    omega (arith, row-words-le c.args.width c.args.height c.loop-y.y c.requires.packable.valid (omega arith))

pub loop-y-preserved : goal.loop-y-preserved
loop-y-preserved c =
    let a = c.args in
    let m = row_units 64 a.width in
    let y = c.loop-y.y in
    let next : (y + 1) * m ≡ y * m + m = rw (add-one, suc-mul) in
    let room : y * m ≤ length (map flipped a.words.now) =
    omega (
      arith,
      row-words-le a.width a.height y c.requires.packable.valid (omega arith),
      length-map a.words.now flipped,
    ) in
    rw next (appended-flat_map-suc _ y c.loop-y.invariant room c.weave_row.ensures)

pub returns : goal.returns
returns c =
    let a = c.args in
    let e : c.loop-y.y ≡ a.height = omega arith in
    let whole = length-map a.words.now flipped ∙ c.requires.words_len ∙ packed_length-is 64 a.width a.height in
    appended-whole c.loop-y.invariant (rw (e, mul_comm) (sym whole))
    ∙ rw e (sym (packed-rows 64 _ _ _ (omega arith) c.requires.packable.valid.wide))
