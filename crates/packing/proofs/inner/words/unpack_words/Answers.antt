-- `unpack_words` meets its contract: one row more is written. Assumes nothing.
use Rattle.std.proofs.Common.{◌≡◌, ◌+◌, ◌*◌, ◌≤◌, length, sym, ◌∙◌, add-one, arith}
use mathlib.Core.List.{flat_map}
use native.Mathlib.Nat.{zero-mul, suc-mul, mul_comm}
use Rattle.lists.specs.Lists.{count_from}
use Rattle.neighbours.proofs.AppendedLaws.{appended-none, appended-whole}
use Rattle.packing.proofs.RowsLaws.{row-le, unpacked-rows, appended-flat_map-suc}
use Rattle.packing.proofs.WordsLaws.{row-words-le}
use Rattle.packing.proofs.inner.words.unpack_words.Goals as goal

pub loop-y-init : goal.loop-y-init
unfolding flat_map count_from
loop-y-init c = rw zero-mul (appended-none _ _)

pub unpack_row-requires-clause-packed_row_of : goal.unpack_row-requires-clause-packed_row_of
unpack_row-requires-clause-packed_row_of c =
    let valid = c.requires.sized.valid in
    record {
      wide = valid.wide;
      narrow = valid.narrow;
      low = omega (arith, valid.low);
      whole = omega (arith, row-words-le c.args.width c.args.height c.loop-y.y valid (omega arith));
    }

pub loop-y-preserved : goal.loop-y-preserved
loop-y-preserved c =
    let width = c.args.width in
    let y = c.loop-y.y in
    let next : (y + 1) * width ≡ y * width + width = rw (add-one, suc-mul) in
    let room : y * width ≤ length c.args.image.now =
    omega (arith, row-le width c.args.height y (omega arith), c.requires.sized.pixels) in
    rw next (appended-flat_map-suc _ y c.loop-y.invariant room c.unpack_row.ensures)

pub returns : goal.returns
returns c =
    let e : c.loop-y.y ≡ c.args.height = omega arith in
    let sized = c.requires.sized in
    appended-whole c.loop-y.invariant (rw (e, mul_comm) (sym sized.pixels))
    ∙ rw e (sym (unpacked-rows 64 _ _ _ sized.valid.wide))
