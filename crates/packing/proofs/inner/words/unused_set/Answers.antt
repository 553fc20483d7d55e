-- `unused_set` meets its contract: the last word of one row more is tested. Assumes nothing.
use Rattle.std.proofs.Common.{◌≡◌, refl, sym, ◌∙◌, arith}
use Rattle.lists.specs.Lists.{any, count_from}
use Rattle.neighbours.proofs.PackedLaws.{row_units-pos}
use Rattle.packing.proofs.RowsLaws.{padding_set-rows}
use Rattle.packing.proofs.WordsLaws.{unused-next}
use Rattle.packing.proofs.inner.words.unused_set.Goals as goal

pub loop-y-init : goal.loop-y-init
unfolding any count_from
loop-y-init c = refl

pub overflow_sub-set : goal.overflow_sub-set
overflow_sub-set c = omega (arith, row_units-pos 64 c.args.width (omega arith) c.requires.valid_size.wide)

pub loop-y-preserved : goal.loop-y-preserved
loop-y-preserved c =
    let a = c.args in
    rw (c.row_words-m.ensures, c.unused_mask-mask.ensures)
    (unused-next a.width a.words.now c.loop-y.y c.requires.valid_size.wide c.loop-y.set c.loop-y.invariant)

pub returns : goal.returns
returns c =
    let e : c.loop-y.y ≡ c.args.height = omega arith in
    rw e at c.loop-y.invariant ∙ sym (padding_set-rows 64 _ _ _)
