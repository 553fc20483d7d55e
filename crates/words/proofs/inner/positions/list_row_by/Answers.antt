-- `list_row_by` lists the ones of a word behind those of the words before it. Assumes nothing.
use Rattle.std.proofs.Common.{◌+◌, ap, get_or, rules, arith}
use Rattle.neighbours.proofs.ExtendedLaws.{extended_none}
use Rattle.words.specs.Frame.{stride}
use Rattle.words.specs.Positions.{row_ones}
use Rattle.words.proofs.ColumnLaws.{mul_next}
use Rattle.words.proofs.PositionsLaws.{row_ones-next, row_ones-more}
use Rattle.words.proofs.inner.positions.list_row_by.Goals as goal

pub loop-k-init : goal.loop-k-init
unfolding row_ones
loop-k-init g c = (omega arith, extended_none _ _)

pub list-end-requires : goal.list-end-requires
list-end-requires g c =
    let is = ap (λ i. get_or c.args.words.now i 0) c.loop-k.invariant.0 in
    let next = row_ones-next c.args.height c.args.words.now c.args.y c.args.first c.loop-k.k is
    c.requires.listable (omega (arith, c.row_words-columns.ensures)) c.loop-k.invariant.1 in
    let callable = c.requires.lists.callable in
    search rules

pub loop-k-preserved : goal.loop-k-preserved
loop-k-preserved g c =
    let is = ap (λ i. get_or c.args.words.now i 0) c.loop-k.invariant.0 in
    let next = row_ones-next c.args.height c.args.words.now c.args.y c.args.first c.loop-k.k is
    c.requires.listable (omega (arith, c.row_words-columns.ensures)) c.loop-k.invariant.1 in (
      omega (arith, c.loop-k.invariant.0, mul_next (stride c.args.height) (c.loop-k.k + 1)),
      row_ones-more _ _ _ _ _ is c.loop-k.invariant.1 (c.requires.lists.lists _ _ _ _ _ _ next c.list-end.ensures),
    )
