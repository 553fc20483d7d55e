-- `list_positions` lists the ones of a row behind those of the rows before it. Assumes nothing.
use Rattle.std.proofs.Common.{◌≡◌, arith}
use Rattle.neighbours.proofs.PositionLaws.{row_within}
use Rattle.neighbours.proofs.ExtendedLaws.{extended_none}
use Rattle.words.specs.Positions.{ones_above}
use Rattle.words.proofs.PositionsLaws.{row_small, length-ones_above-le, ones_above-more, ones_above-select}
use Rattle.words.proofs.inner.positions.list_positions.Goals as goal

pub loop-y-init : goal.loop-y-init
unfolding ones_above
loop-y-init c = extended_none _ _

pub list_row_by-len-requires-clause-listable : goal.list_row_by-len-requires-clause-listable
list_row_by-len-requires-clause-listable c =
    let listable = c.requires.listable in
    let row = c.loop-y-test.true in
    let above = length-ones_above-le listable c.loop-y.y (omega arith) in
    record {
      listable = listable;
      row = row;
      small = row_small listable.valid row;
      room = omega (arith, above, row_within c.args.width row);
    }

pub loop-y-preserved : goal.loop-y-preserved
loop-y-preserved c = ones_above-more _ _ _ _ c.loop-y.invariant c.list_row_by-len.ensures

pub returns : goal.returns
returns c test said =
    let all : c.loop-y.y ≡ c.args.height = omega arith in
    rw (all, ones_above-select _ _ _ test said) at c.loop-y.invariant
