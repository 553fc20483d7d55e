-- `is_listed` compares the ones of a row with the entries behind those of the rows before it. Assumes nothing.
use Rattle.std.proofs.Common.{◌≡◌, arith}
use Rattle.neighbours.proofs.ExtendedLaws.{extended_none}
use Rattle.word_ones.specs.Ones.{Compared}
use Rattle.words.specs.Positions.{ones_above}
use Rattle.words.proofs.PositionsLaws.{ones_above-more, ones_above-stop, listed-not, listed-iff}
use Rattle.words.proofs.inner.positions.is_listed.Goals as goal

pub loop-y-init : goal.loop-y-init
unfolding ones_above
loop-y-init c = (extended_none _ _, omega arith)

pub returns-in_default : goal.returns-in_default
returns-in_default c test said =
    let within = c.requires.n_in_bounds in
    listed-not _ _ _ _ _ within test said
    (ones_above-stop _ _ _ _ within c.loop-y-test.true c.loop-y.invariant.0 c.in_default.ensures)

pub loop-y-preserved : goal.loop-y-preserved
unfolding Compared
loop-y-preserved c =
    let next = c.in-Some.ensures in
    (ones_above-more _ _ _ _ c.loop-y.invariant.0 next.0, next.1)

pub returns : goal.returns
returns c test said =
    let all : c.loop-y.y ≡ c.args.height = omega arith in
    listed-iff _ _ _ _ _ c.requires.n_in_bounds test said (rw all at c.loop-y.invariant.0)
