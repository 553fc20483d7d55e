-- `compare_row` compares the ones of a word with the entries behind those of the words before it. Assumes nothing.
use Rattle.std.proofs.Common.{◌≡◌, arith}
use Rattle.neighbours.proofs.ExtendedLaws.{extended_none}
use Rattle.words.specs.Positions.{row_ones}
use Rattle.word_ones.specs.Ones.{Compared}
use Rattle.words.proofs.PositionsLaws.{row_ones-more, row_ones-compare, row_ones-stop}
use Rattle.words.proofs.inner.positions.compare_row.Goals as goal

pub loop-k-init : goal.loop-k-init
unfolding row_ones
loop-k-init c = (extended_none _ _, c.requires.before)

pub compare_word-requires : goal.compare_word-requires
compare_word-requires c =
    row_ones-compare _ _ _ _ c.word_of.ensures c.requires (omega (arith, c.row_words-columns.ensures))
    c.loop-k.invariant.1

pub returns-in_err-end : goal.returns-in_err-end
returns-in_err-end c =
    rw c.from_residual.ensures
    (row_ones-stop _ _ _ _ c.word_of.ensures _ _ c.requires.within (omega (arith, c.row_words-columns.ensures))
    c.loop-k.invariant.0 c.in_err-end.ensures)

pub loop-k-preserved : goal.loop-k-preserved
unfolding Compared
loop-k-preserved c =
    let next = c.in_ok-end.ensures in
    (row_ones-more _ _ _ _ _ c.word_of.ensures c.loop-k.invariant.0 next.0, next.1)

pub returns : goal.returns
unfolding Compared
returns c =
    let all : c.loop-k.k ≡ c.row_words-columns.result = omega arith in
    rw (all, c.row_words-columns.ensures) at c.loop-k.invariant
