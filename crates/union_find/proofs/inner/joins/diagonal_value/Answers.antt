-- `diagonal_value` meets its contract, by its definition. Assumes nothing.
use borrow.Author.Rules.{rules}
use Rattle.union_find.specs.Regions.{diagonal_value}
use Rattle.union_find.proofs.inner.joins.diagonal_value.Goals as goal

pub returns : goal.returns
unfolding diagonal_value
returns c = search rules
