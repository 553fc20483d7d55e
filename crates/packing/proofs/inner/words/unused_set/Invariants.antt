-- `unused_set` meets its contract. The loop's invariant: `set` is 0 where no unused bit above row `y` is set. Assumes
-- nothing.
use Rattle.std.proofs.Common.{◌≡◌, eqb, not}
use Rattle.lists.specs.Lists.{any, range}
use Rattle.packing.specs.Rows.{row_padding_set}
use Rattle.packing.proofs.inner.words.unused_set.Given as goal

abbrev pub invariant-loop-y : goal.invariant-loop-y
invariant-loop-y l = not (eqb l.set 0) ≡ any (row_padding_set 64 l.width l.words) (range l.y)
