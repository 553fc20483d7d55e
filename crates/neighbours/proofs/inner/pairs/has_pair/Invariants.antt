-- What the loop of `has_pair` keeps: `found` is 1 exactly if there is a pair among the pixels so far.
use Prim.Native.Nat.{◌-◌}
use mathlib.Core.Path.{◌≡◌}
use Rattle.lists.specs.Lists.{any, count_from, bit}
use Rattle.neighbours.proofs.PairLaws.{is_pair}
use Rattle.neighbours.proofs.inner.pairs.has_pair.Given as goal

abbrev pub invariant-loop-at : goal.invariant-loop-at
invariant-loop-at l = l.found ≡ bit (any (is_pair l.image l.apart) (count_from l.from (l.at - l.from)))
