-- `has_pair` meets its contract: each turn of the loop looks at one pixel more. Assumes nothing.
use Prim.Native.Nat.{max}
use mathlib.Core.Path.{ap, ◌∙◌}
use native.Mathlib.Omega.{arith}
use Rattle.neighbours.proofs.PairLaws.{is_pair, found_none, found-suc}
use Rattle.neighbours.proofs.inner.pairs.has_pair.Goals as goal

pub loop-at-init : goal.loop-at-init
loop-at-init c = found_none _ _

pub loop-at-preserved : goal.loop-at-preserved
loop-at-preserved c =
    let larger = c.max-found.ensures ∙ ap (max _) c.pair_bit.ensures in
    found-suc (is_pair c.args.image.now c.args.apart) (omega arith) c.loop-at.invariant larger
