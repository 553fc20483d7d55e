-- `beyond` meets its contract: what lies outside is object unless it is background for a side. Assumes nothing.
use native.Mathlib.Omega.{arith}
use Rattle.neighbours.proofs.SideLaws.{beyond-tests}
use Rattle.neighbours.proofs.inner.beyond.Goals as goal

pub returns : goal.returns
returns c =
    let a = c.args in
    grind (arith, beyond-tests a.width a.height a.sides a.x a.y)
