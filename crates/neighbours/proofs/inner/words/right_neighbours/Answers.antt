-- `right_neighbours` meets its contract. Assumes nothing.
use native.Mathlib.Omega.{arith}
use Rattle.neighbours.proofs.WordLaws.{holds-right}
use Rattle.neighbours.proofs.inner.words.right_neighbours.Goals as goal

pub returns : goal.returns
returns c pixels x is carry = holds-right pixels x c.args.here c.args.behind (omega arith) is carry
