-- `left_neighbours` meets its contract. Assumes nothing.
use native.Mathlib.Omega.{arith}
use Rattle.neighbours.proofs.WordLaws.{holds-left}
use Rattle.neighbours.proofs.inner.words.left_neighbours.Goals as goal

pub returns : goal.returns
returns c pixels x carry is = holds-left pixels x c.args.before c.args.here (omega arith) carry is
