-- `flip` meets its contract: each digit comes from one place, which is computed. Assumes nothing.
use native.Mathlib.Omega.{arith}
use Rattle.packing.proofs.WeaveLaws.{flip_is}
use Rattle.packing.proofs.inner.words.flip.Goals as goal

pub returns : goal.returns
returns c = flip_is c.args.x (omega arith)
