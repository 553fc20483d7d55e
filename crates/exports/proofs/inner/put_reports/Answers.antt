-- `put_reports` meets its contract: a turn writes the numbers of one report more, and all of them reach the end.
-- Assumes nothing.
use mathlib.Core.Path.{◌∙◌}
use mathlib.Core.List.{flat_map}
use native.Mathlib.Omega.{arith}
use Rattle.neighbours.proofs.AppendedLaws.{appended-none}
use Rattle.exports.specs.Numbers.{numbers_of}
use Rattle.exports.proofs.NumbersLaws.{reports-next}
use Rattle.exports.proofs.inner.put_reports.Goals as goal

pub loop-k-init : goal.loop-k-init
unfolding numbers_of flat_map
loop-k-init c = appended-none _ _

pub loop-k-preserved : goal.loop-k-preserved
loop-k-preserved c =
    reports-next _ _ _ (omega arith) (omega arith) c.loop-k.invariant
    (c.copy_from_slice.ensures.after ∙ c.numbers.ensures)
