-- `put_steps` meets its contract: a turn writes the line of one step more. Assumes nothing.
use mathlib.Core.Path.{◌∙◌}
use native.Mathlib.Omega.{arith}
use Rattle.lists.specs.Text.{ascii}
use Rattle.neighbours.proofs.AppendedLaws.{appended-none}
use Rattle.model.specs.Listing.{step_lines}
use Rattle.listing.proofs.LineLaws.{step_lines-written, end-line-le}
use Rattle.listing.proofs.inner.put_steps.Goals as goal

pub loop-k-init : goal.loop-k-init
unfolding step_lines
loop-k-init c = (appended-none _ _, omega arith)

pub loop-k-preserved : goal.loop-k-preserved
unfolding ascii
loop-k-preserved c =
    let (before, upto) = c.loop-k.invariant in
    let line = c.put_line-end.ensures in
    let room = end-line-le _ _ line (omega arith) (omega arith) in (
      step_lines-written _ _ _ _ _ (omega arith) (omega arith) (omega arith) before
          (c.from-kind.ensures ∙ c.kind_of.ensures) line,
      omega arith,
    )
