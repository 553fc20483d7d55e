-- `read_steps` meets its contract: each turn of the loop reads one record more, or it ends the reading.
-- Assumes nothing.
use mathlib.Core.Path.{refl, sym, ◌∙◌}
use native.Mathlib.Omega.{arith}
use lib.ListN.{length-drop}
use borrow.Author.Rules.{part_to_end}
use Rattle.job.proofs.ReadingLaws.{read_to-none, read_to-suc, read_to-refused, read_to-all, records-nothing}
use Rattle.job.proofs.ReadingLaws.{step_read-inside}
use Rattle.job.proofs.inner.read.read_steps.Goals as goal

pub loop-slot-init : goal.loop-slot-init
loop-slot-init c = read_to-none _ _ _ _ c.requires c.none.ensures.slots

pub returns-in_default : goal.returns-in_default
returns-in_default c =
    let read = rw part_to_end at c.read_step-read.ensures in
    records-nothing _ refl
    (read_to-refused _ _ _ _ _ _ _ c.loop-slot.invariant (omega arith) _ (sym read ∙ c.unwrap_err.ensures))

pub bounds-record-0 : goal.bounds-record-0
bounds-record-0 c =
    let read = rw part_to_end at c.read_step-read.ensures in
    omega (
      arith,
      c.loop-slot.invariant.inside,
      length-drop c.loop-slot.end c.args.bytes.now,
      step_read-inside _ _ _ _ (sym read ∙ c.in-Ok.is),
    )

pub loop-slot-preserved : goal.loop-slot-preserved
loop-slot-preserved c =
    let read = rw part_to_end at c.read_step-read.ensures in
    rw (c.from.ensures, part_to_end)
    (read_to-suc _ _ _ _ _ _ _ c.loop-slot.invariant (omega arith) _ (sym read ∙ c.in-Ok.is))

pub returns : goal.returns
returns c =
    read_to-all _ _ _ _ _ _ _ c.loop-slot.invariant c.none.ensures.slots (omega arith) _
