-- `put_steps` meets its contract: each turn of the loop writes one record behind the others. Assumes nothing.
use mathlib.Core.List.{flat_map}
use native.Mathlib.Omega.{arith}
use lib.Seq.{take_all}
use Rattle.neighbours.proofs.AppendedLaws.{appended-none, appended-append}
use Rattle.model.specs.declared.Step.TheVariants.{Erode}
use Rattle.job.proofs.WritingLaws.{records-suc, records-suc-le}
use Rattle.job.proofs.inner.write.put_steps.Goals as goal

pub loop-step-init : goal.loop-step-init
unfolding flat_map
loop-step-init c = appended-none _ _

pub put_step-end-requires : goal.put_step-end-requires
put_step-end-requires c =
    omega (
      arith,
      c.requires,
      c.loop-step.invariant.counted,
      records-suc-le _ _ (Erode 0 0 0) c.loop-step-test.true,
    )

pub loop-step-preserved : goal.loop-step-preserved
loop-step-preserved c =
    let so_far = c.loop-step.invariant in
    let room = records-suc-le _ _ (Erode 0 0 0) c.loop-step-test.true in
    rw (records-suc _ _ (Erode 0 0 0) c.loop-step-test.true)
    (appended-append so_far (omega (arith, c.requires, so_far.counted, room)) c.put_step-end.ensures)

pub returns : goal.returns
returns c = rw (take_all _ _ c.loop-step-test.false) at c.loop-step.invariant
