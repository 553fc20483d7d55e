-- `run_in` meets its contract: each turn of the loop is one step more of the model's run. Assumes nothing.
use mathlib.Core.Path.{refl, ◌∙◌}
use native.Mathlib.Omega.{arith}
use Rattle.theorems.proofs.RunLaws.{steps_refusal-iff, steps_refusal-passes}
use Rattle.words.proofs.RoomLaws.{rows_inside}
use Rattle.runner.proofs.RunListLaws.{step-checked, passes-ready, rows_to-none, rows_to-ready, rows_to-suc, rows_to-all}
use Rattle.runner.proofs.inner.run_in.Goals as goal

pub pack-requires : goal.pack-requires
pack-requires c =
    let (passes, room) = steps_refusal-passes _ _ _ _ _ _ c.requires.passes in
    record {
      packable = record { valid = passes.valid; binary = passes.binary };
      height_in_bounds = rows_inside c.requires.in_room;
    }

pub loop-k-init : goal.loop-k-init
loop-k-init c =
    let (passes, room) = steps_refusal-passes _ _ _ _ _ _ c.requires.passes in (
      rows_to-none _ _ _ room _ _ _ refl (passes-ready passes room) c.pack.ensures c.requires.in_room c.pack.auto.rows,
      c.pack.auto.rows,
      refl,
    )

pub step_rows-requires : goal.step_rows-requires
step_rows-requires c =
    let (passes, room) = steps_refusal-passes _ _ _ _ _ _ c.requires.passes in
    rows_to-ready _ _ _ room _ _ _ c.loop-k.invariant.0 passes.masked
    (step-checked _ _ _ passes.checked _ _ c.loop-k-test.true)

pub bounds-reports-k : goal.bounds-reports-k
bounds-reports-k c = omega (arith, ((steps_refusal-iff _ _ _ _ _ _).0 c.requires.passes).1)

pub loop-k-preserved : goal.loop-k-preserved
loop-k-preserved c =
    let (passes, room) = steps_refusal-passes _ _ _ _ _ _ c.requires.passes in (
      rows_to-suc _ _ _ room _ _ _ c.loop-k.invariant.0 _ _ passes.masked c.loop-k-test.true
          (omega (arith, ((steps_refusal-iff _ _ _ _ _ _).0 c.requires.passes).1))
          (step-checked _ _ _ passes.checked _ _ c.loop-k-test.true) c.step_rows.ensures c.step_rows.auto.image
          c.step_rows.auto.queue c.step_rows.auto.rows c.step_rows.auto.entries,
      c.step_rows.auto.rows ∙ c.loop-k.invariant.1,
      c.step_rows.auto.entries ∙ c.loop-k.invariant.2,
    )

pub hand_on-contour_len-requires : goal.hand_on-contour_len-requires
hand_on-contour_len-requires c =
    let (passes, room) = steps_refusal-passes _ _ _ _ _ _ c.requires.passes in
    let to = c.loop-k.invariant.0 in
    record {
      held_rows = to.held;
      sized = record { valid = to.held.in_room.valid; pixels = to.sized };
      height_in_bounds = omega (arith, room, to.queue_size);
    }

pub returns : goal.returns
returns c =
    let (passes, room) = steps_refusal-passes _ _ _ _ _ _ c.requires.passes in
    rows_to-all _ _ _ room _ _ _ c.loop-k.invariant.0 passes (omega arith) c.hand_on-contour_len.ensures
