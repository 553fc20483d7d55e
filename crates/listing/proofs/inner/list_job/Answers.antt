-- `list_job` meets its contract: the run of an accepted job is not refused, its last image is labelled as in the
-- model, and what is written is what the model prints for the two answers. Assumes nothing.
use Prim.Native.Nat.{ℕ, ◌*◌}
use mathlib.Core.Path.{refl, ap, ◌∙◌}
use native.Mathlib.Omega.{arith}
use lib.ListN.{length, length-take, length-replicate}
use Rattle.theorems.proofs.RunLaws.{run_refusal-iff}
use Rattle.job.proofs.HeadingLaws.{heading-sides, heading-unpackable}
use Rattle.job.proofs.RunJobLaws.{run_job-steps_refusal}
use Rattle.listing.proofs.ListJobLaws.{labelled-room, records-few, with_labels-refused, with_labels-done}
use Rattle.listing.proofs.ListJobLaws.{lane_listing-run}
use Rattle.listing.proofs.inner.list_job.Goals as goal

pub unpack_images-requires : goal.unpack_images-requires
unpack_images-requires c =
    let p = c.requires in heading-unpackable _ _ p.told refl p.pictured p.masked

pub run_list-ran-requires : goal.run_list-ran-requires
run_list-ran-requires c =
    let a = c.args in
    let p = c.requires in
    let room = ap length p.queued ∙ length-replicate {A = ℕ} (a.job.now.width * a.job.now.height) 0 in
    let lent = (run_refusal-iff _ a.image.now a.mask.now _).1 (p.pictured, p.masked, omega (arith, room)) in
    rw c.as_slice-steps.ensures
    (run_job-steps_refusal _ _ p.told _ _ _ refl lent c.unpack_images.ensures.image c.unpack_images.ensures.mask)

pub put_listing-requires-clause-listed : goal.put_listing-requires-clause-listed
put_listing-requires-clause-listed c =
    let p = c.requires in
    let steps = c.args.job.now.steps in
    let room = labelled-room _ _ _ c.in-Ok.is c.label_image.ensures in
    record {
      valid = heading-sides _ _ p.told refl;
      few_steps = omega (arith, ap length c.as_slice-steps.ensures, length-take steps.count steps.slots, steps.within);
      recorded = record { few = records-few room p.records; room = omega (arith, c.label_image.auto.records) };
      room = p.room;
    }

pub returns-in-Ok : goal.returns-in-Ok
returns-in-Ok c =
    let p = c.requires in
    let answered = lane_listing-run _ _ p.told c.unpack_images.ensures.image c.unpack_images.ensures.mask p.queued
    (rw c.as_slice-steps.ensures at c.run_list-ran.ensures) p.components p.holes p.records _ _ _ _
    c.label_image.ensures in
    rw (answered ∙ with_labels-done _ _ _ _ c.in-Ok.is) (rw c.as_slice-steps.ensures at c.put_listing.ensures)

pub returns-in-Err : goal.returns-in-Err
returns-in-Err c =
    let p = c.requires in
    let answered = lane_listing-run _ _ p.told c.unpack_images.ensures.image c.unpack_images.ensures.mask p.queued
    (rw c.as_slice-steps.ensures at c.run_list-ran.ensures) p.components p.holes p.records _ _ _ _
    c.label_image.ensures in
    rw (answered ∙ with_labels-refused _ _ _ _ c.in-Err.is) c.put_refusal.ensures
