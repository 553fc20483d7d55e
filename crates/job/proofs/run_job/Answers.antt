-- `run_job` meets its contract: the job or a lent buffer is refused, or the images are unpacked and the
-- steps are run as a list. Assumes nothing.
use native.Mathlib.Omega.{arith}
use borrow.Author.Rules.{rules}
use Rattle.neighbours.proofs.PositionLaws.{size-le}
use Rattle.theorems.proofs.RunLaws.{run_refusal-iff}
use Rattle.job.proofs.ReadingLaws.{answer-accepted}
use Rattle.job.proofs.HeadingLaws.{heading-sides, heading-unpackable}
use Rattle.job.proofs.RunJobLaws.{run_job-refused, run_job-wrong, run_job-steps_refusal, run_job-done}
use Rattle.job.proofs.run_job.Goals as goal

pub returns-in_err-head : goal.returns-in_err-head
returns-in_err-head c = run_job-refused _ _ c.read_within.ensures _ _ _ c.in_err-head.was (search rules)

pub overflow_mul-pixels : goal.overflow_mul-pixels
overflow_mul-pixels c = omega (arith, size-le (heading-sides _ _ c.read_within.ensures c.in_ok-head.was))

pub returns-in_err-judge_buffers : goal.returns-in_err-judge_buffers
returns-in_err-judge_buffers c =
    run_job-wrong _ _ c.read_within.ensures _ _ _ c.in_ok-head.was c.judge_buffers.ensures c.in_err-judge_buffers.was
    (search rules)

pub unpack_images-requires : goal.unpack_images-requires
unpack_images-requires c =
    let fits = (run_refusal-iff _ _ _ _).0 (answer-accepted c.judge_buffers.ensures c.in_ok-judge_buffers.was) in
    heading-unpackable _ _ c.read_within.ensures c.in_ok-head.was fits.0 fits.1

pub run_list-requires : goal.run_list-requires
run_list-requires c =
    rw c.as_slice-steps.ensures
    (run_job-steps_refusal _ _ c.read_within.ensures _ _ _ c.in_ok-head.was
    (answer-accepted c.judge_buffers.ensures c.in_ok-judge_buffers.was) c.unpack_images.ensures.image
    c.unpack_images.ensures.mask)

pub returns : goal.returns
returns c =
    run_job-done _ _ c.read_within.ensures _ _ _ c.in_ok-head.was
    (answer-accepted c.judge_buffers.ensures c.in_ok-judge_buffers.was) c.unpack_images.ensures.image
    c.unpack_images.ensures.mask (rw c.as_slice-steps.ensures at c.run_list.ensures)
