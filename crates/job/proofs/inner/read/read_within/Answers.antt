-- `read_within` meets its contract: the head, the step records and the images are read in the model's order,
-- and the first refusal ends the reading. Assumes nothing.
use native.Mathlib.Omega.{arith}
use borrow.Author.Rules.{rules, part_to_end}
use Rattle.job.proofs.ReadingLaws.{head-read, head-long, head-sides, head-few, steps-inside}
use Rattle.job.proofs.ReadingLaws.{heading-head, heading-steps, heading-images, heading-read}
use Rattle.job.proofs.inner.read.read_within.Goals as goal

pub returns-in_err-judge_head : goal.returns-in_err-judge_head
returns-in_err-judge_head c = heading-head _ _ c.judge_head.ensures c.in_err-judge_head.was (search rules)

pub u16_at-width-requires : goal.u16_at-width-requires
u16_at-width-requires c = omega (arith, head-long _ _ c.judge_head.ensures c.in_ok-judge_head.was)

pub u16_at-height-requires : goal.u16_at-height-requires
u16_at-height-requires c = omega (arith, head-long _ _ c.judge_head.ensures c.in_ok-judge_head.was)

pub bounds-bytes-7 : goal.bounds-bytes-7
bounds-bytes-7 c = omega (arith, head-long _ _ c.judge_head.ensures c.in_ok-judge_head.was)

pub slice_bounds-read_steps-count : goal.slice_bounds-read_steps-count
slice_bounds-read_steps-count c = omega (arith, head-long _ _ c.judge_head.ensures c.in_ok-judge_head.was)

pub slice_bounds-read_steps-start : goal.slice_bounds-read_steps-start
slice_bounds-read_steps-start c = omega (arith, head-long _ _ c.judge_head.ensures c.in_ok-judge_head.was)

pub read_steps-requires : goal.read_steps-requires
read_steps-requires c =
    head-few
    (head-read _ _ c.judge_head.ensures c.in_ok-judge_head.was c.u16_at-width.ensures c.u16_at-height.ensures
    c.from-total.ensures)

pub returns-in_err-steps : goal.returns-in_err-steps
returns-in_err-steps c =
    heading-steps
    (head-read _ _ c.judge_head.ensures c.in_ok-judge_head.was c.u16_at-width.ensures c.u16_at-height.ensures
    c.from-total.ensures)
    (rw part_to_end at c.read_steps.ensures) c.in_err-steps.was (search rules)

pub overflow_add-at : goal.overflow_add-at
overflow_add-at c =
    let inside = steps-inside
    (head-read _ _ c.judge_head.ensures c.in_ok-judge_head.was c.u16_at-width.ensures c.u16_at-height.ensures
    c.from-total.ensures)
    (rw part_to_end at c.read_steps.ensures) c.in_ok-steps.was in
    omega (arith, inside)

pub slice_bounds-judge_images-count : goal.slice_bounds-judge_images-count
slice_bounds-judge_images-count c =
    let inside = steps-inside
    (head-read _ _ c.judge_head.ensures c.in_ok-judge_head.was c.u16_at-width.ensures c.u16_at-height.ensures
    c.from-total.ensures)
    (rw part_to_end at c.read_steps.ensures) c.in_ok-steps.was in
    omega (arith, inside)

pub slice_bounds-judge_images-start : goal.slice_bounds-judge_images-start
slice_bounds-judge_images-start c =
    let inside = steps-inside
    (head-read _ _ c.judge_head.ensures c.in_ok-judge_head.was c.u16_at-width.ensures c.u16_at-height.ensures
    c.from-total.ensures)
    (rw part_to_end at c.read_steps.ensures) c.in_ok-steps.was in
    omega (arith, inside)

pub judge_images-requires : goal.judge_images-requires
judge_images-requires c =
    head-sides
    (head-read _ _ c.judge_head.ensures c.in_ok-judge_head.was c.u16_at-width.ensures c.u16_at-height.ensures
    c.from-total.ensures)

pub returns-in_err-judge_images : goal.returns-in_err-judge_images
returns-in_err-judge_images c =
    heading-images
    (head-read _ _ c.judge_head.ensures c.in_ok-judge_head.was c.u16_at-width.ensures c.u16_at-height.ensures
    c.from-total.ensures)
    (rw part_to_end at c.read_steps.ensures) c.in_ok-steps.was (rw part_to_end at c.judge_images.ensures)
    c.in_err-judge_images.was (search rules)

pub returns : goal.returns
returns c =
    heading-read
    (head-read _ _ c.judge_head.ensures c.in_ok-judge_head.was c.u16_at-width.ensures c.u16_at-height.ensures
    c.from-total.ensures)
    (rw part_to_end at c.read_steps.ensures) c.in_ok-steps.was (rw part_to_end at c.judge_images.ensures)
    c.in_ok-judge_images.was
