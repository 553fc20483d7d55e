-- `put_listing` meets its contract: a line, at most 32 lines of steps, a line, and at most 1,024 lines of components
-- stand one behind the other; with `line_room` bytes for each they fit. Assumes nothing.
use mathlib.Core.List.{append_assoc}
use native.Mathlib.Omega.{arith}
use Rattle.lists.specs.Text.{ascii}
use Rattle.neighbours.proofs.AppendedLaws.{appended-append}
use Rattle.listing.proofs.LineLaws.{end-line-le, end-step_lines-le}
use Rattle.listing.proofs.inner.put_listing.Goals as goal

pub put_steps-parts_at-requires-clause-room : goal.put_steps-parts_at-requires-clause-room
put_steps-parts_at-requires-clause-room c =
    let plate_end = end-line-le _ _ c.put_line-steps_at.ensures (omega arith) (omega arith) in
    omega (arith, c.put_line-steps_at.auto.buffer, c.requires.listed.few_steps, c.requires.listed.room)

pub put_parts-requires-clause-components_in_bounds : goal.put_parts-requires-clause-components_in_bounds
put_parts-requires-clause-components_in_bounds c =
    let plate_end = end-line-le _ _ c.put_line-steps_at.ensures (omega arith) (omega arith) in
    let steps_end = end-step_lines-le _ _ _ c.put_steps-parts_at.ensures in
    let listed = c.requires.listed in
    omega (
      arith,
      c.put_line-steps_at.auto.buffer,
      c.put_steps-parts_at.auto.listing,
      listed.few_steps,
      listed.recorded.few,
      listed.room,
    )

pub returns : goal.returns
unfolding ascii
returns c =
    let listed = c.requires.listed in
    let plate = c.put_line-steps_at.ensures in
    let steps = c.put_steps-parts_at.ensures in
    let plate_end = end-line-le _ _ plate (omega arith) (omega arith) in
    let steps_end = end-step_lines-le _ _ _ steps in
    let below = appended-append steps (omega (arith, c.put_line-steps_at.auto.buffer)) c.put_parts.ensures in
    simp append_assoc (appended-append plate (omega arith) below)
