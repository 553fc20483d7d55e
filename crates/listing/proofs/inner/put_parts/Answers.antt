-- `put_parts` meets its contract: a turn writes the line of one component more. Assumes nothing.
use Prim.Native.Nat.{◌+◌, ◌-◌}
use mathlib.Core.Path.{◌≡◌}
use mathlib.Core.List.{flat_map}
use native.Mathlib.Omega.{arith}
use Rattle.lists.specs.Lists.{count_from}
use Rattle.lists.specs.Text.{ascii}
use Rattle.neighbours.proofs.AppendedLaws.{appended-none, appended-append}
use Rattle.listing.proofs.LineLaws.{end-line-le, length-part_line-le, part_lines-written}
use Rattle.listing.proofs.inner.put_parts.Goals as goal

pub loop-p-init : goal.loop-p-init
unfolding flat_map count_from
loop-p-init c =
    let first = end-line-le _ _ c.put_line-end.ensures (omega arith) (omega arith) in
    (omega arith, appended-none _ _, omega (arith, c.put_line-end.auto.buffer))

pub put_part-end-requires-clause-line_room_in_bounds : goal.put_part-end-requires-clause-line_room_in_bounds
put_part-end-requires-clause-line_room_in_bounds c = omega (arith, c.loop-p.auto.listing)

pub loop-p-preserved : goal.loop-p-preserved
loop-p-preserved c =
    let p = c.loop-p.p in
    let (few, before, room) = c.loop-p.invariant in
    let line = c.put_part-end.ensures in
    let this : p + 1 - 1 ≡ p = omega arith in (
      omega arith,
      rw this (part_lines-written _ _ (omega arith) (omega arith) before line),
      omega (arith, line.counted, length-part_line-le c.args.records.now p),
    )

pub returns : goal.returns
unfolding ascii
returns c =
    let (few, before, room) = c.loop-p.invariant in
    let all : c.loop-p.p - 1 ≡ c.args.counts.components = omega arith in
    appended-append c.put_line-end.ensures (omega (arith, c.put_line-end.auto.buffer)) (rw all at before)

pub returns-2 : goal.returns-2
unfolding ascii
returns-2 c =
    let (few, before, room) = c.loop-p.invariant in
    let last : c.loop-p.p ≡ c.args.counts.components = omega arith in
    let written = part_lines-written _ _ (omega arith) (omega arith) before c.put_part-end.ensures in
    appended-append c.put_line-end.ensures (omega (arith, c.put_line-end.auto.buffer)) (rw last at written)
