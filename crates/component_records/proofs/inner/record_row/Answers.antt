-- `record_row` meets its contract: a turn records a stretch, whose first pixel alone may start a hole. Assumes nothing.
use Rattle.std.proofs.Common.{◌≡◌, ◌-◌, ◌*◌, arith}
use native.Mathlib.Nat.{le_of_lt}
use Rattle.neighbours.specs.Grid.{position}
use Rattle.component_records.proofs.SeenLaws.{seen-le}
use Rattle.component_records.proofs.RecordedLaws.{recorded-inside, kept_trans}
use Rattle.component_records.proofs.inner.record_row.Goals as goal

pub loop-x-preserved : goal.loop-x-preserved
loop-x-preserved c =
    let a = c.args in
    let (_, _, kept) = c.loop-x.invariant in
    let hole = c.record_hole-now.ensures in
    let stretch = c.record_component-now.ensures in
    let same = c.label_end.ensures.same in
    let end : position a.width (c.label_end.result - a.y * a.width) a.y ≡ c.label_end.result =
    omega (arith, same.some) in
    let recorded = stretch.recorded.recorded in
    let maps = stretch.recorded.writable.maps in
    let upto =
    seen-le maps.components hole.recorded.recorded.components recorded.components (rw end (le_of_lt same.some)) in (
      omega (arith, c.label_end.ensures.within),
      record {
        writable = stretch.recorded.writable;
        recorded = recorded-inside maps (rw end same) recorded;
      },
      kept_trans (kept_trans kept hole.kept (omega (arith, hole.same))) stretch.kept upto,
    )
