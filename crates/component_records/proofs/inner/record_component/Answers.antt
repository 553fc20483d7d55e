-- `record_component` meets its contract: a stretch of no component changes nothing, one with a label seen
-- before extends its record, and one with a label not seen is the first of the next component. Assumes nothing.
use Prim.Native.Nat.{ℕ, suc, ◌-◌, ◌*◌, ◌≤◌, ◌<◌}
use mathlib.Core.Path.{◌≡◌, refl}
use mathlib.Core.Bool.{cond, ◌||◌}
use mathlib.Core.List.{List}
use native.Mathlib.Omega.{arith}
use lib.Dec.{eqb}
use lib.ListN.{length, get_or}
use Rattle.neighbours.specs.Grid.{position}
use Rattle.neighbours.proofs.PositionLaws.{position-lt}
use Rattle.model.specs.Limits.{record_length}
use Rattle.model.specs.Labelling.{Labels}
use Rattle.component_records.specs.declared.Seen.{Seen}
use Rattle.component_records.specs.Records.{InRow, record_at, with_record, started_record, extended_record}
use Rattle.component_records.specs.Records.{Recorded, Kept, Recording}
use Rattle.component_records.proofs.SameLabelLaws.{in_row-column}
use Rattle.component_records.proofs.SeenLaws.{label-le}
use Rattle.component_records.proofs.RecordedLaws.{recorded-outside, extended-area, recorded-extended}
use Rattle.component_records.proofs.RecordedLaws.{recorded-parent, recorded-started, kept-with_record, writable-same}
use Rattle.component_records.proofs.inner.record_component.Goals as goal

-- p is the label of the columns from x up to `end` of row y
module _ {width height x end y : ℕ} {cs hs : Labels} {seen : Seen} {queue records : List ℕ} {p : ℕ}
    (r : Recording width height cs hs (position width x y) (suc (position width x y)) seen queue records)
    (row : InRow width height cs.labels x end y) (here : p ≡ get_or cs.labels (position width x y) 0) where
  -- its record is among the records
  room : record_length * p ≤ length records
  room = omega (arith, r.writable.room, r.writable.maps.components.most (position width x y))

  -- what is written is recorded, and leaves room
  written : {seen' : Seen} (entries : List ℕ) {records' : List ℕ} → 1 ≤ p → p ≤ seen'.components →
      length entries ≡ record_length → records' ≡ with_record p entries records →
      Recorded width height cs hs (position width end y) (suc (position width x y)) seen' queue records' →
      Recording width height cs hs (position width end y) (suc (position width x y)) seen' queue records'
      × Kept seen'.components records records'
  written entries one upto size e recorded =
      let kept = kept-with_record p _ entries one upto room size e in
      (record { writable = writable-same r.writable refl kept.size; recorded = recorded }, kept)

  -- a further stretch of component p
  extended : 1 ≤ p → p ≤ seen.components → {records' : List ℕ} →
      records' ≡ with_record p (extended_record x end y (record_at p records)) records →
      Recording width height cs hs (position width end y) (suc (position width x y)) seen queue records'
      × Kept seen.components records records'
  unfolding extended_record
  extended one old e =
      written _ one old refl e (recorded-extended r.writable.maps row p here r.recorded one old room e)

  -- its first stretch
  started : seen.components < p → {q : ℕ} {records' : List ℕ} →
      let hole = get_or hs.labels (position width x y - 1) 0 in
      q ≡ cond (eqb x 0 || eqb hole 0) 0 (get_or queue (hole - 1) 0) →
      records' ≡ with_record p (started_record p x end y q) records →
      Recording width height cs hs (position width end y) (suc (position width x y))
      (record { components = p; holes = seen.holes })
      queue
      records'
      × Kept p records records'
  unfolding started_record
  started new above e =
      let maps = r.writable.maps in
      let parent = recorded-parent maps row p here r.recorded new above in
      written _ (omega arith) (omega arith) refl e (recorded-started maps row p here r.recorded new room parent e)

pub returns-then-p-eq0-clause-recorded : goal.returns-then-p-eq0-clause-recorded
returns-then-p-eq0-clause-recorded c =
    let r = c.requires.recording in
    record {
      writable = r.writable;
      recorded = recorded-outside r.writable.maps r.recorded c.requires.in_row.stretch (omega arith);
    }

pub extend_record-requires-clause-records_bound : goal.extend_record-requires-clause-records_bound
extend_record-requires-clause-records_bound c =
    let r = c.requires.recording in
    extended-area r.writable.maps c.requires.in_row _ c.label_at-p.ensures r.recorded (omega arith) c.if-p-seen.true

pub returns-then-p-seen-clause-recorded : goal.returns-then-p-seen-clause-recorded
returns-then-p-seen-clause-recorded c =
    (extended c.requires.recording c.requires.in_row c.label_at-p.ensures (omega arith) c.if-p-seen.true
    c.extend_record.ensures).0

pub returns-then-p-seen-clause-kept : goal.returns-then-p-seen-clause-kept
returns-then-p-seen-clause-kept c =
    (extended c.requires.recording c.requires.in_row c.label_at-p.ensures (omega arith) c.if-p-seen.true
    c.extend_record.ensures).1

pub parent_of-parent-requires : goal.parent_of-parent-requires
parent_of-parent-requires c =
    let a = c.args in
    let writable = c.requires.recording.writable in
    let row = c.requires.in_row in
    let before = position-lt (in_row-column row) row.low in
    let label = label-le writable.maps.holes (position a.width a.x a.y - 1) in
    record {
      column = omega arith;
      inside = omega (arith, writable.maps.holes.pixels);
      room = omega (arith, writable.slots);
    }

pub returns-clause-recorded : goal.returns-clause-recorded
returns-clause-recorded c =
    (started c.requires.recording c.requires.in_row c.label_at-p.ensures c.if-p-seen.false c.parent_of-parent.ensures
    c.start_record.ensures).0

pub returns-clause-kept : goal.returns-clause-kept
returns-clause-kept c =
    (started c.requires.recording c.requires.in_row c.label_at-p.ensures c.if-p-seen.false c.parent_of-parent.ensures
    c.start_record.ensures).1
