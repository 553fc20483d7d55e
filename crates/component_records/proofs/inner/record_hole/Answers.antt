-- `record_hole` meets its contract: a label not seen is that of the next hole, whose first pixel this is: the component
-- to the left encloses it. Assumes nothing.
use Prim.Native.Nat.{ℕ, suc, ◌-◌, ◌*◌, ◌<◌}
use mathlib.Core.Path.{◌≡◌, refl, ap, ◌∙◌}
use mathlib.Core.List.{List}
use native.Mathlib.Omega.{arith}
use lib.ListN.{length, get_or, set, length-set}
use Rattle.neighbours.specs.Limits.{max_pixels}
use Rattle.model.specs.Labelling.{Labels}
use Rattle.component_records.specs.declared.Seen.{Seen}
use Rattle.component_records.specs.Records.{record_at, with_record, HasRecord, enclosing_record, Kept, Recording}
use Rattle.component_records.proofs.RecordedLaws.{recorded-enclosing, hole-le, enclosing-pos, enclosing-most}
use Rattle.component_records.proofs.RecordedLaws.{enclosing-seen, enclosing-few, kept-with_record, writable-same}
use Rattle.component_records.proofs.inner.record_hole.Goals as goal

-- the pixel is the first of its hole, and p the label to the left
module _ {width height : ℕ} {cs hs : Labels} {at : ℕ} {seen : Seen} {queue records : List ℕ} {hole p : ℕ}
    (r : Recording width height cs hs at at seen queue records) (here : hole ≡ get_or hs.labels at 0)
    (new : seen.holes < hole) (left : p ≡ get_or cs.labels (at - 1) 0) where
  slot : HasRecord p records
  slot =
      let most = enclosing-most r.writable.maps r.recorded hole here new p left in
      record {
        one = enclosing-pos r.writable.maps r.recorded hole here new p left;
        most = omega (arith, r.writable.maps.few_components);
        room = omega (arith, r.writable.room);
      }

  few : get_or (record_at p records) 8 0 < max_pixels
  few = enclosing-few r.writable.maps r.recorded hole here new p left

  -- what holds when the hole is counted
  enclosed : at < width * height → {queue' records' : List ℕ} → queue' ≡ set queue (hole - 1) p →
      records' ≡ with_record p (enclosing_record (record_at p records)) records →
      Recording width height cs hs at (suc at) (record { components = seen.components; holes = hole }) queue' records'
      × Kept seen.components records records'
  unfolding enclosing_record
  enclosed inside stored e =
      let maps = r.writable.maps in
      let upto = enclosing-seen maps r.recorded hole here new p left in
      let free : at < length queue = omega (arith, r.writable.slots) in
      let kept = kept-with_record p seen.components _ slot.one upto slot.room refl e in
      let queued = ap length stored ∙ length-set queue (hole - 1) p in (
        record {
          writable = writable-same r.writable queued kept.size;
          recorded = recorded-enclosing maps r.recorded hole here new p left slot.room free stored e;
        },
        kept,
      )

pub put_queued-requires-clause-slot_in_bounds : goal.put_queued-requires-clause-slot_in_bounds
put_queued-requires-clause-slot_in_bounds c =
    let r = c.requires.recording in
    omega (arith, hole-le r.writable.maps r.recorded _ c.label_at-hole.ensures c.if-hole-seen.false, r.writable.slots)

pub count_hole-requires-clause-has_record : goal.count_hole-requires-clause-has_record
count_hole-requires-clause-has_record c =
    slot c.requires.recording c.label_at-hole.ensures c.if-hole-seen.false c.label_at-parent.ensures

pub count_hole-requires-clause-records_bound : goal.count_hole-requires-clause-records_bound
count_hole-requires-clause-records_bound c =
    few c.requires.recording c.label_at-hole.ensures c.if-hole-seen.false c.label_at-parent.ensures

pub returns-clause-recorded : goal.returns-clause-recorded
returns-clause-recorded c =
    (enclosed c.requires.recording c.label_at-hole.ensures c.if-hole-seen.false c.label_at-parent.ensures
    c.requires.at_bound c.put_queued.ensures c.count_hole.ensures).0

pub returns-clause-kept : goal.returns-clause-kept
returns-clause-kept c =
    (enclosed c.requires.recording c.label_at-hole.ensures c.if-hole-seen.false c.label_at-parent.ensures
    c.requires.at_bound c.put_queued.ensures c.count_hole.ensures).1
