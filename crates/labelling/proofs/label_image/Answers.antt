-- `label_image` meets its contract: it asks the table's rows in turn, joins, labels, asks the row of the counts, and
-- clears what it has written or writes the records. Assumes nothing.
use mathlib.Core.Path.{refl, ◌∙◌}
use borrow.Author.Rules.{rules}
use Rattle.neighbours.proofs.CropLaws.{ready-same}
use Rattle.judging.proofs.JudgeLaws.{verdict-refused, verdict-accepted}
use Rattle.labelling.proofs.LabelImageLaws.{label-connectivity, label-ready, label-sizes}
use Rattle.labelling.proofs.LabelImageLaws.{refused-before, refused-counts, writable, done, zeros-behind-none}
use Rattle.labelling.proofs.label_image.Goals as goal

pub returns-in_err-judge_labelling : goal.returns-in_err-judge_labelling
returns-in_err-judge_labelling c =
    refused-before _ _ _ _ _ _ _ _
    (verdict-refused c.judge_labelling.ensures c.in_err-judge_labelling.was) (search rules)

pub join_image-requires : goal.join_image-requires
join_image-requires c =
    let p = verdict-accepted c.judge_labelling.ensures c.in_ok-judge_labelling.was in
    let ready = label-ready _ _ _ _ _ _ _ p in
    let sizes = label-sizes _ _ _ _ _ _ _ p in
    record {
      sized = record { valid = ready.valid; pixels = ready.binary.pixels };
      flag_size = sizes.1;
      found_size = sizes.0;
      room = ready.room;
    }

pub label_holes-hole_count-requires : goal.label_holes-hole_count-requires
label_holes-hole_count-requires c =
    let p = verdict-accepted c.judge_labelling.ensures c.in_ok-judge_labelling.was in
    let join = c.join_image.ensures in
    record {
      ready = ready-same (label-ready _ _ _ _ _ _ _ p) refl join.kept;
      known = label-connectivity _ _ _ _ _ _ _ p;
      regions = join.joined;
      size = join.flags;
    }

pub label_components-count-requires : goal.label_components-count-requires
label_components-count-requires c =
    let p = verdict-accepted c.judge_labelling.ensures c.in_ok-judge_labelling.was in
    let holes = c.label_holes-hole_count.ensures in
    record {
      ready = ready-same (label-ready _ _ _ _ _ _ _ p) refl (holes.kept ∙ c.join_image.ensures.kept);
      known = label-connectivity _ _ _ _ _ _ _ p;
      regions = holes.regions;
      size = c.join_image.ensures.found;
    }

pub returns-in-Err : goal.returns-in-Err
returns-in-Err c =
    let p = verdict-accepted c.judge_labelling.ensures c.in_ok-judge_labelling.was in
    let holes = c.label_holes-hole_count.ensures in
    let row = verdict-refused c.judge_counts.ensures c.in-Err.is in
    let zeros = zeros-behind-none c.clear_behind.ensures (holes.kept ∙ c.join_image.ensures.kept) in
    refused-counts _ _ _ _ _ _ _ _ p c.label_components-count.ensures holes.labelled _ row c.clear.ensures
    c.clear-in-Err.ensures zeros

pub write_records-requires : goal.write_records-requires
write_records-requires c =
    let p = verdict-accepted c.judge_labelling.ensures c.in_ok-judge_labelling.was in
    let holes = c.label_holes-hole_count.ensures in
    let row = verdict-accepted c.judge_counts.ensures c.in_default.is in
    writable _ _ _ _ _ _ _ _ p c.label_components-count.ensures holes.labelled row
    (holes.kept ∙ c.join_image.ensures.kept)

pub returns : goal.returns
returns c =
    let p = verdict-accepted c.judge_labelling.ensures c.in_ok-judge_labelling.was in
    let holes = c.label_holes-hole_count.ensures in
    let row = verdict-accepted c.judge_counts.ensures c.in_default.is in
    let kept = c.write_records.ensures.queued ∙ holes.kept ∙ c.join_image.ensures.kept in
    let zeros = zeros-behind-none c.clear_behind-2.ensures kept in
    done _ _ _ _ _ _ _ _ p c.label_components-count.ensures holes.labelled row c.write_records.ensures.written zeros
