-- `propagate` meets its contract: the mask packed, the iterations, and the areas before and after them. Assumes
-- nothing.
use native.Mathlib.Omega.{arith}
use borrow.Author.Rules.{rules}
use lib.ListN.{take, drop, take-append-drop}
use Rattle.neighbours.specs.Words.{word_bits}
use Rattle.neighbours.proofs.PackedLaws.{Units, units-front}
use Rattle.model.specs.Words.{words_length}
use Rattle.words.specs.Room.{front_rows}
use Rattle.propagation.proofs.HandOverLaws.{handing-rows}
use Rattle.propagation.proofs.PropagateLaws.{none-reports, none-operated, spreadable-handing}
use Rattle.propagation.proofs.PropagateLaws.{spreadable-shared, spreadable-le, spreadable-clean}
use Rattle.propagation.proofs.PropagateLaws.{spreadable-reports, spreadable-operated}
use Rattle.propagation.proofs.inner.propagate.Goals as goal

-- ---- no iteration

pub report-requires : goal.report-requires
report-requires c = none-reports c.requires.held.clean c.area-before.ensures

pub returns-then-iterations-eq0 : goal.returns-then-iterations-eq0
returns-then-iterations-eq0 c =
    let a = c.args in
    let n = words_length a.width a.height in
    let all : Units word_bits a.rows.now = search rules in
    let units : Units word_bits (front_rows a.width a.height a.rows.now) =
    units-front word_bits (take n a.rows.now) (drop n a.rows.now) (rw (take-append-drop n a.rows.now) all) in
    rw c.report.ensures
    (none-operated c.requires.held.clean c.area-before.ensures a.mask.now c.if-iterations-eq0.true units)

-- ---- some iterations

pub shared_area-shared-requires-clause-clean_mask : goal.shared_area-shared-requires-clause-clean_mask
shared_area-shared-requires-clause-clean_mask c =
    (handing-rows (spreadable-handing c.requires c.pack.auto.rows c.pack.ensures) c.words_length-n.ensures).masked

pub spread_rows-used-requires-clause-shared_le_max_pixels : goal.spread_rows-used-requires-clause-shared_le_max_pixels
spread_rows-used-requires-clause-shared_le_max_pixels c =
    spreadable-le c.requires
    (spreadable-shared c.requires c.pack.new.rows c.words_length-n.ensures c.pack.ensures c.shared_area-shared.ensures)

pub area-after-requires-clause-clean : goal.area-after-requires-clause-clean
area-after-requires-clause-clean c =
    spreadable-clean c.requires (omega (arith, c.if-iterations-eq0.false)) c.spread_rows-used.new.rows
    c.spread_rows-used.ensures.packed

pub report-requires-2 : goal.report-requires-2
report-requires-2 c =
    spreadable-reports c.requires (omega (arith, c.if-iterations-eq0.false)) c.spread_rows-used.new.rows
    c.spread_rows-used.ensures.packed c.area-before.ensures
    (spreadable-shared c.requires c.pack.new.rows c.words_length-n.ensures c.pack.ensures c.shared_area-shared.ensures)
    c.spread_rows-used.ensures.counted c.area-after.ensures (omega (arith, c.ranges.iterations.fits))

pub returns : goal.returns
returns c =
    rw (c.report-2.ensures, ← c.from.ensures)
    (spreadable-operated c.requires (omega (arith, c.if-iterations-eq0.false)) c.spread_rows-used.new.rows
    c.spread_rows-used.ensures.packed c.area-before.ensures
    (spreadable-shared c.requires c.pack.new.rows c.words_length-n.ensures c.pack.ensures c.shared_area-shared.ensures)
    c.spread_rows-used.ensures.counted c.area-after.ensures)
