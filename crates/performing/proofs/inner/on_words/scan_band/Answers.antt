-- `on_words::scan_band` meets its contract: what is found in the band is what is found in the image. Assumes nothing.
use native.Mathlib.Omega.{arith}
use Rattle.neighbours.proofs.BlankRowLaws.{blank_rows-le}
use Rattle.performing.proofs.BandLaws.{band-packable, band-held, band-found}
use Rattle.performing.proofs.inner.on_words.scan_band.Goals as goal

pub pack-requires-clause-packable : goal.pack-requires-clause-packable
pack-requires-clause-packable c = (band-packable c.requires.band c.requires.workable).0

pub pack-requires-clause-height_in_bounds : goal.pack-requires-clause-height_in_bounds
pack-requires-clause-height_in_bounds c = (band-packable c.requires.band c.requires.workable).1

pub list_contour-found-requires-clause-held_rows : goal.list_contour-found-requires-clause-held_rows
list_contour-found-requires-clause-held_rows c =
    band-held c.requires.band c.requires.workable _ c.pack.ensures c.pack.auto.rows

pub returns : goal.returns
returns c =
    let listed = c.list_contour-found.ensures in
    let found = band-found c.requires.band c.requires.workable _ c.pack.ensures listed.listed listed.counted in
    record { listed = found.0; counted = found.1 }

-- there are no more blank rows than rows
pub overflow_add-result : goal.overflow_add-result
overflow_add-result c =
    let listed = c.list_contour-found.ensures in
    let found = band-found c.requires.band c.requires.workable _ c.pack.ensures listed.listed listed.counted in
    omega (
      arith,
      found.1,
      blank_rows-le c.args.width c.args.height c.args.image.now,
      c.requires.workable.ready.valid.low,
    )
