-- `room::operate` reports a run and the areas before and after it. Assumes nothing.
use Rattle.std.proofs.Common.{refl, arith}
use Rattle.words.specs.Room.{front_rows}
use Rattle.words.proofs.OperatedLaws.{clean-ran, ran-fits, operated-ran}
use Rattle.words.proofs.inner.room.operate.Goals as goal

pub area-after-requires-clause-clean : goal.area-after-requires-clause-clean
area-after-requires-clause-clean c =
    let a = c.args in
    clean-ran a.width a.height c.requires.clean.valid (front_rows a.width a.height a.rows.now)
    a.run.connectivity a.run.sides a.run.iterations a.run.turn c.run_rows-used.ensures

pub report-requires : goal.report-requires
report-requires c =
    let a = c.args in
    let fits = ran-fits a.width a.height c.requires.clean.valid (front_rows a.width a.height a.rows.now)
    a.run.connectivity a.run.sides a.run.iterations a.run.turn c.run_rows-used.ensures c.area-before.ensures
    c.area-after.ensures (omega arith) in
    record { before_le_max_pixels = fits.0; used_lt_u16limit = fits.2; after_le_max_pixels = fits.1 }

pub returns : goal.returns
returns c =
    let a = c.args in
    rw c.report.ensures
    (operated-ran a.width a.height c.requires.clean.valid (front_rows a.width a.height a.rows.now)
    a.run.connectivity a.run.sides a.run.iterations a.run.turn c.run_rows-used.ensures c.area-before.ensures
    c.area-after.ensures a.run.outside refl)
