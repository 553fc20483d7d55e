-- `on_words::scan_only` meets its contract: the contour found, with zeros behind. Assumes nothing.
use native.Mathlib.Omega.{arith}
use Rattle.neighbours.proofs.BlankRowLaws.{blank_rows-le}
use Rattle.performing.proofs.StartLaws.{scanned-fits}
use Rattle.performing.proofs.OnWordsLaws.{scanned-only}
use Rattle.performing.proofs.inner.on_words.scan_only.Goals as goal

pub overflow_cast-result : goal.overflow_cast-result
overflow_cast-result c =
    omega (arith, scanned-fits _ _ _ _ c.requires.workable.ready c.scan_band-found.ensures.listed)

pub overflow_cast-result-2 : goal.overflow_cast-result-2
overflow_cast-result-2 c = omega (arith, blank_rows-le c.args.width c.args.height c.args.image.now)

pub returns : goal.returns
returns c =
    let found = c.scan_band-found.ensures in
    scanned-only c.requires.workable.ready.room found.listed found.counted c.clear_behind.ensures
