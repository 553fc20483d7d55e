-- `start_of` meets its contract, test by test. Assumes nothing.
use borrow.Author.Tests.{eq-eqb, ne_eqb}
use Rattle.exports.specs.Numbers.{scan_number, start_of}
use Rattle.exports.proofs.inner.start_of.Goals as goal

pub returns-then-start-eq-SCAN : goal.returns-then-start-eq-SCAN
unfolding start_of scan_number
returns-then-start-eq-SCAN c = rw (eq-eqb _ scan_number c.if-start-eq-SCAN.true)

pub returns : goal.returns
unfolding start_of scan_number
returns c = rw (ne_eqb _ scan_number c.if-start-eq-SCAN.false)
