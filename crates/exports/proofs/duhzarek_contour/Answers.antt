-- `duhzarek_contour` meets its contract: it tells the length of what `morphology::contour` hands on. Assumes nothing.
use mathlib.Core.Path.{ap}
use lib.ListN.{length}
use Rattle.exports.proofs.duhzarek_contour.Goals as goal

pub returns : goal.returns
returns c = ap length c.contour-positions.ensures
