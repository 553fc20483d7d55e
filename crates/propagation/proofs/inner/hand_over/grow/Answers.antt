-- `grow` meets its contract: layers from the pixels that an iteration added. Assumes nothing.
use Rattle.propagation.proofs.HandOverLaws.{grounded-stretch, grounded-image, grounded-used}
use Rattle.propagation.proofs.inner.hand_over.grow.Goals as goal

pub layers-grown-requires : goal.layers-grown-requires
layers-grown-requires c = grounded-stretch c.requires

pub returns : goal.returns
returns c =
    let grown = c.layers-grown.ensures in
    record { pictured = grounded-image c.requires grown; used = grounded-used c.requires grown }
