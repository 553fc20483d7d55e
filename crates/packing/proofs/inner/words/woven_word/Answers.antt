-- `woven_word` meets its contract: the row has as many pixels left as a word has bits, or fewer. Assumes nothing.
use Rattle.std.proofs.Common.{◌∙◌, arith}
use Rattle.packing.proofs.GroupLaws.{pixel_bits-word}
use Rattle.packing.proofs.inner.words.woven_word.Goals as goal

pub returns : goal.returns
returns c =
    let a = c.args in
    c.woven.ensures
    ∙ pixel_bits-word a.image.now a.width a.x a.y c.min.result c.requires.x_lt_width (omega arith)
