-- `contour_word` meets its contract: what an iteration by 4 with all sides object would take. Assumes nothing.
use Rattle.neighbours.proofs.WordLaws.{bit-contour}
use Rattle.neighbours.proofs.inner.words.contour_word.Goals as goal

pub returns : goal.returns
returns c width height image k y round j l h =
    bit-contour width height image _ round j l h
    (c.without_background.ensures width height _ image _ k y round j l h)
