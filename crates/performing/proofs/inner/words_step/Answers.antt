-- `words_step` meets its contract: the operation from rows to rows, and its contour counted. Assumes nothing.
use Rattle.performing.proofs.OnWordsLaws.{held-operated}
use Rattle.performing.proofs.StepRowsLaws.{stepped-words}
use Rattle.performing.proofs.inner.words_step.Goals as goal

pub count_contour-len-requires : goal.count_contour-len-requires
count_contour-len-requires c =
    let done = c.operate_rows-done in
    held-operated _ c.requires.held.in_room done.ensures done.auto.rows done.auto.entries

pub returns : goal.returns
returns c =
    let counted = c.count_contour-len.ensures in
    rw c.report.ensures
    (stepped-words _ _ _ c.requires.held.in_room.valid c.operate_rows-done.ensures counted.count counted.kept)
