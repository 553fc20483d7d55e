-- `operate_in` meets its contract: the lent rows are copied into the room, operated on there and copied back. Assumes
-- nothing.
use mathlib.Core.Path.{sym}
use lib.Seq.{length-take-le}
use Rattle.words.proofs.RoomLaws.{lent-inside}
use Rattle.words.proofs.inner.operate_in.Goals as goal

pub slice_bounds-copy_from_slice-end : goal.slice_bounds-copy_from_slice-end
slice_bounds-copy_from_slice-end c = lent-inside c.requires.lent

pub slice_bounds-copy_from_slice-end-2 : goal.slice_bounds-copy_from_slice-end-2
slice_bounds-copy_from_slice-end-2 c = sym (length-take-le _ _ (lent-inside c.requires.lent))

pub copy_from_slice-requires : goal.copy_from_slice-requires
copy_from_slice-requires c = length-take-le _ _ (lent-inside c.requires.lent)
