-- `put_bytes` meets its contract: the bytes are written one behind the other. Assumes nothing.
use mathlib.Core.Path.{refl, ◌∙◌}
use Rattle.lists.specs.Lists.{tabulate, count_from}
use Rattle.packing.specs.Groups.{bytes}
use Rattle.packing.proofs.GroupLaws.{le_bytes-bytes}
use Rattle.packing.proofs.RowsLaws.{appended-put_mid}
use Rattle.packing.proofs.inner.groups.put_bytes.Goals as goal

pub returns : goal.returns
unfolding bytes tabulate count_from
returns c =
    let written = c.copy_from_slice.ensures.after ∙ c.to_le_bytes.ensures ∙ le_bytes-bytes c.args.x in
    appended-put_mid _ _ _ _ _ written refl c.requires
