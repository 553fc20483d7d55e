-- `put_part` meets its contract: the record and the depth behind it are the fields. Assumes nothing.
use Prim.Native.Nat.{◌+◌, ◌-◌, ◌*◌}
use mathlib.Core.Path.{◌≡◌}
use mathlib.Core.List.{[]}
use native.Mathlib.Omega.{arith}
use Rattle.std.proofs.lemmas.List.{set_at}
use Rattle.lists.specs.Text.{ascii}
use Rattle.model.specs.Limits.{record_length}
use Rattle.model.specs.Listing.{part_line}
use Rattle.listing.proofs.inner.put_part.Goals as goal

pub returns : goal.returns
unfolding ascii part_line
returns c =
    let first = record_length * (c.args.p - 1) in
    let ten : first + record_length - first ≡ record_length = omega arith in
    let record_copied = rw ten at c.copy_from_slice.ensures.after in
    rw (set_at _ 0 [] _ 10 c.copy_from_slice.ensures.len, record_copied, c.depth.ensures) at c.put_line.ensures
