-- `unpack_groups` meets its contract: the pixels of each byte are written behind those before it. Assumes nothing.
use Prim.Native.Nat.{◌+◌, ◌*◌}
use mathlib.Core.Path.{◌≡◌, ap, ◌∙◌}
use native.Mathlib.Omega.{arith}
use native.Mathlib.Nat.{add-zero}
use lib.ListN.{get_or}
use Rattle.std.proofs.lemmas.List.Edits.{get_or-between}
use Rattle.lists.proofs.ListLaws.{tabulate-zero}
use Rattle.neighbours.proofs.AppendedLaws.{appended-none}
use Rattle.neighbours.proofs.PackedLaws.{row_units-ge}
use Rattle.model.specs.Codec.{byte_bits, row_bytes}
use Rattle.packing.specs.Groups.{spread}
use Rattle.packing.proofs.RowsLaws.{appended-tabulate-append}
use Rattle.packing.proofs.GroupLaws.{bytes-row}
use Rattle.packing.proofs.inner.unpack_groups.Goals as goal

pub slice_bounds-byte-items-end : goal.slice_bounds-byte-items-end
slice_bounds-byte-items-end c =
    rw c.row_bytes.ensures (omega (arith, row_units-ge byte_bits c.args.width (omega arith)))

pub loop-k-init : goal.loop-k-init
loop-k-init c = rw (tabulate-zero, add-zero) (appended-none _ _)

pub loop-k-preserved : goal.loop-k-preserved
loop-k-preserved c =
    let a = c.args in
    let k = c.loop-k.k in
    let first = a.y * row_bytes a.width in
    let fits = c.type_inv.packed (first + k) in
    let byte : c.from.result ≡ get_or a.packed.now (first + k) 0 =
    rw c.row_bytes.ensures at c.from.ensures ∙ get_or-between a.packed.now first (first + a.groups) k 0 (omega arith) in
    let pixels = bytes-row a.width a.packed.now k a.y c.spread_bits.result (omega arith)
    (c.spread_bits.ensures ∙ ap spread byte) in
    let next : 8 * (k + 1) ≡ 8 * k + 8 = omega arith in
    let end : a.y * a.width + (8 * k + 8) ≡ a.y * a.width + 8 * k + 8 = omega arith in
    rw (next, end)
    (appended-tabulate-append _ (8 * k) 8 c.loop-k.invariant (omega arith) (rw pixels at c.put_bytes.ensures))
