-- `unpack_row` meets its contract: the pixels of one word more are written to their place. Assumes nothing.
use Rattle.std.proofs.Common.{ℕ, ◌≡◌, ◌+◌, ◌*◌, min, arith}
use native.Mathlib.Nat.{add-zero, zero-min}
use Rattle.lists.proofs.ListLaws.{tabulate-zero}
use Rattle.neighbours.specs.Packed.{packed_pixel}
use Rattle.neighbours.proofs.AppendedLaws.{appended-none}
use Rattle.neighbours.proofs.PackedLaws.{row_units-ge, row_units-lt}
use Rattle.packing.specs.Rows.{row_unpacked}
use Rattle.packing.proofs.RowsLaws.{appended-tabulate-append}
use Rattle.packing.proofs.GroupLaws.{word_pixels-row}
use Rattle.packing.proofs.inner.words.unpack_row.Goals as goal

pub loop-k-init : goal.loop-k-init
loop-k-init c = rw (zero-min, tabulate-zero, add-zero) (appended-none _ _)

pub loop-k-preserved : goal.loop-k-preserved
loop-k-preserved c =
    let a = c.args in
    let k = c.loop-k.k in
    let n = c.min-count.result in
    let less = row_units-lt 64 a.width (omega arith) in
    let so_far : min (64 * k) a.width ≡ 64 * k = omega arith in
    let next : min (64 * (k + 1)) a.width ≡ 64 * k + n = omega arith in
    let end : a.y * a.width + (64 * k + n) ≡ a.y * a.width + 64 * k + n = omega arith in
    let pixel : ℕ → ℕ = λ x. packed_pixel 64 a.width a.words.now x a.y in
    let pixels = word_pixels-row a.width a.words.now k a.y n (omega arith) in
    rw (next, end)
    (appended-tabulate-append pixel (64 * k) n (rw so_far at c.loop-k.invariant) (omega arith)
    (rw (← pixels, ← c.row_words-m.ensures) c.unpack_word.ensures))

pub returns : goal.returns
unfolding row_unpacked
returns c =
    let width = c.args.width in
    let held = row_units-ge 64 width (omega arith) in
    let e : min (64 * c.loop-k.k) width ≡ width = omega arith in
    rw e at c.loop-k.invariant
