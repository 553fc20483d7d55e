-- `weave_whole` meets its contract: one word more is woven at its place. Assumes nothing.
use Rattle.std.proofs.Common.{ℕ, ◌*◌, ap, ◌∙◌, arith}
use native.Mathlib.Nat.{add-zero}
use Rattle.lists.proofs.ListLaws.{tabulate-zero}
use Rattle.neighbours.specs.Packed.{packed_unit}
use Rattle.neighbours.proofs.AppendedLaws.{appended-none}
use Rattle.neighbours.proofs.PackedLaws.{row_units-ge}
use Rattle.packing.proofs.GroupLaws.{pixel_bits-word}
use Rattle.packing.proofs.WeaveLaws.{appended-woven}
use Rattle.packing.proofs.inner.words.weave_whole.Goals as goal

pub loop-k-init : goal.loop-k-init
loop-k-init c = rw (tabulate-zero, add-zero) (appended-none _ _)

pub bounds-words-first : goal.bounds-words-first
bounds-words-first c =
    let place = ap (λ n. c.args.y * n) c.row_words.ensures in
    omega (arith, row_units-ge 64 c.args.width (omega arith))

pub loop-k-preserved : goal.loop-k-preserved
loop-k-preserved c =
    let a = c.args in
    let k = c.loop-k.k in
    let place = ap (λ n. a.y * n) c.row_words.ensures in
    let f : ℕ → ℕ = λ j. packed_unit 64 a.width a.image.now (64 * j) a.y in
    let held = row_units-ge 64 a.width (omega arith) in
    appended-woven a.words.now _ f k _ _ c.loop-k.invariant (omega arith) (omega arith)
    (c.woven.ensures ∙ pixel_bits-word a.image.now a.width (64 * k) a.y 64 (omega arith) (omega arith))
