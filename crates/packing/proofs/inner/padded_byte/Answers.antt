-- `padded_byte` meets its contract: each pixel is a bit more, and there is room for it. Assumes nothing.
use Prim.Native.Nat.{ℕ, ◌+◌, ◌≤◌, ◌<◌}
use mathlib.Core.Path.{◌≡◌, sym, ◌∙◌}
use mathlib.Core.List.{List}
use native.Mathlib.Omega.{arith}
use Rattle.neighbours.specs.Packed.{padded_pixel}
use Rattle.neighbours.proofs.PackedLaws.{leading, leading-zero, leading-suc, leading-suc-lt, leading-packed_unit}
use Rattle.neighbours.proofs.PackedLaws.{padded_pixel-le}
use Rattle.model.specs.Codec.{byte_bits}
use Rattle.packing.specs.Rows.{PackableRow}
use Rattle.packing.proofs.inner.padded_byte.Goals as goal

-- seven pixels at most leave room for one more
room : {width height y : ℕ} {image : List ℕ} → PackableRow width height image y → (x k : ℕ) → k < 8 →
    leading (λ j. padded_pixel width image (x + j) y) k ≤ 127
room {width} {height} {y} {image} row x k l =
    let small = λ (j : ℕ). padded_pixel-le width image row.packable.binary.bits (x + j) y in
    omega (arith, leading-suc-lt (λ j. padded_pixel width image (x + j) y) small byte_bits k l)

pub loop-k-init : goal.loop-k-init
loop-k-init c = sym (leading-zero _)

pub overflow_mul-byte : goal.overflow_mul-byte
overflow_mul-byte c =
    omega (arith, c.loop-k.invariant, room c.requires.packable_row c.args.x c.loop-k.k c.loop-k-test.true)

pub overflow_add-byte : goal.overflow_add-byte
overflow_add-byte c =
    let a = c.args in
    let x = a.x + c.loop-k.k in
    let bit = padded_pixel-le a.width a.image.now c.requires.packable_row.packable.binary.bits x a.y in
    omega (
      arith,
      bit,
      c.padded_pixel.ensures,
      c.loop-k.invariant,
      room c.requires.packable_row a.x c.loop-k.k c.loop-k-test.true,
    )

pub loop-k-preserved : goal.loop-k-preserved
loop-k-preserved c = rw (leading-suc, c.padded_pixel.ensures, c.loop-k.invariant)

pub returns : goal.returns
returns c =
    let e : c.loop-k.k ≡ 8 = omega arith in
    rw e at c.loop-k.invariant ∙ leading-packed_unit byte_bits _ _ _ _
