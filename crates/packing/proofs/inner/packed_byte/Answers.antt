-- `packed_byte` meets its contract: eight pixels that stand in the row are read as spread bits, which are gathered.
-- Assumes nothing.
use Prim.Native.Nat.{ℕ, ◌<◌}
use mathlib.Core.Path.{◌≡◌, ◌∙◌}
use mathlib.Core.List.{List}
use native.Mathlib.Omega.{arith}
use Rattle.packing.specs.Rows.{PackableRow}
use Rattle.packing.specs.Groups.{pixel_bits, pixel_bytes, spread, gathered}
use Rattle.packing.proofs.GroupLaws.{pixel_bits-lt, pixel_bits-byte, pixel_bytes-spread, spread-gathered}
use Rattle.packing.proofs.inner.packed_byte.Goals as goal

-- what is read are spread bits, which come back; they make a byte
group : {width height y : ℕ} {image : List ℕ} → PackableRow width height image y → (at x : ℕ) →
    x ≡ pixel_bytes image at →
    (x ≡ spread (gathered x)) × (gathered x ≡ pixel_bits image at 8) × (pixel_bits image at 8 < 256)
group {image = image} row at x read =
    let bits = row.packable.binary.bits in
    let below : pixel_bits image at 8 < 256 = pixel_bits-lt image bits at 8 in
    let (spreads, gathers) = spread-gathered x _ below (read ∙ pixel_bytes-spread image bits at) in
    (spreads, gathers, below)

pub group_bits-requires : goal.group_bits-requires
group_bits-requires c = (group c.requires.packable_row _ _ c.eight_pixels.ensures).0

pub overflow_cast-result : goal.overflow_cast-result
overflow_cast-result c =
    let (spreads, gathers, below) = group c.requires.packable_row _ _ c.eight_pixels.ensures in
    omega (arith, c.group_bits.ensures)

pub returns-then-x-width : goal.returns-then-x-width
returns-then-x-width c =
    let a = c.args in
    c.group_bits.ensures
    ∙ (group c.requires.packable_row _ _ c.eight_pixels.ensures).1
    ∙ pixel_bits-byte a.image.now a.width a.x a.y (omega arith)
