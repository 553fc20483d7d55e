-- `put_u16` meets its contract: two bytes are stored, the high one first. Assumes nothing.
use Prim.Native.Nat.{◌/◌, ◌%◌}
use mathlib.Core.Path.{◌≡◌, refl, ◌∙◌}
use native.Mathlib.Omega.{arith}
use Rattle.model.specs.Codec.{u16_bytes}
use Rattle.packing.proofs.RowsLaws.{appended-put_mid}
use Rattle.packing.proofs.inner.put_u16.Goals as goal

pub returns : goal.returns
unfolding u16_bytes
returns c =
    let high : c.args.n / 256 % 256 ≡ c.args.n / 256 = omega arith in
    let written = c.copy_from_slice.ensures.after ∙ c.to_be_bytes.ensures in
    appended-put_mid _ _ _ _ _ (rw high at written) refl (omega arith)
