-- `unpack_images` meets its contract: the mask begins where the image's packed rows end. Assumes nothing.
use Prim.Native.Nat.{◌+◌, ◌-◌}
use mathlib.Core.Path.{◌≡◌, ◌∙◌}
use native.Mathlib.Omega.{arith}
use lib.Seq.{drop-drop}
use borrow.Author.Rules.{part_to_end}
use Rattle.model.specs.Codec.{packed_length}
use Rattle.job.proofs.inner.read.unpack_images.Goals as goal

pub returns-clause-image : goal.returns-clause-image
returns-clause-image c =
    let a = c.args in
    let size : a.at + c.packed_length.result - a.at ≡ packed_length a.width a.height =
    omega (arith, c.packed_length.ensures) in
    c.unpack.ensures ∙ rw size

pub returns-clause-mask : goal.returns-clause-mask
returns-clause-mask c =
    let a = c.args in
    c.unpack-2.ensures
    ∙ rw (part_to_end, c.packed_length.ensures, drop-drop (packed_length a.width a.height) a.at a.bytes.now)
