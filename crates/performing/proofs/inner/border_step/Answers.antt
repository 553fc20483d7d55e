-- `border_step` meets its contract: the rows unpacked, the border cleared, the image packed and its contour counted.
-- Assumes nothing.
use mathlib.Core.Path.{refl}
use native.Mathlib.Omega.{arith}
use Rattle.neighbours.proofs.PositionLaws.{size-le}
use Rattle.neighbours.specs.Words.{word_bits}
use Rattle.neighbours.proofs.PackedLaws.{unpacked-binary}
use Rattle.model.specs.declared.Step.TheVariants.{ClearBorder}
use Rattle.theorems.proofs.RefusalLaws.{step_checks-iff}
use Rattle.theorems.proofs.OperationLaws.{changed-le}
use Rattle.performing.proofs.OnWordsLaws.{held-front}
use Rattle.performing.proofs.StepRowsLaws.{step-unpacked, step-packable, stepped-border}
use Rattle.performing.proofs.inner.border_step.Goals as goal

pub clear_border-cleared-requires-clause-ready : goal.clear_border-cleared-requires-clause-ready
clear_border-cleared-requires-clause-ready c = step-unpacked c.args.rows.now c.requires c.unpack.ensures refl

pub clear_border-cleared-requires-clause-connectivity_value :
    goal.clear_border-cleared-requires-clause-connectivity_value
clear_border-cleared-requires-clause-connectivity_value c = (step_checks-iff _ _ (ClearBorder _)).0 c.requires.passes

pub pack-requires-clause-packable : goal.pack-requires-clause-packable
pack-requires-clause-packable c =
    step-packable c.args.rows.now c.requires c.unpack.ensures c.clear_border-cleared.ensures.pictured

pub count_contour-contour_len-requires : goal.count_contour-contour_len-requires
count_contour-contour_len-requires c =
    let after = step-packable c.args.rows.now c.requires c.unpack.ensures c.clear_border-cleared.ensures.pictured in
    held-front after.valid after.binary _ c.pack.ensures c.requires.held.in_room c.pack.auto.rows

pub overflow_cast-result : goal.overflow_cast-result
overflow_cast-result c =
    let a = c.args in
    omega (
      arith,
      changed-le a.width a.height c.unpack.new.image c.clear_border-cleared.new.image,
      size-le c.requires.held.in_room.valid,
    )

pub returns : goal.returns
returns c =
    let cleared = c.clear_border-cleared.ensures in
    let counted = c.count_contour-contour_len.ensures in
    stepped-border _ _ c.requires.held.in_room.valid (unpacked-binary word_bits _ _ _) c.unpack.ensures
    cleared.pictured cleared.counted c.count_used.ensures c.pack.ensures counted.count counted.kept
