-- `join_image` meets its contract: the first row, row after row, and then all are regions. Assumes nothing.
use Prim.Native.Nat.{◌+◌, ◌*◌}
use mathlib.Core.Path.{◌≡◌, refl, ◌∙◌}
use native.Mathlib.Nat.{zero-mul, mul_comm}
use native.Mathlib.Omega.{arith}
use Rattle.union_find.specs.Regions.{Regions}
use Rattle.union_find.proofs.ChainLaws.{chains-of, regions-none, regions-first}
use Rattle.union_find.proofs.RegionLaws.{row_of}
use Rattle.union_find.proofs.inner.joins.join_image.Goals as goal

pub loop-y-init : goal.loop-y-init
loop-y-init c =
    let a = c.args in
    let pre = c.requires in
    let none : Regions a.width a.height a.connectivity a.image.now (0 * a.width) a.queue.now =
    rw (zero-mul a.width) regions-none in
    (regions-first (chains-of pre.sized pre.sized.valid.tall none c.chain_row.ensures pre.room), refl, refl)

pub join_row-requires : goal.join_row-requires
join_row-requires c =
    let a = c.args in
    let inv = c.loop-y.invariant in
    let pre = c.requires in
    let g = c.gather_row-count.ensures in
    let r = row_of _ pre.sized.valid (omega arith) c.loop-y-test.true in
    record {
      sized = pre.sized;
      below = omega arith;
      row = c.loop-y-test.true;
      few = omega (arith, g.size, g.few, inv.1, pre.found_size);
      inside = g.inside;
      each =
          λ x far l needed.
          let flagged = c.flag_joins.ensures.flagged (c.loop-y.y * a.width + x) (omega arith) (omega arith) in
          g.each x far l (flagged ∙ rw needed);
      chains =
          chains-of pre.sized c.loop-y-test.true inv.0 c.chain_row-in-loop-y.ensures
          (omega (arith, inv.2, c.chain_row.ensures.size, pre.room));
    }

pub returns-clause-joined : goal.returns-clause-joined
returns-clause-joined c =
    let a = c.args in
    let tall = c.requires.sized.valid.tall in
    let e : c.loop-y.y ≡ a.height = omega arith in
    rw (e, mul_comm a.height a.width) at c.loop-y.invariant.0
