-- `join_row` meets its contract: the first column, column after column, and then the row is one of regions.
-- Assumes nothing.
use Prim.Native.Nat.{ℕ, suc, ◌+◌, ◌-◌, ◌*◌, ◌≤◌, ◌<◌}
use mathlib.Core.Path.{◌≡◌, sym, ap, ◌∙◌}
use mathlib.Core.List.{List}
use native.Mathlib.Omega.{arith}
use lib.ListN.{length, get_or, take}
use lib.Seq.{get_or-take, length-take-le}
use Rattle.lists.proofs.BoolLaws.{by-eq}
use Rattle.neighbours.proofs.SquareLaws.{column-behind}
use Rattle.union_find.specs.Regions.{Coarser}
use Rattle.union_find.proofs.ForestLaws.{forest-le}
use Rattle.union_find.proofs.RegionLaws.{Above, coarser-refl, coarser-trans, joined-above, square-coarser}
use Rattle.union_find.proofs.RegionLaws.{row_of, row-regions}
use Rattle.union_find.proofs.inner.joins.join_row.Goals as goal
use Rattle.union_find.proofs.inner.joins.join_row.Goals.{then-image-start, else-image-start}

-- a column at the front of those found is behind the first
front_column : (found : List ℕ) (count i : ℕ) {x width : ℕ} → count ≤ length found → i < length (take count found) →
    x ≡ get_or (take count found) i 0 →
    ((j : ℕ) → j < count → (1 ≤ get_or found j 0) × (get_or found j 0 < width)) →
    (x ≡ get_or found i 0) × (1 ≤ x) × (x < width)
front_column found count i few l e inside =
    let below : i < count = omega (arith, length-take-le count found few) in
    let is = e ∙ get_or-take count found i 0 below in
    let bounds = inside i below in
    (is, omega (arith, is, bounds.0), omega (arith, is, bounds.1))

pub join-requires : goal.join-requires
join-requires c =
    let pre = c.requires in
    let r = row_of c.args.y pre.sized.valid pre.below pre.row in
    let e = c.above-above.ensures.position in
    record { first = omega arith; second = omega arith; forest = forest-le (omega arith) pre.chains.forest }

pub loop-x-init : goal.loop-x-init
loop-x-init c =
    let a = c.args in
    let pre = c.requires in
    let forest = pre.chains.forest in
    let r = row_of a.y pre.sized.valid pre.below pre.row in
    let e = c.above-above.ensures.position in
    let pixel : ℕ → ℕ = λ k. get_or a.image.now k 0 in
    let first :
    Coarser a.width a.height a.connectivity a.image.now (suc a.y * a.width) a.queue.now c.if-image-start.queue
    × Above a.width a.image.now c.if-image-start.queue (a.y * a.width) =
    elim c.if-image-start.branch [
      | then-image-start w ↦
          let n = suc a.y * a.width in
          let joined = w.join.ensures n (omega arith) (omega arith) forest in
          let (coarser, same) =
          joined-above _ _ _ _ n (omega arith) (omega arith) (omega arith) e w.if-image-start.true joined in
          rw w.queue-is (coarser, λ q. same)
      | else-image-start w ↦
          rw w.queue-is (coarser-refl _ _ _ _ _ forest, λ q. absurd (w.if-image-start.false (sym q ∙ ap pixel (sym e))))
    ] in
    (first.0, first.1, λ j l. absurd (omega arith))

pub join_at-requires : goal.join_at-requires
join_at-requires c =
    let a = c.args in
    let pre = c.requires in
    let r = row_of a.y pre.sized.valid pre.below pre.row in
    let x = front_column a.found.now a.count c.loop-x.x-index pre.few c.loop-x-test.true c.from.ensures pre.inside in
    record {
      sized = pre.sized;
      square = record {
        inside = omega arith;
        below = omega arith;
        far = column-behind _ a.y _ (omega arith) (omega arith);
      };
      forest = forest-le (omega arith) c.loop-x.invariant.0.forest;
    }

pub loop-x-preserved : goal.loop-x-preserved
loop-x-preserved c =
    let a = c.args in
    let pre = c.requires in
    let inv = c.loop-x.invariant in
    let n = suc a.y * a.width in
    let r = row_of a.y pre.sized.valid pre.below pre.row in
    let x = front_column a.found.now a.count c.loop-x.x-index pre.few c.loop-x-test.true c.from.ensures pre.inside in
    let met = c.join_at.ensures n (omega arith) inv.0.forest in (
      coarser-trans _ _ _ _ _ inv.0 met.coarser,
      λ e. met.coarser.kept _ _ (omega arith) (omega arith) (inv.1 e),
      λ j l.
          by-eq j c.loop-x.x-index (λ e. rw (e, ← x.0) met.square)
          (λ d.
          let before : j < c.loop-x.x-index = omega arith in
          let front = length-take-le a.count a.found.now pre.few in
          let column = pre.inside j (omega arith) in
          square-coarser met.coarser (omega arith) (inv.2 j before)),
    )

pub returns-clause-joined : goal.returns-clause-joined
returns-clause-joined c =
    let a = c.args in
    let pre = c.requires in
    let inv = c.loop-x.invariant in
    let front = length-take-le a.count a.found.now pre.few in
    row-regions _ _ _ _ a.y (row_of a.y pre.sized.valid pre.below pre.row) pre.chains inv.0 inv.1
    (λ k behind l t.
    let x = k - a.y * a.width in
    let e : a.y * a.width + x ≡ k = omega arith in
    let (j, lj, f) = pre.each x (omega arith) (omega arith) (rw e t) in
    rw (f, e) at (inv.2 j (omega (arith, c.loop-x-test.false))))
