-- `iterate` meets its contract: no iteration, one that changed nothing, one more, and all. Assumes nothing.
use mathlib.Core.Path.{◌≡◌, refl}
use native.Mathlib.Omega.{arith}
use Rattle.propagation.proofs.RowSetLaws.{row_bit-full}
use Rattle.propagation.proofs.PropagationLaws.{progress-none, progress-more, progress-stop}
use Rattle.propagation.proofs.PropagationLaws.{progress-end, settled-none, settled-more}
use Rattle.propagation.proofs.inner.iterate.Goals as goal

pub loop-used-init : goal.loop-used-init
loop-used-init c = (
  refl,
  λ i. (c.type_inv.words i).fits,
  progress-none _ _ _,
  settled-none _ _ _ _ (λ n l. row_bit-full n (omega arith)),
)

pub returns-then-grow_rows-eq0 : goal.returns-then-grow_rows-eq0
returns-then-grow_rows-eq0 c =
    let inv = c.loop-used.invariant in
    progress-stop inv.2 inv.3 c.grow_rows.ensures.grown inv.1 (λ i. (c.type_inv.words i).fits) _
    c.loop-used-test.true (c.grow_rows.ensures.moved.0 c.if-grow_rows-eq0.true)

pub loop-used-preserved : goal.loop-used-preserved
loop-used-preserved c =
    let inv = c.loop-used.invariant in (
      c.grow_rows.auto.next,
      λ i. (c.type_inv.words i).fits,
      progress-more inv.2 inv.3 c.grow_rows.ensures.grown inv.1 (λ i. (c.type_inv.words i).fits)
          (λ same. c.if-grow_rows-eq0.false (c.grow_rows.ensures.moved.1 same)),
      settled-more inv.2 inv.3 c.grow_rows.ensures.grown inv.1 (λ i. (c.type_inv.words i).fits) _
          c.grow_rows.ensures.noted,
    )

pub returns : goal.returns
returns c =
    let all : c.loop-used.used ≡ c.args.iterations = omega arith in
    rw all at (progress-end _ c.loop-used.invariant.2 all)
