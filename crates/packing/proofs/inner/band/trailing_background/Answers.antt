-- `trailing_background` meets its contract: no pixel of a look that was taken is an object pixel. Assumes nothing.
use borrow.Author.Rules.{rules}
use Prim.Native.Nat.{◌*◌}
use mathlib.Core.Path.{◌≡◌, ap, ◌∙◌}
use native.Mathlib.Omega.{arith}
use lib.ListN.{length}
use Rattle.std.specs.Iterator.Adapters.{take_while_source}
use Rattle.std.specs.Slice.Exact.{rchunks_exact_size, rchunks_exact_rest, rchunks_exact_remainder, rchunks_exact_steps}
use Rattle.packing.proofs.LookLaws.{ZerosCome-take_while, end-zeros, rchunks_exact-size, behind-zeros}
use Rattle.packing.proofs.inner.band.trailing_background.Goals as goal

pub count-looks-requires-clause-can : goal.count-looks-requires-clause-can
count-looks-requires-clause-can c =
    let size = ap rchunks_exact_size c.take_while.ensures.source ∙ c.rchunks_exact.ensures.size in (
      rw size (omega arith),
      record {
        at = λ ys t q x u yields folds step.
            let long : length x.now ≡ 32 = step.2.1 ∙ rchunks_exact-size ys _ t yields ∙ size in
            search rules;
      },
    )

pub returns-clause-clear : goal.returns-clause-clear
returns-clause-clear c =
    let (xs, drained, count) = c.count-looks.ensures.ran in
    let source = c.take_while.ensures.source in
    let size = ap rchunks_exact_size source ∙ c.rchunks_exact.ensures.size in
    let whole = ap rchunks_exact_rest source in
    behind-zeros c.args.image.now (rchunks_exact_remainder c.rchunks_exact.result)
    (rchunks_exact_rest c.rchunks_exact.result)
    c.args.from (32 * c.count-looks.result) c.rchunks_exact.ensures.parts (omega arith)
    (omega (arith, rw (size, whole) at c.count-looks.ensures.bound))
    (λ i l.
    rw (← whole)
    (end-zeros
    (λ s. rchunks_exact_size (take_while_source s))
    (λ s. rchunks_exact_rest (take_while_source s))
    xs c.take_while.result drained
    (ZerosCome-take_while rchunks_exact_steps _ (λ s t x p. (p.0, p.2.0, p.2.1)) (λ x f f' call. search rules))
    i (rw (size, whole) (omega arith))))
