-- `leading_background` meets its contract: no pixel of a look that was taken is an object pixel. Assumes nothing.
use borrow.Author.Rules.{rules}
use mathlib.Core.Path.{ap, ◌∙◌}
use native.Mathlib.Omega.{arith}
use Rattle.std.specs.Iterator.Adapters.{take_while_source}
use Rattle.std.specs.Slice.Iter.{chunks_exact_size, chunks_exact_rest, chunks_exact_steps}
use Rattle.packing.proofs.LookLaws.{ZerosCome-take_while, front-zeros}
use Rattle.packing.proofs.inner.band.leading_background.Goals as goal

pub returns-clause-clear : goal.returns-clause-clear
returns-clause-clear c =
    λ i l.
    let (xs, drained, count) = c.count.ensures.ran in
    let source = c.take_while.ensures.source in
    let size = ap chunks_exact_size source ∙ c.chunks_exact.ensures.size in
    let whole = ap chunks_exact_rest source ∙ c.chunks_exact.ensures.rest in
    rw (← whole)
    (front-zeros
    (λ s. chunks_exact_size (take_while_source s))
    (λ s. chunks_exact_rest (take_while_source s))
    xs c.take_while.result drained
    (ZerosCome-take_while chunks_exact_steps _ (λ s t x p. (p.0, p.1.0, p.1.1)) (λ x f f' call. search rules))
    i (rw size (omega arith)))
