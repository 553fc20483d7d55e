use Rattle.std.proofs.Common.{◌≡◌, ◌+◌, ◌-◌, ◌++◌, rules, length, take, drop, ap, sym, subst, ◌∙◌, length-take-le}
use Rattle.std.specs.Io.KnownBytes.{Consumes}
use Rattle.std.proofs.KnownBytes.{Consumes-trans}
use Rattle.std.proofs.Math.Seq.{take-append-add}
use Rattle.std.proofs.lemmas.List.{take-append-le}
use Rattle.input.proofs.read_full.Goals as goal

-- what this read gave stands behind what the reads before it gave
pub loop-done-preserved : goal.loop-done-preserved
loop-done-preserved g c =
    let before = c.loop-done.buffer in
    let front = take c.loop-done.done before in
    let read = c.read.new.buf in
    let behind = read ++ drop (length before - c.loop-done.done) (drop c.loop-done.done before) in
    let long : length front ≡ c.loop-done.done = length-take-le c.loop-done.done before c.loop-done.invariant.0 in
    let both : take (c.loop-done.done + c.in_ok-n.n) (front ++ behind) ≡ front ++ take c.in_ok-n.n read =
    ap (λ m. take (m + c.in_ok-n.n) (front ++ behind)) (sym long) ∙ take-append-add front behind c.in_ok-n.n
    ∙ ap (λ l. front ++ l) (take-append-le c.in_ok-n.n read _ c.in_ok-n.ensures.bound.0) in
    let given = Consumes-trans _ _ _ _ _ c.loop-done.invariant.1 c.in_ok-n.ensures.bytes.0 in
    (search rules, subst (Consumes _ _) (sym both) given)
