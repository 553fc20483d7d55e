-- `scan::is_blank` looks at one word more, and at all. Assumes nothing.
use Rattle.std.proofs.Common.{◌≡◌, ℕ, arith}
use Rattle.words.proofs.ScanLaws.{clear_row-more, clear_row-blank}
use Rattle.words.proofs.inner.scan.is_blank.Goals as goal

pub loop-k-preserved : goal.loop-k-preserved
loop-k-preserved c = clear_row-more _ _ _ c.word_of.ensures c.keep_at.ensures c.loop-k.invariant

pub returns : goal.returns
returns c width height image of framed =
    let all : c.loop-k.k ≡ c.args.frame.columns = omega arith in
    let small = λ (k : ℕ). (c.type_inv.entries k).fits in
    clear_row-blank of framed c.args.y (omega (arith, c.requires.row, of.rows)) small
    (rw all at c.loop-k.invariant)
