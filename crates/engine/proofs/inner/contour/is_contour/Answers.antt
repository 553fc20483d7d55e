-- `is_contour` meets its contract: the marks tell whether the contour is right, and painted back the image
-- is as it was. Assumes nothing.
use Prim.Native.Nat.{ℕ, ◌*◌, ◌≤◌}
use mathlib.Core.Path.{◌≡◌, sym, ap, ◌∙◌}
use mathlib.Core.Bool.{not}
use mathlib.Core.List.{List}
use native.Mathlib.Omega.{arith}
use lib.ListN.{length}
use Rattle.engine.specs.Leaves.{Positions, Marked}
use Rattle.engine.proofs.MarkLaws.{is_contour-long, is_contour-wrong, is_contour-left, marked-marking, marked-lt}
use Rattle.engine.proofs.MarkLaws.{painted-back}
use Rattle.engine.proofs.inner.contour.is_contour.Goals as goal

-- the positions at the queue's front that are marked
marks : {width height : ℕ} {image queue : List ℕ} {n : ℕ} {image' : List ℕ} {count : ℕ} →
    Marked width height image queue n image' count → length image ≡ width * height → n ≤ length queue →
    Positions queue 0 count (length image')
marks {queue = queue} {count = count} marked pixels room =
    let within : count ≤ length queue = omega (arith, marked.within) in
    record {
      ordered = omega arith;
      within = within;
      entries = λ k _ l. marked-lt (marked-marking marked) pixels within k l;
    }

pub returns-then-queue-n-clause-answer : goal.returns-then-queue-n-clause-answer
returns-then-queue-n-clause-answer c = sym (is_contour-long _ _ _ _ _ c.if-queue-n.true)

pub paint-requires : goal.paint-requires
paint-requires c = marks c.mark_contour-count.ensures c.requires.binary.pixels c.if-queue-n.false

pub returns-then-count-n-clause-answer : goal.returns-then-count-n-clause-answer
returns-then-count-n-clause-answer c = sym (is_contour-wrong c.mark_contour-count.ensures c.if-count-n.true)

pub returns-then-count-n-clause-kept : goal.returns-then-count-n-clause-kept
returns-then-count-n-clause-kept c = painted-back (marked-marking c.mark_contour-count.ensures) c.paint.ensures

pub paint-requires-2 : goal.paint-requires-2
paint-requires-2 c = marks c.mark_contour-count.ensures c.requires.binary.pixels c.if-queue-n.false

pub returns-clause-answer : goal.returns-clause-answer
returns-clause-answer c =
    ap not c.has_contour-left.ensures
    ∙ sym (is_contour-left c.mark_contour-count.ensures c.requires.binary.pixels c.if-queue-n.false c.if-count-n.false)

pub returns-clause-kept : goal.returns-clause-kept
returns-clause-kept c = painted-back (marked-marking c.mark_contour-count.ensures) c.paint-2.ensures
