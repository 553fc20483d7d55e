-- `has_bad_pixel` meets its contract: each turn of the loop takes in one pixel more. Assumes nothing.
use Prim.Native.Nat.{ℕ, ◌+◌, ◌<◌, max}
use mathlib.Core.Path.{◌≡◌, refl, ap, ◌∙◌}
use mathlib.Core.Bool.{◌||◌}
use mathlib.Core.List.{List}
use native.Mathlib.Numerals.{add-one}
use native.Mathlib.Omega.{arith}
use lib.ListN.{length, get_or, take}
use lib.Seq.{take-suc}
use borrow.Author.Tests.{lt-ltb, le-ltb}
use Rattle.lists.specs.Lists.{any}
use Rattle.lists.proofs.BoolLaws.{by-lt}
use Rattle.lists.proofs.ListLaws.{any_snoc}
use Rattle.model.specs.Refusals.{bad_pixel}
use Rattle.judging.proofs.has_bad_pixel.Goals as goal

-- the larger of two is bad if one of them is
bad_pixel-max : (a b : ℕ) → bad_pixel (max a b) ≡ bad_pixel a || bad_pixel b
bad_pixel-max a b =
    by-lt 1 a (λ bad. simp (lt-ltb 1 a bad, lt-ltb 1 (max a b) (omega arith)))
    (λ good.
    by-lt 1 b (λ bad. simp (le-ltb 1 a good, lt-ltb 1 b bad, lt-ltb 1 (max a b) (omega arith)))
    (λ both. simp (le-ltb 1 a good, le-ltb 1 b both, le-ltb 1 (max a b) (omega arith))))

-- one pixel more
most-suc : (pixels : List ℕ) (most at most' : ℕ) → at < length pixels →
    bad_pixel most ≡ any bad_pixel (take at pixels) →
    most' ≡ max most (get_or pixels at 0) → bad_pixel most' ≡ any bad_pixel (take (at + 1) pixels)
most-suc pixels most at most' l e m =
    ap bad_pixel m ∙ bad_pixel-max most (get_or pixels at 0)
    ∙ rw (e, add-one, take-suc pixels at 0 l, any_snoc)

pub loop-pixel-init : goal.loop-pixel-init
unfolding any
loop-pixel-init c = refl

pub loop-pixel-preserved : goal.loop-pixel-preserved
loop-pixel-preserved c = most-suc _ _ _ _ c.loop-pixel-test.true c.loop-pixel.invariant c.max-most.ensures
