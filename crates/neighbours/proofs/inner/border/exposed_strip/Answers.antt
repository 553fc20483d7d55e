-- `exposed_strip` meets its contract: the strip's side says which strip it is. Assumes nothing.
use mathlib.Core.Path.{sym, ◌∙◌}
use native.Mathlib.Omega.{arith}
use Rattle.neighbours.specs.Border.{exposed_strip}
use Rattle.neighbours.proofs.BorderLaws.{strip_side-pos}
use Rattle.neighbours.proofs.inner.border.exposed_strip.Goals as goal

pub has_side-requires : goal.has_side-requires
has_side-requires c = omega (arith, c.strip_side.ensures, strip_side-pos c.args.k)

pub returns-then-has_side : goal.returns-then-has_side
unfolding exposed_strip
returns-then-has_side c = rw (← c.strip_side.ensures, sym c.has_side.ensures ∙ c.if-has_side.true)

pub returns : goal.returns
unfolding exposed_strip
returns c =
    c.border_strip.ensures ∙ rw (← c.strip_side.ensures, sym c.has_side.ensures ∙ c.if-has_side.false)
