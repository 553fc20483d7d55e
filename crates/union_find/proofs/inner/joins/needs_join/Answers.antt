-- `needs_join` meets its contract: the three bits are added up, and two are enough. Assumes nothing.
use mathlib.Core.Path.{◌≡◌, refl}
use mathlib.Core.Bool.{Bool, true, false}
use mir.Val.{bool_byte}
use Rattle.lists.specs.Lists.{bit}
use Rattle.union_find.specs.Regions.{needs_join}
use Rattle.union_find.proofs.inner.joins.needs_join.Goals as goal

-- a test as a byte is its bit
byte_is : (t : Bool) → bool_byte t ≡ bit t
byte_is true = refl
byte_is false = refl

pub returns : goal.returns
unfolding needs_join
returns c =
    rw (
      c.from.ensures,
      c.from-starts.ensures,
      c.from-starts_above.ensures,
      c.from-alike.ensures,
      c.left.ensures.position,
      c.above.ensures.position,
      c.corner.ensures.position,
    )
    (simp byte_is)
