-- `join` meets its contract: the higher root is hung on the lower. Where both are one, the store changes
-- nothing. Assumes nothing.
use native.Mathlib.Omega.{arith}
use Rattle.union_find.proofs.ForestLaws.{forest-le, found, found-bounds, found-joined}
use Rattle.union_find.proofs.inner.forest.join.Goals as goal

pub root-other-requires-clause-forest : goal.root-other-requires-clause-forest
root-other-requires-clause-forest c =
    let pre = c.requires in
    forest-le (omega arith) (c.root-one.ensures.same _ (omega arith) pre.forest).forest

pub put_queued-requires-clause-slot_in_bounds : goal.put_queued-requires-clause-slot_in_bounds
put_queued-requires-clause-slot_in_bounds c =
    let f = c.requires.forest in
    let one = c.root-one.ensures in
    let other = c.root-other.ensures in
    let low = found-bounds (found f one.found one.same other.found other.same) f in
    omega arith

pub put_queued-requires-clause-at_lt_max_pixels : goal.put_queued-requires-clause-at_lt_max_pixels
put_queued-requires-clause-at_lt_max_pixels c =
    let f = c.requires.forest in
    let one = c.root-one.ensures in
    let other = c.root-other.ensures in
    let low = found-bounds (found f one.found one.same other.found other.same) f in
    omega arith

pub returns-then-one-other : goal.returns-then-one-other
returns-then-one-other c =
    let one = c.root-one.ensures in
    let other = c.root-other.ensures in
    rw c.put_queued.ensures
    (found-joined (found c.requires.forest one.found one.same other.found other.same) _ _ (omega arith) (omega arith))

pub put_queued-requires-2-clause-slot_in_bounds : goal.put_queued-requires-2-clause-slot_in_bounds
put_queued-requires-2-clause-slot_in_bounds c =
    let f = c.requires.forest in
    let one = c.root-one.ensures in
    let other = c.root-other.ensures in
    let low = found-bounds (found f one.found one.same other.found other.same) f in
    omega arith

pub put_queued-requires-2-clause-at_lt_max_pixels : goal.put_queued-requires-2-clause-at_lt_max_pixels
put_queued-requires-2-clause-at_lt_max_pixels c =
    let f = c.requires.forest in
    let one = c.root-one.ensures in
    let other = c.root-other.ensures in
    let low = found-bounds (found f one.found one.same other.found other.same) f in
    omega arith

pub returns : goal.returns
returns c =
    let one = c.root-one.ensures in
    let other = c.root-other.ensures in
    rw c.put_queued-2.ensures
    (found-joined (found c.requires.forest one.found one.same other.found other.same) _ _ (omega arith) (omega arith))
