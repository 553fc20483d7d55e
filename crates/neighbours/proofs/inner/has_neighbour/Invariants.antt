-- What the loop of `has_neighbour` keeps: the directions that are left decide.
use mathlib.Core.Path.{◌≡◌}
use Rattle.neighbours.specs.Grid.{position, has_neighbour}
use Rattle.neighbours.proofs.DirectionLaws.{has_neighbour_from}
use Rattle.neighbours.proofs.inner.has_neighbour.Given as goal

abbrev pub invariant-loop-k : goal.invariant-loop-k
invariant-loop-k l =
    let i = position l.width l.x l.y in
    has_neighbour l.width l.height l.connectivity l.sides l.value l.image i
    ≡ has_neighbour_from l.width l.height l.connectivity l.sides l.value l.image i l.k
