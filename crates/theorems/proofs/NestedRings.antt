-- A worked example of Point 4 of document 02: a ring in a ring round a dot, by 4. It takes seconds to compute, so it
-- stands apart from `model/proofs/Examples.antt`, which every wrong version of a definition is tried on. Assumes
-- nothing.
use Prim.Native.Nat.{ℕ}
use mathlib.Core.Path.{◌≡◌, refl}
use mathlib.Core.List.{List, [], ◌∷◌, map}
use Rattle.model.specs.Labelling.{components, holes, records}
use Rattle.model.specs.Depth.{depth}
use Rattle.model.proofs.Computed.{pixels, computed}

abbrev rings : List ℕ
rings =
    pixels 81
    0b111111111_100000001_101111101_101000101_101010101_101000101_101111101_100000001_111111111

-- the outer ring, the inner ring and the dot
abbrev rings_records : List ℕ
rings_records =
    1 ∷ 0 ∷ 0 ∷ 32 ∷ 0 ∷ 0 ∷ 8 ∷ 8 ∷ 1 ∷ 0
    ∷ 2 ∷ 2 ∷ 2 ∷ 16 ∷ 2 ∷ 2 ∷ 6 ∷ 6 ∷ 1 ∷ 1
    ∷ 3 ∷ 4 ∷ 4 ∷ 1 ∷ 4 ∷ 4 ∷ 4 ∷ 4 ∷ 0 ∷ 2
    ∷ []

-- each ring has a hole, and holds what is in it
nested : records 9 9 (components 9 9 4 rings) (holes 9 9 4 rings) ≡ rings_records
unfolding computed
nested = refl

nested-depth : map (depth rings_records) (1 ∷ 2 ∷ 3 ∷ []) ≡ 0 ∷ 1 ∷ 2 ∷ []
unfolding computed
nested-depth = refl
