-- The depth of a component, over records from anywhere: document 01, "Parts, holes, depth".
-- Definitions only; 01's sentence about them is proved in `theorems/proofs/DepthLaws.antt`.
--
-- `depth_within` counts down a number that is large enough, since each step leads to a lower component.
-- `depth-outermost` and `depth-enclosed` are the equations a reader expects; nothing after them looks
-- at the count.
use Rattle.std.specs.Prelude.{ℕ, zero, suc, ◌-◌, ◌*◌, cond, ◌&&◌, List, leb, ltb, length, get_or}
use Rattle.model.specs.Limits.{record_length}

-- The number of component p's enclosing component by the records, or 0 for none: the last entry of the
-- p-th ten, where it is below p. A component without ten whole entries (0 too) has none
unfoldable pub parent_in : List ℕ → ℕ → ℕ
parent_in records p =
    let enclosing = get_or records (record_length * p - 1) 0 in
    cond (leb 1 p && leb (record_length * p) (length records) && ltb enclosing p) enclosing 0

-- the depth, by at most n enclosing components
unfoldable pub depth_within : ℕ → List ℕ → ℕ → ℕ
depth_within zero records p = 0
depth_within (suc n) records p =
    elim (parent_in records p) [ zero ↦ 0 | suc q ↦ suc (depth_within n records (suc q)) ]

-- 0 without an enclosing component, else one more than the enclosing component's
unfoldable pub depth : List ℕ → ℕ → ℕ
depth records p = depth_within p records p
