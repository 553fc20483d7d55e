-- Laws of the depth that `climb` and `depth_within` need. Assumes nothing.
--   enclosed   an enclosing component has a lower number, and a depth that is one less
--   depth_le   a depth is at most the component's number
use Prim.Native.Nat.{ℕ, zero, suc, ◌≤◌, ◌<◌, zero-le}
use mathlib.Core.Path.{◌≡◌, refl, sym}
use mathlib.Core.List.{List}
use native.Mathlib.Omega.{arith}
use Rattle.model.specs.Depth.{parent_in, depth_within, depth}
use Rattle.theorems.proofs.DepthLaws.{parent_in-lt, depth-enclosed}

-- an enclosing component has a lower number, and a depth that is one less
pub enclosed : (records : List ℕ) (p enclosing : ℕ) → enclosing ≡ parent_in records p → (enclosing ≡ 0 → ⊥) →
    (enclosing < p) × (depth records p ≡ suc (depth records enclosing))
enclosed records p zero e n = absurd (n refl)
enclosed records p (suc q) e n = (parent_in-lt records p q (sym e), depth-enclosed records p q (sym e))

-- the number that is counted down is a bound
depth_within-le : (n : ℕ) (records : List ℕ) (p : ℕ) → depth_within n records p ≤ n
unfolding depth_within
depth_within-le zero records p = zero-le
depth_within-le (suc n) records p = go (parent_in records p) (depth_within-le n records)
  where
    go : (parent : ℕ) → ((q : ℕ) → depth_within n records q ≤ n) →
        elim parent [ zero ↦ 0 | suc q ↦ suc (depth_within n records (suc q)) ] ≤ suc n
    go zero rest = zero-le
    go (suc q) rest = omega (arith, rest (suc q))

-- a depth is at most the component's number
pub depth_le : (records : List ℕ) (p : ℕ) → depth records p ≤ p
unfolding depth
depth_le records p = depth_within-le p records p
