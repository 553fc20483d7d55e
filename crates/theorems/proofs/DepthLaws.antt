-- Laws of the depth of a component, over records from anywhere (`specs/Depth.antt`). Assumes nothing.
--   parent_in-is, -none, -short   the enclosing component: where it counts, where its number is too high,
--                                where the records are too short
--   parent_in-lt              it has a lower number
--   depth-outermost           0 without an enclosing component
--   depth-enclosed            else one more than the enclosing component's
--   depth-zero, depth-short   0 for a component without ten whole entries (0 too)
use Prim.Native.Nat.{ℕ, zero, suc, ◌*◌, ◌-◌, ◌≤◌, ◌<◌}
use mathlib.Core.Path.{◌≡◌, refl, sym, ap, ◌∙◌}
use mathlib.Core.Bool.{Bool, true, false, cond, ◌&&◌, and-false}
use mathlib.Core.List.{List}
use native.Mathlib.Nat.{le_refl}
use native.Mathlib.Omega.{arith}
use lib.Dec.{leb, ltb}
use lib.ListN.{length, get_or}
use borrow.Author.Tests.{ltb-true, lt-ltb, le-ltb, le-leb, lt-leb}
use Rattle.model.specs.Limits.{record_length}
use Rattle.model.specs.Depth.{parent_in, depth_within, depth}

-- ---- the enclosing component

module _ (records : List ℕ) (p : ℕ) where
  -- the last entry of a whole record, where it is below the component's own number
  pub parent_in-is : 1 ≤ p → record_length * p ≤ length records → get_or records (record_length * p - 1) 0 < p →
      parent_in records p ≡ get_or records (record_length * p - 1) 0
  unfolding parent_in
  parent_in-is one whole below = rw
      (le-leb 1 p one, le-leb (record_length * p) (length records) whole, lt-ltb _ p below)

  -- none, where the last entry is not below
  pub parent_in-none : p ≤ get_or records (record_length * p - 1) 0 → parent_in records p ≡ 0
  unfolding parent_in
  parent_in-none high = rw (le-ltb _ p high, and-false)

  -- none, where the record is not whole
  pub parent_in-short : length records < record_length * p → parent_in records p ≡ 0
  unfolding parent_in
  parent_in-short short = rw (lt-leb (record_length * p) (length records) short, and-false)

  -- an enclosing component has a lower number
  pub parent_in-lt : (q : ℕ) → parent_in records p ≡ suc q → suc q < p
  unfolding parent_in
  parent_in-lt q e = go (leb 1 p && leb (record_length * p) (length records))
      (ltb (get_or records (record_length * p - 1) 0) p) refl e
    where
      go : (a b : Bool) → ltb (get_or records (record_length * p - 1) 0) p ≡ b →
          cond (a && b) (get_or records (record_length * p - 1) 0) 0 ≡ suc q → suc q < p
      go true true t e = omega (arith, ltb-true (get_or records (record_length * p - 1) 0) p t)
      go true false t e = absurd (omega (arith, e))
      go false b t e = absurd (omega (arith, e))

-- ---- the depth

module _ (records : List ℕ) where
  -- what is counted down, without and with an enclosing component
  depth_within-outermost : (n p : ℕ) → parent_in records p ≡ 0 → depth_within n records p ≡ 0
  unfolding depth_within
  depth_within-outermost zero p e = refl
  depth_within-outermost (suc n) p e = rw (e, depth_within)

  depth_within-enclosed : (n p q : ℕ) → parent_in records p ≡ suc q →
      depth_within (suc n) records p ≡ suc (depth_within n records (suc q))
  unfolding depth_within
  depth_within-enclosed n p q e = rw (e, depth_within)

  -- the number to count down from does not matter where it is large enough
  depth_within-same : (n m p : ℕ) → p ≤ n → p ≤ m → depth_within n records p ≡ depth_within m records p
  depth_within-same zero m p a b = go (parent_in records p) refl
    where
      go : (parent : ℕ) → parent_in records p ≡ parent → depth_within 0 records p ≡ depth_within m records p
      go zero e = depth_within-outermost 0 p e ∙ sym (depth_within-outermost m p e)
      go (suc q) e = absurd (omega (arith, parent_in-lt records p q e))
  depth_within-same (suc n) m p a b = go m b (parent_in records p) refl (λ i q x y. depth_within-same n i (suc q) x y)
    where
      go : (m : ℕ) → p ≤ m → (parent : ℕ) → parent_in records p ≡ parent →
          ((i q : ℕ) → suc q ≤ n → suc q ≤ i → depth_within n records (suc q) ≡ depth_within i records (suc q)) →
          depth_within (suc n) records p ≡ depth_within m records p
      go m b zero e rest = depth_within-outermost (suc n) p e ∙ sym (depth_within-outermost m p e)
      go zero b (suc q) e rest = absurd (omega (arith, parent_in-lt records p q e))
      go (suc m) b (suc q) e rest =
          let l = parent_in-lt records p q e in
          depth_within-enclosed n p q e ∙ ap suc (rest m q (omega arith) (omega arith))
          ∙ sym (depth_within-enclosed m p q e)

  -- 0 without an enclosing component
  pub depth-outermost : (p : ℕ) → parent_in records p ≡ 0 → depth records p ≡ 0
  unfolding depth
  depth-outermost p e = depth_within-outermost p p e

  -- else one more than the enclosing component's
  pub depth-enclosed : (p q : ℕ) → parent_in records p ≡ suc q → depth records p ≡ suc (depth records (suc q))
  unfolding depth
  depth-enclosed p q e =
      let l = parent_in-lt records p q e in
      depth_within-same p (suc p) p (le_refl p) (omega arith)
      ∙ depth_within-enclosed p p q e
      ∙ ap suc (depth_within-same p (suc q) (suc q) (omega arith) (le_refl (suc q)))

  -- 0 for the number 0, and for a component whose record is not whole
  pub depth-zero : depth records 0 ≡ 0
  unfolding depth depth_within
  depth-zero = refl

  pub depth-short : (p : ℕ) → length records < record_length * p → depth records p ≡ 0
  depth-short p short = depth-outermost p (parent_in-short records p short)
