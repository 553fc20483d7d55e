-- Laws of `SameLabel` and `InRow` (`specs/Records.antt`), and of what goes on from one position to the next.
-- Assumes nothing.
--   same_label-one, same_label-more   one position, and one more with the same label
--   stepwise                          what goes on by one goes on up to any number
--   position-suc                      one column further is one position further
--   in_row-column                     columns of a row start inside it
use Prim.Native.Nat.{ℕ, zero, suc, ◌+◌, ◌≤◌, ◌<◌}
use mathlib.Core.Path.{◌≡◌}
use mathlib.Core.List.{List}
use native.Mathlib.Omega.{arith}
use lib.ListN.{get_or}
use Rattle.lists.proofs.BoolLaws.{by-eq}
use Rattle.neighbours.specs.Grid.{position}
use Rattle.component_records.specs.Records.{SameLabel, InRow}

-- one position
pub same_label-one : (labels : List ℕ) (at : ℕ) → SameLabel labels at (at + 1)
same_label-one labels at =
    record { some = omega arith; same = λ i from upto. let e : i ≡ at = omega arith in rw e }

-- one more with the same label
pub same_label-more : {labels : List ℕ} {at to : ℕ} → SameLabel labels at to → get_or labels to 0 ≡ get_or labels at 0 →
    SameLabel labels at (to + 1)
same_label-more {at = at} {to = to} stretch here =
    record {
      some = omega (arith, stretch.some);
      same = λ i from upto. by-eq i to (λ e. rw e here) (λ d. stretch.same i from (omega arith));
    }

-- what holds of a number, and goes on by one, holds of every number up to another
pub stepwise : (P : ℕ → Type 0) {from to : ℕ} → from ≤ to → P from →
    ((i : ℕ) → from ≤ i → i < to → P i → P (suc i)) → P to
stepwise P {from} {to} le start step = go to le (omega arith)
  where
    go : (k : ℕ) → from ≤ k → k ≤ to → P k
    go zero behind upto = let e : from ≡ zero = omega arith in rw e at start
    go (suc k) behind upto =
        by-eq from (suc k) (λ e. rw e at start)
        (λ d. step k (omega arith) (omega arith) (go k (omega arith) (omega arith)))

-- one column further is one position further
pub position-suc : (width x y : ℕ) → position width (suc x) y ≡ suc (position width x y)
position-suc width x y = omega arith

-- columns that end inside the row start inside it
pub in_row-column : {width height x end y : ℕ} {labels : List ℕ} → InRow width height labels x end y → x < width
in_row-column row = omega (arith, row.stretch.some, row.within)
