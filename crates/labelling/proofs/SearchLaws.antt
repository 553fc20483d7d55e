-- Laws of `Passed` and `NextStart` (`specs/Inner.antt`): the labels of the pixels that the search for the next
-- start passes, and what it answers. Assumes nothing.
--   is_unlabelled-same        a position with the same label is unlabelled or not as before
--   passed_none               nothing is passed from a position to itself
--   passed-next               one more position, which starts nothing and gets its label
--   next_start-at, -nothing   the search ends at a start, or behind the last position
--   next_start-size, -lt      it keeps the map's length, and finds a position inside
--   Unfound                   what holds at the tests of both of its loops
--   unfound-first, -next      before the first row, and one position on
--   unfound-all               behind the last row nothing is left
use Prim.Native.Nat.{ℕ, ◌+◌, ◌*◌, ◌/◌, ◌≤◌, ◌<◌, max}
use mathlib.Core.Path.{◌≡◌, refl, sym, ap, ◌∙◌}
use mathlib.Core.Bool.{true, false, cond, ◌&&◌}
use mathlib.Core.List.{List}
use native.Mathlib.Nat.{mul_comm, mul-le-mul_right}
use native.Mathlib.Omega.{arith}
use lib.Dec.{eqb}
use lib.ListN.{length, get_or, set, length-set}
use lib.Seq.{get_or-set_same, get_or-set_other}
use borrow.Author.Tests.{eq-eqb, eqb-true, ne_eqb}
use Rattle.lists.proofs.BoolLaws.{by-eq, and_left, and_right, cond-true, cond-false}
use Rattle.neighbours.proofs.PositionLaws.{position-column-row}
use Rattle.union_find.specs.Forest.{Forest}
use Rattle.std.specs.Prelude.{Option, Some, None}
use Rattle.labelling.specs.Inner.{is_unlabelled, Searchable, Passed, NextStart}

module _ (value : ℕ) (image queue labels : List ℕ) where
  -- a position with the same label is unlabelled or not as before
  pub is_unlabelled-same : (labels' : List ℕ) (k : ℕ) → get_or labels' k 0 ≡ get_or labels k 0 →
      is_unlabelled value image labels' k ≡ is_unlabelled value image labels k
  unfolding is_unlabelled
  is_unlabelled-same labels' k e = rw e

  -- nothing is passed from a position to itself
  pub passed_none : (from : ℕ) → Passed value image queue labels from from labels
  passed_none from =
      record {
        size = refl;
        before = λ k less. refl;
        hung = λ k above below d. absurd (omega arith);
        other = λ k above below e. absurd (omega arith);
        none = λ k above below e. absurd (omega arith);
        behind = λ k above. refl;
      }

  module _ {size : ℕ} (forest : Forest size queue) where
    module _ {from at : ℕ} {labels' : List ℕ} (inside : at < size) (order : from ≤ at)
        (p : Passed value image queue labels from at labels') where
      -- one more position, which starts nothing, gets the label of the one it hangs on, and a root 0
      pub passed-next : {labels'' : List ℕ} → at < length labels' →
          eqb (get_or queue at 0) at && is_unlabelled value image labels' at ≡ false →
          labels'' ≡ set labels' at (cond (eqb (get_or queue at 0) at) 0 (get_or labels' (get_or queue at 0) 0)) →
          Passed value image queue labels from (at + 1) labels''
      passed-next {labels''} room other written =
          let v = cond (eqb (get_or queue at 0) at) 0 (get_or labels' (get_or queue at 0) 0) in
          let here : get_or labels'' at 0 ≡ v = rw written (get_or-set_same labels' at v 0 room) in
          let there : (k : ℕ) → (k ≡ at → ⊥) → get_or labels'' k 0 ≡ get_or labels' k 0 =
          λ k d. rw written (get_or-set_other labels' at k v 0 d) in
          record {
            size = ap length written ∙ length-set labels' at v ∙ p.size;
            before = λ k less. there k (λ e. omega arith) ∙ p.before k less;
            hung = λ k above below d.
                by-eq k at
                (λ e.
                let apart : get_or queue at 0 ≡ at → ⊥ = rw e at d in
                rw e (here ∙ cond-false _ _ (ne_eqb _ _ apart) ∙ sym (there (get_or queue at 0) apart)))
                (λ e.
                let lower = forest.lower k (omega arith) in
                there k e ∙ p.hung k above (omega arith) d ∙ sym (there (get_or queue k 0) (λ q. omega arith)));
            other = λ k above below root.
                by-eq k at
                (λ e.
                let own : get_or queue at 0 ≡ at = rw e at root in
                rw e (sym (is_unlabelled-same labels' at (p.behind at (omega arith))) ∙ rw (eq-eqb _ _ own) at other))
                (λ e. p.other k above (omega arith) root);
            none = λ k above below root.
                by-eq k at
                (λ e.
                let own : get_or queue at 0 ≡ at = rw e at root in
                rw e (here ∙ cond-true _ _ (eq-eqb _ _ own)))
                (λ e. there k e ∙ p.none k above (omega arith) root);
            behind = λ k above. there k (λ e. omega arith) ∙ p.behind k (omega arith);
          }

      -- the search ends at a start
      pub next_start-at : eqb (get_or queue at 0) at && is_unlabelled value image labels' at ≡ true →
          NextStart size value image queue labels from labels' (Some at)
      unfolding NextStart
      next_start-at start =
          let root = eqb-true (get_or queue at 0) at (and_left _ _ start) in
          let free = and_right (eqb (get_or queue at 0) at) _ start in
          (order, inside, root, sym (is_unlabelled-same labels' at (p.behind at (omega arith))) ∙ free, p)

  -- or behind the last position
  pub next_start-nothing : {size from : ℕ} {labels' : List ℕ} → Passed value image queue labels from size labels' →
      NextStart size value image queue labels from labels' None
  unfolding NextStart
  next_start-nothing p = p

  module _ (size from : ℕ) (labels' : List ℕ) where
    -- the search keeps the map's length
    pub next_start-size : (found : Option ℕ) → NextStart size value image queue labels from labels' found →
        length labels' ≡ length labels
    unfolding NextStart
    next_start-size (Some at) next = next.4.size
    next_start-size None next = next.size

    -- and finds a position inside
    pub next_start-lt : {at : ℕ} → NextStart size value image queue labels from labels' (Some at) → at < size
    unfolding NextStart
    next_start-lt next = next.1

-- ---- the search's loops

-- nothing is found yet, and the positions from `from` up to `at` are passed
pub record Unfound (size value : ℕ) (image queue labels : List ℕ) (from : ℕ) (found : Option ℕ) (at : ℕ)
    (labels' : List ℕ) : Type 0 where
  pub nothing : found ≡ None
  pub order : from ≤ at
  pub upto : at ≤ size
  pub passed : Passed value image queue labels from at labels'

module _ (value : ℕ) (image queue labels : List ℕ) (from width height : ℕ) where
  -- before the first row
  pub unfound-first : from ≤ width * height →
      Unfound (width * height) value image queue labels from None (max from (from / width * width)) labels
  unfound-first bound =
      let here : max from (from / width * width) ≡ from = omega (arith, position-column-row width from) in
      record {
        nothing = refl;
        order = omega arith;
        upto = omega arith;
        passed = rw here (passed_none value image queue labels from);
      }

  module _ {found : Option ℕ} {labels' : List ℕ} where
    -- one position on
    pub unfound-next : {at : ℕ} {labels'' : List ℕ} → Searchable width height image queue labels →
        Unfound (width * height) value image queue labels from found at labels' → at < width * height →
        eqb (get_or queue at 0) at && is_unlabelled value image labels' at ≡ false →
        labels'' ≡ set labels' at (cond (eqb (get_or queue at 0) at) 0 (get_or labels' (get_or queue at 0) 0)) →
        Unfound (width * height) value image queue labels from found (at + 1) labels''
    unfound-next s u here other written =
        let room = u.passed.size ∙ s.size in
        record {
          nothing = u.nothing;
          order = omega (arith, u.order);
          upto = omega arith;
          passed = passed-next value image queue labels s.forest here u.order u.passed (omega arith) other written;
        }

    -- behind the last row nothing is left
    pub unfound-all : {y : ℕ} →
        Unfound (width * height) value image queue labels from found (max from (y * width)) labels' → height ≤ y →
        NextStart (width * height) value image queue labels from labels' found
    unfound-all {y} u below =
        let end : max from (y * width) ≡ width * height =
        omega (arith, u.upto, mul_comm width height, mul-le-mul_right width below) in
        rw u.nothing (next_start-nothing value image queue labels (rw end at u.passed))
