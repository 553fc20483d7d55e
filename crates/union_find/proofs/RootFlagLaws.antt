-- Laws of `RootsFlagged` (`specs/Regions.antt`): the roots that are flagged, list by list. Assumes nothing.
--   roots_flagged-none     no pixel is visited
--   roots_flagged-one      one pixel is
--   roots_flagged-same     the pixels visited, said in another way
--   roots_flagged-append   two visits, one behind the other
--   ListFlagged           the pixels of a list are visited, and the queue's entries may change
--   list_flagged-none, list_flagged-one, list_flagged-append   none is listed, one is, and two lists
--   list_flagged-border    the border's strips are the border
use Prim.Native.Nat.{ℕ, ◌*◌, ◌<◌}
use mathlib.Core.Path.{◌≡◌, refl, sym, ap, ◌∙◌}
use mathlib.Core.Bool.{true, false, cond, or-false, false≢true}
use mathlib.Core.Logic.{◌⊎◌, inl, inr, ⊎_elim}
use mathlib.Core.List.{List, [], ◌∷◌, ◌++◌}
use native.Mathlib.Omega.{arith}
use lib.Dec.{eqb}
use lib.ListN.{length, get_or, set, length-set}
use lib.Seq.{get_or-set_same, get_or-set_other}
use borrow.Author.Tests.{eq-eqb, eqb-true, ne_eqb}
use Rattle.lists.specs.Lists.{any}
use Rattle.lists.proofs.BoolLaws.{by-eq, cond-true, cond-false, or_left, or_right, or-true-cases}
use Rattle.lists.proofs.ListLaws.{any_append}
use Rattle.neighbours.specs.Grid.{on_border}
use Rattle.neighbours.specs.Border.{border_positions}
use Rattle.neighbours.proofs.BorderLaws.{any-border_positions}
use Rattle.union_find.specs.Forest.{root, Forest, SameRoots}
use Rattle.union_find.specs.Regions.{RootsFlagged}
use Rattle.union_find.proofs.ForestLaws.{root-lt, same_roots-refl, same_roots-trans}

-- ---- flags

module _ {image queue : List ℕ} where
  -- no pixel is visited
  pub roots_flagged-none : {visited : ℕ → Type 0} {flags : List ℕ} → ((j : ℕ) → visited j → ⊥) →
      RootsFlagged image queue visited flags flags
  roots_flagged-none never =
      record { size = refl; kept = λ k h. h; only = λ k h. inl h; each = λ j v. absurd (never j v) }

  -- one pixel is visited that is background
  roots_flagged-set : {flags : List ℕ} (at : ℕ) → root queue at < length flags → get_or image at 0 ≡ 0 →
      RootsFlagged image queue (λ j. j ≡ at) flags (set flags (root queue at) 1)
  roots_flagged-set {flags} at l b =
      let top = root queue at in
      let here = get_or-set_same flags top 1 0 l in
      record {
        size = length-set flags top 1;
        kept = λ k h z.
            by-eq k top (λ q. omega (arith, here, rw q at z)) (λ d. h (sym (get_or-set_other flags top k 1 0 d) ∙ z));
        only = λ k h.
            by-eq k top (λ q. inr (at, refl, b, sym q)) (λ d. inl (λ z. h (get_or-set_other flags top k 1 0 d ∙ z)));
        each = λ j v z w. omega (arith, here, ap (λ (i : ℕ). get_or (set flags top 1) (root queue i) 0) v, w);
      }

  -- one pixel is visited
  pub roots_flagged-one : {flags flags' : List ℕ} (at : ℕ) → root queue at < length flags →
      flags' ≡ cond (eqb (get_or image at 0) 0) (set flags (root queue at) 1) flags →
      RootsFlagged image queue (λ j. j ≡ at) flags flags'
  roots_flagged-one {flags} at l e =
      by-eq (get_or image at 0) 0 (λ b. rw (e ∙ cond-true _ flags (eq-eqb _ 0 b)) (roots_flagged-set at l b))
      (λ d.
      rw (e ∙ cond-false _ flags (ne_eqb _ 0 d))
      record {
        size = refl;
        kept = λ k h. h;
        only = λ k h. inl h;
        each = λ j v b. absurd (d (sym (ap (λ (i : ℕ). get_or image i 0) v) ∙ b));
      })

  -- the pixels visited, said in another way
  pub roots_flagged-same : {visited other : ℕ → Type 0} {flags flags' : List ℕ} → ((j : ℕ) → visited j → other j) →
      ((j : ℕ) → other j → visited j) → RootsFlagged image queue visited flags flags' →
      RootsFlagged image queue other flags flags'
  roots_flagged-same there back m =
      record {
        size = m.size;
        kept = m.kept;
        only = λ k h. ⊎_elim inl (λ w. inr (w.0, there w.0 w.1, w.2, w.3)) (m.only k h);
        each = λ j v. m.each j (back j v);
      }

  -- one visit behind another
  pub roots_flagged-append : {first second : ℕ → Type 0} {flags flags' flags'' : List ℕ} →
      RootsFlagged image queue first flags flags' → RootsFlagged image queue second flags' flags'' →
      RootsFlagged image queue (λ j. first j ⊎ second j) flags flags''
  roots_flagged-append a b =
      record {
        size = b.size ∙ a.size;
        kept = λ k h. b.kept k (a.kept k h);
        only = λ k h.
            ⊎_elim (λ old. ⊎_elim inl (λ w. inr (w.0, inl w.1, w.2, w.3)) (a.only k old))
            (λ w. inr (w.0, inr w.1, w.2, w.3)) (b.only k h);
        each = λ j v z. ⊎_elim (λ f. b.kept (root queue j) (a.each j f z)) (λ s. b.each j s z) v;
      }

  -- the entries may be others that have the same roots
  roots_flagged-queue : {n : ℕ} {queue' : List ℕ} {visited : ℕ → Type 0} {flags flags' : List ℕ} →
      SameRoots n queue queue' →
      ((j : ℕ) → visited j → j < n) → RootsFlagged image queue' visited flags flags' →
      RootsFlagged image queue visited flags flags'
  roots_flagged-queue s inside m =
      record {
        size = m.size;
        kept = m.kept;
        only = λ k h.
            ⊎_elim inl (λ w. inr (w.0, w.1, w.2, sym (s.roots w.0 (inside w.0 w.1)) ∙ w.3)) (m.only k h);
        each = λ j v z. rw (s.roots j (inside j v)) at (m.each j v z);
      }

-- ---- flags in a queue whose entries change

-- the roots of the listed pixels below n are flagged, and every position below n keeps its root
abbrev pub ListFlagged : ℕ → List ℕ → List ℕ → List ℕ → List ℕ → List ℕ → List ℕ → Type 0
ListFlagged n image queue positions flags queue' flags' =
    RootsFlagged image queue (λ j. (j < n) × (any (eqb j) positions ≡ true)) flags flags' × SameRoots n queue queue'

module _ {n : ℕ} {image queue : List ℕ} where
  -- no pixel is listed
  pub list_flagged-none : {flags : List ℕ} → Forest n queue → ListFlagged n image queue [] flags queue flags
  unfolding any
  list_flagged-none f = (roots_flagged-none (λ j v. false≢true v.1), same_roots-refl f)

  -- one pixel is
  pub list_flagged-one : {flags queue' flags' : List ℕ} (at : ℕ) → length flags ≡ n → at < n → Forest n queue →
      flags' ≡ cond (eqb (get_or image at 0) 0) (set flags (root queue at) 1) flags → SameRoots n queue queue' →
      ListFlagged n image queue (at ∷ []) flags queue' flags'
  unfolding any
  list_flagged-one at size l f e s = (
    roots_flagged-same (λ j v. (rw v l, or_left (eqb j at) false (eq-eqb j at v)))
        (λ j v. eqb-true j at (sym (or-false (eqb j at)) ∙ v.1))
        (roots_flagged-one at (omega (arith, root-lt n queue at f l)) e),
    s,
  )

  -- those of one list and then those of another
  pub list_flagged-append : (first second : List ℕ) {flags queue' flags' queue'' flags'' : List ℕ} →
      ListFlagged n image queue first flags queue' flags' → ListFlagged n image queue' second flags' queue'' flags'' →
      ListFlagged n image queue (first ++ second) flags queue'' flags''
  list_flagged-append first second a b = (
    roots_flagged-same
        (λ j.
        let over = any_append (eqb j) first second in
        ⊎_elim (λ v. (v.0, over ∙ or_left _ _ v.1)) (λ v. (v.0, over ∙ or_right (any (eqb j) first) _ v.1)))
        (λ j v.
        let over = any_append (eqb j) first second in
        ⊎_elim (λ t. inl (v.0, t)) (λ t. inr (v.0, t))
        (or-true-cases (any (eqb j) first) (any (eqb j) second) (sym over ∙ v.1)))
        (roots_flagged-append a.0 (roots_flagged-queue a.1 (λ j v. v.0) b.0)),
    same_roots-trans a.1 b.1,
  )

-- the border's strips are the border
pub list_flagged-border : (width height : ℕ) {image queue flags queue' flags' : List ℕ} →
    ListFlagged (width * height) image queue (border_positions width height) flags queue' flags' →
    RootsFlagged image queue (λ j. (j < width * height) × (on_border width height j ≡ true)) flags flags'
list_flagged-border width height m =
    roots_flagged-same (λ j v. (v.0, sym (any-border_positions width height j v.0) ∙ v.1))
    (λ j v. (v.0, any-border_positions width height j v.0 ∙ v.1)) m.0
