-- Laws of `specs/Forest.antt`: where the entries of a queue lead, and what a store changes of it. Assumes nothing.
--   root-own                         a position that is its own entry is a root
--   root-step                        a position has the root of its entry
--   forest-ind                       what holds of the roots, and of a position if of its entry, holds of all
--   root-le, root-lt                 a root is not above its position, so it is inside
--   root-root                        a root is its own entry
--   roots-are                        what is the same at a position and its entry, and is a root at itself, is the root
--   forest-le                        a part of a forest
--   forest-set                       an entry that is not above its position is stored
--   root-hang                        a root is hung below another position
--   halve                            an entry is replaced by that entry's own
--   same_roots-refl, same_roots-trans  no store, and one behind another
--   Climbing                         on the way to a root, by halving
--   climbing-start, -next            its start, and one turn
--   climbing-bounds                  how low the entries on the way are
--   joined-set                       the higher of two roots is hung on the lower
--   Found, found                     the roots of two positions, found one after the other
--   found-bounds, found-joined       how low they are, and their sets made one
use Prim.Native.Nat.{ℕ, zero, suc, ◌≤◌, ◌<◌, min, max}
use mathlib.Core.Path.{◌≡◌, refl, sym, ap, ◌∙◌}
use mathlib.Core.Bool.{cond}
use mathlib.Core.List.{List}
use native.Mathlib.Nat.{not-suc-le-zero}
use native.Mathlib.Omega.{arith}
use lib.Dec.{eqb}
use lib.ListN.{length, get_or, set, length-set}
use lib.Seq.{get_or-set_same, get_or-set_other, set-get_or}
use borrow.Author.Tests.{eq-eqb, ne_eqb}
use Rattle.lists.proofs.BoolLaws.{by-eq, by-lt, cond-true, cond-false}
use Rattle.union_find.specs.Forest.{climb, root, Forest, SameRoots, merged, Joined}

-- ---- roots

-- from a position that is its own entry nothing leads away
climb-own : (queue : List ℕ) (fuel k : ℕ) → get_or queue k 0 ≡ k → climb queue fuel k ≡ k
unfolding climb
climb-own queue zero k e = refl
climb-own queue (suc fuel) k e = ap (climb queue fuel) e ∙ climb-own queue fuel k e

-- a position that is its own entry is a root
pub root-own : (queue : List ℕ) (k : ℕ) → get_or queue k 0 ≡ k → root queue k ≡ k
unfolding root
root-own queue k e = climb-own queue k k e

module _ (n : ℕ) (queue : List ℕ) where
  -- moves that are enough lead to one place, however many they are
  climb-enough : (fuel more k : ℕ) → Forest n queue → k < n → k ≤ fuel → k ≤ more →
      climb queue fuel k ≡ climb queue more k
  unfolding climb
  climb-enough zero more k f l a b = sym (climb-own queue more k (omega (arith, f.lower k l)))
  climb-enough (suc fuel) zero k f l a b = climb-own queue (suc fuel) k (omega (arith, f.lower k l))
  climb-enough (suc fuel) (suc more) k f l a b =
      let low = f.lower k l in
      by-eq (get_or queue k 0) k (λ e. climb-own queue (suc fuel) k e ∙ sym (climb-own queue (suc more) k e))
      (λ d. climb-enough fuel more (get_or queue k 0) f (omega arith) (omega arith) (omega arith))

  -- a position has the root of its entry
  pub root-step : (k : ℕ) → Forest n queue → k < n → root queue (get_or queue k 0) ≡ root queue k
  unfolding root climb
  root-step k f l =
      let low = f.lower k l in
      climb-enough (get_or queue k 0) k (get_or queue k 0) f (omega arith) (omega arith) low
      ∙ climb-enough (suc k) k k f l (omega arith) (omega arith)

  -- what holds of the roots, and of a position if of its entry, holds of all
  pub forest-ind : (P : ℕ → Type 0) → Forest n queue → ((k : ℕ) → k < n → get_or queue k 0 ≡ k → P k) →
      ((k : ℕ) → k < n → get_or queue k 0 < k → P (get_or queue k 0) → P k) → (k : ℕ) → k < n → P k
  forest-ind P f own step k l = go (suc k) k (omega arith) l
    where
      go : (bound k : ℕ) → k < bound → k < n → P k
      go zero k b l = absurd (not-suc-le-zero b)
      go (suc bound) k b l =
          let low = f.lower k l in
          by-eq (get_or queue k 0) k (own k l)
          (λ d. step k l (omega arith) (go bound (get_or queue k 0) (omega arith) (omega arith)))

  -- a root is not above its position
  pub root-le : (k : ℕ) → Forest n queue → k < n → root queue k ≤ k
  root-le k f l =
      forest-ind (λ k. root queue k ≤ k) f (λ k l e. omega (arith, root-own queue k e))
      (λ k l b h. omega (arith, root-step k f l)) k l

  -- so it is inside
  pub root-lt : (k : ℕ) → Forest n queue → k < n → root queue k < n
  root-lt k f l = omega (arith, root-le k f l)

  -- a root is its own entry
  pub root-root : (k : ℕ) → Forest n queue → k < n → get_or queue (root queue k) 0 ≡ root queue k
  root-root k f l =
      forest-ind (λ k. get_or queue (root queue k) 0 ≡ root queue k) f (λ k l e. rw (root-own queue k e) e)
      (λ k l b h. rw (root-step k f l) at h) k l

  -- what is the same at a position and its entry, and is a root at itself, is the root
  pub roots-are : (to : ℕ → ℕ) → Forest n queue → ((k : ℕ) → k < n → get_or queue k 0 ≡ k → to k ≡ k) →
      ((k : ℕ) → k < n → get_or queue k 0 < k → to (get_or queue k 0) ≡ to k) → (k : ℕ) → k < n → root queue k ≡ to k
  roots-are to f own step k l =
      forest-ind (λ k. root queue k ≡ to k) f (λ k l e. root-own queue k e ∙ sym (own k l e))
      (λ k l b h. sym (root-step k f l) ∙ h ∙ step k l b) k l

-- ---- a part

pub forest-le : {m n : ℕ} {queue : List ℕ} → m ≤ n → Forest n queue → Forest m queue
forest-le le f = record { room = omega (arith, f.room); lower = λ k l. f.lower k (omega arith) }

-- ---- a store

module _ (n : ℕ) (queue : List ℕ) (a b : ℕ) (f : Forest n queue) (l : a < n) where
  -- the entry stored
  set_here : get_or (set queue a b) a 0 ≡ b
  set_here = get_or-set_same queue a b 0 (omega (arith, f.room))

  -- an entry that is not above its position
  pub forest-set : b ≤ a → Forest n (set queue a b)
  forest-set low =
      record {
        room = simp length-set f.room;
        lower = λ k lk.
            by-eq k a (λ e. rw (e, set_here) low) (λ d. omega (arith, get_or-set_other queue a k b 0 d, f.lower k lk));
      }

  -- root r, where root a is hung below position b
  abbrev hung : ℕ → ℕ
  hung r = cond (eqb r a) (root queue b) r

  -- a root is hung below another position
  pub root-hang : get_or queue a 0 ≡ a → b < a → (k : ℕ) → k < n →
      root (set queue a b) k ≡ cond (eqb (root queue k) a) (root queue b) (root queue k)
  root-hang own less =
      roots-are n (set queue a b) (λ k. hung (root queue k)) (forest-set (omega arith))
      (λ k lk e.
      by-eq k a (λ q. absurd (omega (arith, set_here, rw q at e)))
      (λ d.
      let same = sym (get_or-set_other queue a k b 0 d) ∙ e in
      rw (root-own queue k same) (cond-false (root queue b) k (ne_eqb k a d))))
      (λ k lk below.
      by-eq k a
      (λ q.
      let lower = root-le n queue b f (omega arith) in
      rw (q, set_here, root-own queue a own)
      (cond-false (root queue b) (root queue b) (ne_eqb (root queue b) a (λ e. omega arith))
      ∙ sym (cond-true (root queue b) a (eq-eqb a a refl))))
      (λ d. ap (λ (i : ℕ). hung (root queue i)) (get_or-set_other queue a k b 0 d)
      ∙ ap hung (root-step n queue k f lk)))

-- an entry is replaced by that entry's own
pub halve : (n : ℕ) (queue : List ℕ) (k : ℕ) → Forest n queue → k < n →
    SameRoots n queue (set queue k (get_or queue (get_or queue k 0) 0))
halve n queue k f l =
    let above = get_or queue k 0 in
    let beyond = get_or queue above 0 in
    let low = f.lower k l in
    let lower = f.lower above (omega arith) in
    let here = set_here n queue k beyond f l in
    let forest = forest-set n queue k beyond f l (omega arith) in
    record {
      size = length-set queue k beyond;
      forest = forest;
      roots = roots-are n (set queue k beyond) (root queue) forest
          (λ i li e.
          by-eq i k (λ q. root-own queue i (rw q (omega (arith, here, rw q at e))))
          (λ d. root-own queue i (sym (get_or-set_other queue k i beyond 0 d) ∙ e)))
          (λ i li less.
          by-eq i k (λ q. rw (q, here) (root-step n queue above f (omega arith) ∙ root-step n queue k f l))
          (λ d. ap (root queue) (get_or-set_other queue k i beyond 0 d) ∙ root-step n queue i f li));
    }

-- ---- the same roots

-- no store
pub same_roots-refl : {n : ℕ} {queue : List ℕ} → Forest n queue → SameRoots n queue queue
same_roots-refl f = record { size = refl; forest = f; roots = λ k l. refl }

-- one behind another
pub same_roots-trans : {n : ℕ} {queue queue' queue'' : List ℕ} → SameRoots n queue queue' → SameRoots n queue' queue'' →
    SameRoots n queue queue''
same_roots-trans s t =
    record { size = t.size ∙ s.size; forest = t.forest; roots = λ k l. t.roots k l ∙ s.roots k l }

-- ---- the way to a root

-- From a queue and a position to queue' and the position `top` on its way, whose entry is `above`
pub record Climbing (queue : List ℕ) (at : ℕ) (queue' : List ℕ) (top above : ℕ) : Type 0 where
  pub le : top ≤ at
  pub entry : above ≡ get_or queue' top 0
  pub same : (n : ℕ) → at < n → Forest n queue → SameRoots n queue queue'
  pub found : root queue' top ≡ root queue at

-- at the position itself
pub climbing-start : {queue : List ℕ} {at above : ℕ} → above ≡ get_or queue at 0 → Climbing queue at queue at above
climbing-start e = record { le = omega arith; entry = e; same = λ n l f. same_roots-refl f; found = refl }

module _ {queue : List ℕ} {at : ℕ} {queue' : List ℕ} {top above : ℕ} (f : Forest (suc at) queue)
    (c : Climbing queue at queue' top above) where
  -- no entry on the way is above the one before it
  pub climbing-bounds : (top < length queue') × (above ≤ top) × (get_or queue' above 0 ≤ above)
  climbing-bounds =
      let forest = (c.same (suc at) (omega arith) f).forest in
      let room = forest.room in
      let le = c.le in
      let low : above ≤ top = omega (arith, forest.lower top (omega arith), c.entry) in
      (omega arith, low, forest.lower above (omega arith))

  -- the entry is replaced by that entry's own, where the way goes on
  pub climbing-next : {queue'' : List ℕ} {beyond above' : ℕ} → beyond ≡ get_or queue' above 0 →
      queue'' ≡ set queue' top beyond → above' ≡ get_or queue'' beyond 0 → Climbing queue at queue'' beyond above'
  climbing-next {queue''} {beyond} {above'} b q a =
      let le = c.le in
      let bounds = climbing-bounds in
      let forest = (c.same (suc at) (omega arith) f).forest in
      record {
        le = omega arith;
        entry = a;
        same = λ n l g. same_roots-trans (c.same n l g) (halved n l g);
        found =
            (halved (suc at) (omega arith) f).roots beyond (omega arith)
            ∙ ap (root queue') b
            ∙ root-step (suc at) queue' above forest (omega arith)
            ∙ ap (root queue') c.entry
            ∙ root-step (suc at) queue' top forest (omega arith)
            ∙ c.found;
      }
    where
      halved : (n : ℕ) → at < n → Forest n queue → SameRoots n queue' queue''
      halved n l g =
          let le = c.le in
          let twice = b ∙ ap (λ (i : ℕ). get_or queue' i 0) c.entry in
          rw (q, twice) (halve n queue' top (c.same n l g).forest (omega arith))

-- ---- two sets made one

module _ (n : ℕ) (queue : List ℕ) (f : Forest n queue) where
  -- a root hung on another that is not above it
  root-hang-root : (a b : ℕ) → a < n → get_or queue a 0 ≡ a → get_or queue b 0 ≡ b → b ≤ a → (k : ℕ) → k < n →
      root (set queue a b) k ≡ cond (eqb (root queue k) a) b (root queue k)
  root-hang-root a b l own other le k lk =
      by-eq b a
      (λ e.
      let same = ap (set queue a) (e ∙ sym own) ∙ set-get_or queue a 0 in
      ap (λ (q : List ℕ). root q k) same
      ∙ by-eq (root queue k) a (λ r. r ∙ sym e ∙ sym (cond-true b (root queue k) (eq-eqb _ _ r)))
      (λ d. sym (cond-false b (root queue k) (ne_eqb _ _ d))))
      (λ d. rw (root-own queue b other) at (root-hang n queue a b f l own (omega arith) k lk))

module _ {n : ℕ} {queue queue' : List ℕ} (s : SameRoots n queue queue') where
  -- a root before is its own entry after
  root_kept : (k : ℕ) → k < n → (root queue k < n) × (get_or queue' (root queue k) 0 ≡ root queue k)
  root_kept k l = rw (← (s.roots k l)) (root-lt n queue' k s.forest l, root-root n queue' k s.forest l)

  -- and so are the higher and the lower of two
  both-kept : (a b : ℕ) → a < n → b < n →
      let top = max (root queue a) (root queue b) in
      let low = min (root queue a) (root queue b) in
      (top < n) × (get_or queue' top 0 ≡ top) × (get_or queue' low 0 ≡ low)
  both-kept a b la lb =
      let (inside-a, own-a) = root_kept a la in
      let (inside-b, own-b) = root_kept b lb in
      by-lt (root queue a) (root queue b)
      (λ less.
      let top : max (root queue a) (root queue b) ≡ root queue b = omega arith in
      let low : min (root queue a) (root queue b) ≡ root queue a = omega arith in
      rw (top, low) (inside-b, own-b, own-a))
      (λ less.
      let top : max (root queue a) (root queue b) ≡ root queue a = omega arith in
      let low : min (root queue a) (root queue b) ≡ root queue b = omega arith in
      rw (top, low) (inside-a, own-a, own-b))

  -- the higher of two roots is hung on the lower
  pub joined-set : (a b : ℕ) → a < n → b < n →
      Joined n queue a b (set queue' (max (root queue a) (root queue b)) (min (root queue a) (root queue b)))
  unfolding merged
  joined-set a b la lb =
      let (inside, own, other) = both-kept a b la lb in
      record {
        size = length-set queue' _ _ ∙ s.size;
        forest = forest-set n queue' _ _ s.forest inside (omega arith);
        roots = λ k l.
            rw (s.roots k l) at (root-hang-root n queue' s.forest _ _ inside own other (omega arith) k l);
      }

-- From a queue and two positions to queue' and their roots
pub record Found (queue : List ℕ) (a b : ℕ) (queue' : List ℕ) (one other : ℕ) : Type 0 where
  pub first : one ≡ root queue a
  pub second : other ≡ root queue b
  pub same : (n : ℕ) → a < n → b < n → Forest n queue → SameRoots n queue queue'

-- one after the other
pub found : {queue queue' queue'' : List ℕ} {a b one other : ℕ} → Forest (suc (max a b)) queue → one ≡ root queue a →
    ((n : ℕ) → a < n → Forest n queue → SameRoots n queue queue') → other ≡ root queue' b →
    ((n : ℕ) → b < n → Forest n queue' → SameRoots n queue' queue'') → Found queue a b queue'' one other
found {b = b} f p s q t =
    record {
      first = p;
      second = q ∙ (s _ (omega arith) f).roots b (omega arith);
      same = λ n la lb g. same_roots-trans (s n la g) (t n lb (s n la g).forest);
    }

module _ {queue : List ℕ} {a b : ℕ} {queue' : List ℕ} {one other : ℕ} (r : Found queue a b queue' one other) where
  -- the roots are not above their positions
  pub found-bounds : Forest (suc (max a b)) queue → (one ≤ a) × (other ≤ b) × (max a b < length queue')
  found-bounds f =
      let size = (r.same (suc (max a b)) (omega arith) (omega arith) f).size in
      let room = f.room in (
        omega (arith, r.first, root-le _ queue a f (omega arith)),
        omega (arith, r.second, root-le _ queue b f (omega arith)),
        omega arith,
      )

  -- and their sets are made one
  pub found-joined : (top low : ℕ) → top ≡ max one other → low ≡ min one other → (n : ℕ) → a < n → b < n →
      Forest n queue → Joined n queue a b (set queue' top low)
  found-joined top low t m n la lb f =
      rw (t, m, r.first, r.second) (joined-set (r.same n la lb f) a b la lb)
