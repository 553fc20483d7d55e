-- Laws of `Chained` and `Chains` (`specs/Regions.antt`): a row is chained, entry by entry, and then the queue holds
-- the regions of the rows above and the runs of the row. Assumes nothing.
--   ChainedTo          the row is chained below a position
--   chained_to-first   its first entry is written
--   chained_to-next    one more is
--   chained-all        all are
--   chains-of          a row is chained behind regions
--   regions-none       no row is needed to start with
--   regions-first      the first row has nothing above it to be joined to
use Prim.Native.Nat.{ℕ, zero, suc, ◌+◌, ◌*◌, ◌≤◌, ◌<◌}
use mathlib.Core.Path.{◌≡◌, refl, sym, ap, ◌∙◌}
use mathlib.Core.Bool.{cond}
use mathlib.Core.List.{List}
use native.Mathlib.Omega.{arith}
use native.Mathlib.Numerals.{unary_clauses}
use native.Mathlib.Nat.{zero-mul, suc-mul, mul_comm, mul-le-mul_right}
use lib.Dec.{eqb}
use lib.ListN.{length, get_or, set, length-set}
use lib.Seq.{get_or-set_same, get_or-set_other}
use borrow.Author.Tests.{eq-eqb, ne_eqb}
use Rattle.lists.proofs.BoolLaws.{by-eq, by-lt, cond-true, cond-false}
use Rattle.neighbours.specs.Crop.{Sized}
use Rattle.neighbours.specs.Square.{left_of}
use Rattle.neighbours.proofs.GridLaws.{adjacent-left, adjacent-sym, column-pos}
use Rattle.neighbours.proofs.SquareLaws.{column-behind}
use Rattle.model.specs.Connectivity.{here}
use Rattle.theorems.proofs.ConnectivityLaws.{connected-front}
use Rattle.union_find.specs.Forest.{root, Forest}
use Rattle.union_find.specs.Regions.{connectivity_of, Linked, Regions, Chained, Chains}
use Rattle.union_find.proofs.ForestLaws.{root-own, root-step, roots-are, forest-le}
use Rattle.union_find.proofs.RegionLaws.{connectivity_of-is, settled-kept}

-- ---- a row, entry by entry

-- the entries of row y below position `end` are the first pixels of their runs, those of the rows above are as
-- they were
pub record ChainedTo (width : ℕ) (image : List ℕ) (y : ℕ) (queue queue' : List ℕ) (end : ℕ) : Type 0 where
  pub size : length queue' ≡ length queue
  pub before : (k : ℕ) → k < y * width → get_or queue' k 0 ≡ get_or queue k 0
  pub first : get_or queue' (y * width) 0 ≡ y * width
  pub further : (k : ℕ) → y * width < k → k < end →
      get_or queue' k 0 ≡ cond (eqb (get_or image k 0) (get_or image (left_of k) 0)) (get_or queue' (left_of k) 0) k

-- the first entry is written
pub chained_to-first : (width : ℕ) (image : List ℕ) (y : ℕ) (queue : List ℕ) → get_or queue (y * width) 0 ≡ y * width →
    ChainedTo width image y queue queue (y * width + 1)
chained_to-first width image y queue e =
    record { size = refl; before = λ k l. refl; first = e; further = λ k a b. absurd (omega arith) }

-- the next entry is written
pub chained_to-next : {width : ℕ} {image : List ℕ} {y : ℕ} {queue queue' : List ℕ} {at : ℕ} (run : ℕ) →
    ChainedTo width image y queue queue' at → y * width < at → at < length queue →
    run ≡ cond (eqb (get_or image at 0) (get_or image (left_of at) 0)) (get_or queue' (left_of at) 0) at →
    ChainedTo width image y queue (set queue' at run) (at + 1)
chained_to-next {width} {image} {y} {queue} {queue'} {at} run t behind room e =
    record {
      size = length-set queue' at run ∙ t.size;
      before = λ k l. other k (omega arith) ∙ t.before k l;
      first = other (y * width) behind ∙ t.first;
      further =
          λ k a b.
          by-eq k at
          (λ q. rw (q, get_or-set_same queue' at run 0 (omega (arith, t.size)), other (left_of at) (omega arith)) e)
          (λ d.
          let l : k < at = omega arith in
          rw (other k l, other (left_of k) (omega arith)) (t.further k a l));
    }
  where
    other : (k : ℕ) → k < at → get_or (set queue' at run) k 0 ≡ get_or queue' k 0
    other k l = get_or-set_other queue' at k run 0 (λ q. omega arith)

-- all entries are written, the first of them over that of a queue
pub chained-all : {width : ℕ} {image : List ℕ} {y : ℕ} (queue : List ℕ) {queue₀ queue' : List ℕ} {end : ℕ} →
    queue₀ ≡ set queue (y * width) (y * width) → ChainedTo width image y queue₀ queue' end → y * width + width ≤ end →
    Chained width image y queue queue'
chained-all {width} {y = y} queue e t whole =
    record {
      size = t.size ∙ rw e (length-set queue (y * width) (y * width));
      before = λ k l. t.before k l ∙ rw e (get_or-set_other queue (y * width) k (y * width) 0 (λ q. omega arith));
      first = t.first;
      further = λ k a b. t.further k a (omega (arith, suc-mul y width));
    }

-- ---- a row as a whole

-- what holds of the first position of a stretch and passes on from each to the next holds of all
along : (P : ℕ → Type 0) (start end : ℕ) → P start → ((k : ℕ) → start < k → k < end → P (left_of k) → P k) →
    (k : ℕ) → start ≤ k → k < end → P k
along P start end first next zero a b = let e : start ≡ 0 = omega arith in rw e at first
along P start end first next (suc k) a b =
    by-eq start (suc k) (λ e. rw e at first)
    (λ d.
    next (suc k) (omega arith) b (simp unary_clauses (along P start end first next k (omega arith) (omega arith))))

module _ {width : ℕ} {image : List ℕ} {y : ℕ} {queue queue' : List ℕ} (t : Chained width image y queue queue') where
  -- the entry of a pixel like the one to its left is that one's
  further_same : (k : ℕ) → y * width < k → k < suc y * width → get_or image k 0 ≡ get_or image (left_of k) 0 →
      get_or queue' k 0 ≡ get_or queue' (left_of k) 0
  further_same k a b v = t.further k a b ∙ cond-true _ _ (eq-eqb (get_or image k 0) (get_or image (left_of k) 0) v)

  -- any other pixel's is its own
  further-own : (k : ℕ) → y * width < k → k < suc y * width → (get_or image k 0 ≡ get_or image (left_of k) 0 → ⊥) →
      get_or queue' k 0 ≡ k
  further-own k a b v = t.further k a b ∙ cond-false _ _ (ne_eqb (get_or image k 0) (get_or image (left_of k) 0) v)

  -- the entry of a pixel of the row is not behind it, and is its own entry
  entry-own : (k : ℕ) → y * width ≤ k → k < suc y * width →
      (get_or queue' k 0 ≤ k) × (get_or queue' (get_or queue' k 0) 0 ≡ get_or queue' k 0)
  entry-own =
      along (λ k. (get_or queue' k 0 ≤ k) × (get_or queue' (get_or queue' k 0) 0 ≡ get_or queue' k 0)) (y * width)
      (suc y * width) (own t.first)
      (λ k a b p.
      by-eq (get_or image k 0) (get_or image (left_of k) 0) (λ v. rw (further_same k a b v) (omega arith, p.1))
      (λ v. own (further-own k a b v)))
    where
      own : {k : ℕ} → get_or queue' k 0 ≡ k →
          (get_or queue' k 0 ≤ k) × (get_or queue' (get_or queue' k 0) 0 ≡ get_or queue' k 0)
      own e = (omega arith, rw (e, e))

  -- so it is the root
  root-row : Forest (suc y * width) queue' → (k : ℕ) → y * width ≤ k → k < suc y * width →
      root queue' k ≡ get_or queue' k 0
  root-row f k a b =
      sym (root-step (suc y * width) queue' k f b) ∙ root-own queue' (get_or queue' k 0) (entry-own k a b).1

  -- each pixel is linked to its entry along its run
  linked-row : {height : ℕ} (connectivity : ℕ) → suc y * width ≤ width * height → (k : ℕ) →
      y * width ≤ k → k < suc y * width → Linked width height connectivity image k (get_or queue' k 0)
  linked-row {height} connectivity inside k above below =
      along (λ k. Linked width height connectivity image k (get_or queue' k 0)) (y * width) (suc y * width)
      (rw t.first (here (omega arith) refl))
      (λ k a b p.
      let l : k < width * height = omega arith in
      by-eq (get_or image k 0) (get_or image (left_of k) 0)
      (λ v.
      let by = connectivity_of connectivity (get_or image k 0) in
      let is = connectivity_of-is connectivity (get_or image k 0) in
      let far = column-behind width y k a b in
      let beside = adjacent-sym width height by is l (adjacent-left width height by is l (λ first. omega arith)) in
      rw (further_same k a b v) (connected-front width height by beside (rw (← v) at p) l refl))
      (λ v. rw (further-own k a b v) (here l refl)))
      k above below

-- a row that is chained behind the regions of the rows above
pub chains-of : {width height connectivity : ℕ} {image : List ℕ} {y : ℕ} {queue queue' : List ℕ} →
    Sized width height image → y < height →
    Regions width height connectivity image (y * width) queue → Chained width image y queue queue' →
    width * height ≤ length queue → Chains width height connectivity image y queue'
chains-of {width} {height} {connectivity} {image} {y} {queue} {queue'} s row r t room =
    record {
      forest = forest;
      linked =
          λ k l.
          by-lt k (y * width) (λ a. rw (roots k a) (r.linked k a))
          (λ a. rw (root-row t forest k a l) (linked-row t connectivity inside k a l));
      settled =
          λ k l. settled-kept (λ i j li lj e. roots i li ∙ e ∙ sym (roots j lj)) l (r.settled k l);
      left =
          λ k a b v.
          root-row t forest (left_of k) (omega arith) (omega arith) ∙ sym (further_same t k a b (sym v))
          ∙ sym (root-row t forest k (omega arith) b);
    }
  where
    inside : suc y * width ≤ width * height
    inside = rw (mul_comm width height) (mul-le-mul_right width row)

    forest : Forest (suc y * width) queue'
    forest =
        record {
          room = omega (arith, t.size, inside);
          lower = λ k l.
              by-lt k (y * width) (λ a. rw (t.before k a) (r.forest.lower k a)) (λ a. (entry-own t k a l).0);
        }

    -- the rows above have the same entries, so the same roots
    roots : (k : ℕ) → k < y * width → root queue' k ≡ root queue k
    roots =
        roots-are (y * width) queue' (root queue)
        (forest-le (omega arith) forest)
        (λ k l own. root-own queue k (sym (t.before k l) ∙ own))
        (λ k l below. ap (root queue) (t.before k l) ∙ root-step (y * width) queue k r.forest l)

-- ---- the first row

-- any queue holds the regions of no position
pub regions-none : {width height connectivity : ℕ} {image queue : List ℕ} →
    Regions width height connectivity image 0 queue
regions-none =
    record {
      forest = record { room = omega arith; lower = λ k l. absurd (omega arith) };
      linked = λ k l. absurd (omega arith);
      settled = λ k l. absurd (omega arith);
    }

-- nothing is above the first row, so once it is chained it is joined
pub regions-first : {width height connectivity : ℕ} {image queue : List ℕ} →
    Chains width height connectivity image 0 queue → Regions width height connectivity image (1 * width) queue
regions-first {width} {height} h =
    record {
      forest = h.forest;
      linked = h.linked;
      settled =
          λ k l.
          let low : k < width = omega (arith, suc-mul 0 width, zero-mul width) in
          record {
            left =
                λ x v.
                let pos = column-pos width height k (λ e. omega arith) in
                h.left k (omega (arith, zero-mul width)) l v;
            above = λ w v. absurd (omega arith);
            falling = λ x w v u. absurd (omega arith);
            rising = λ x w v u. absurd (omega arith);
          };
    }
