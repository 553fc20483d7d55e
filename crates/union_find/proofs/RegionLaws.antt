-- Laws of `specs/Regions.antt`: joins of linked positions, and a row whose runs are joined to those above.
-- Assumes nothing.
--   connectivity_of-is             the connectivity of a value is 4 or 8
--   connectivity_of-values         that of object pixels is the connectivity, that of background the holes'
--   linked-trans, linked-sym       paths join, and lead back
--   joined_same                    joined positions have one root
--   coarser-refl, coarser-trans    a queue to which nothing, or one thing after another, was done
--   joined-coarser                 a join of linked positions
--   joined-above                   a pixel and the one above, which are alike, were joined
--   settled-kept, square-coarser   what is joined stays so
--   met-above .. met-none          the four ways to join the pixels of a square
--   row_of                         the bounds of a row that is not the first
--   row-regions                    a row whose squares are joined where they need it
use Prim.Native.Nat.{ℕ, zero, suc, ◌+◌, ◌-◌, ◌*◌, ◌≤◌, ◌<◌, min, max}
use mathlib.Core.Path.{◌≡◌, refl, sym, ap, ◌∙◌}
use mathlib.Core.Bool.{true}
use mathlib.Core.Logic.{⊎_elim}
use mathlib.Core.List.{List}
use native.Mathlib.Nat.{add-zero, mul_comm, mul-le-mul_right}
use native.Mathlib.Omega.{arith}
use lib.Dec.{eqb}
use lib.ListN.{get_or}
use borrow.Author.Tests.{eqb-true, eq-eqb, ne_eqb}
use Rattle.neighbours.specs.Limits.{max_pixels}
use Rattle.lists.proofs.BoolLaws.{by-test, by-eq, by-lt, or-true-cases}
use Rattle.neighbours.specs.Grid.{is_connectivity, column, Adjacent}
use Rattle.neighbours.specs.Square.{left_of, above_of, corner_of, HasSquare}
use Rattle.neighbours.specs.Crop.{ValidSize}
use Rattle.neighbours.proofs.PositionLaws.{size-le}
use Rattle.neighbours.proofs.GridLaws.{adjacent-lt, adjacent-sym, adjacent-four}
use Rattle.neighbours.proofs.SquareLaws.{column-behind, behind-column, column-above}
use Rattle.neighbours.proofs.SquareLaws.{adjacent-above, adjacent-falling, adjacent-rising}
use Rattle.model.specs.Connectivity.{here, next}
use Rattle.model.specs.Labelling.{hole_connectivity}
use Rattle.theorems.proofs.ConnectivityLaws.{connected-value, connected-trans, connected-sym}
use Rattle.union_find.specs.Forest.{root, Forest, merged, Joined}
use Rattle.union_find.specs.Regions.{diagonal_value, connectivity_of, Linked, Settled, Regions, needs_join}
use Rattle.union_find.specs.Regions.{Chains, Coarser, SquareJoined, Met}
use Rattle.union_find.proofs.NeedsJoinLaws.{needs_join-alike, needs_join-either}

-- ---- connectivity

-- the connectivity of a value is 4 or 8
pub connectivity_of-is : (connectivity value : ℕ) → is_connectivity (connectivity_of connectivity value) ≡ true
unfolding connectivity_of
connectivity_of-is connectivity value = by-test (eqb value (diagonal_value connectivity)) (λ t. rw t) (λ t. rw t)

-- object pixels are taken by the connectivity, background by that of holes
pub connectivity_of-values : (connectivity : ℕ) → is_connectivity connectivity ≡ true →
    (connectivity_of connectivity 1 ≡ connectivity)
    × (connectivity_of connectivity 0 ≡ hole_connectivity connectivity)
unfolding connectivity_of diagonal_value hole_connectivity
connectivity_of-values connectivity c =
    ⊎_elim (λ four. let e = eqb-true connectivity 4 four in (rw e, rw e))
    (λ eight. let e = eqb-true connectivity 8 eight in (rw e, rw e))
    (or-true-cases (eqb connectivity 4) (eqb connectivity 8) c)

-- neighbours by 8 of the value that connects diagonally are neighbours
adjacent-diagonal : (width height connectivity value : ℕ) {i j : ℕ} → value ≡ diagonal_value connectivity →
    Adjacent width height 8 i j → Adjacent width height (connectivity_of connectivity value) i j
unfolding connectivity_of
adjacent-diagonal width height connectivity value e a = rw (eq-eqb value (diagonal_value connectivity) e) a

-- ---- linked positions

module _ (width height connectivity : ℕ) (image : List ℕ) where
  -- two paths join
  pub linked-trans : {i j k : ℕ} → Linked width height connectivity image i j →
      Linked width height connectivity image j k → Linked width height connectivity image i k
  linked-trans {i} {j} p q =
      let e : get_or image j 0 ≡ get_or image i 0 = (connected-value width height _ p).1 in
      connected-trans width height _ p (rw e at q)

  -- a path leads back
  pub linked-sym : {i j : ℕ} → Linked width height connectivity image i j →
      Linked width height connectivity image j i
  linked-sym {i} {j} p =
      let e : get_or image j 0 ≡ get_or image i 0 = (connected-value width height _ p).1 in
      rw e (connected-sym width height _ (connectivity_of-is connectivity _) p)

  -- neighbours of one value are linked
  linked-adjacent : {i j : ℕ} → Adjacent width height (connectivity_of connectivity (get_or image i 0)) i j →
      i < width * height → get_or image j 0 ≡ get_or image i 0 → Linked width height connectivity image i j
  linked-adjacent {i} a l e =
      next (here l refl) (adjacent-sym width height _ (connectivity_of-is connectivity (get_or image i 0)) l a)
      (adjacent-lt width height _ a)
      e

  -- a pixel and the one above that are alike
  linked-above : (k : ℕ) → k < width * height → width ≤ k →
      get_or image (above_of width k) 0 ≡ get_or image k 0 → Linked width height connectivity image k (above_of width k)
  linked-above k l below e =
      let is = connectivity_of-is connectivity (get_or image k 0) in
      linked-adjacent (adjacent-four width height _ is (adjacent-above width height l below)) l e

  -- neighbours by 8 of the value that connects diagonally
  linked-diagonal : {i j : ℕ} → Adjacent width height 8 i j → i < width * height →
      get_or image i 0 ≡ diagonal_value connectivity → get_or image j 0 ≡ diagonal_value connectivity →
      Linked width height connectivity image i j
  linked-diagonal {i} a l one other =
      linked-adjacent (adjacent-diagonal width height connectivity (get_or image i 0) one a) l (other ∙ sym one)

-- ---- joins

-- the lower of two roots is that of both sets
merged-min : (a b r : ℕ) → ((r ≡ max a b → ⊥) → r ≡ min a b) → merged a b r ≡ min a b
unfolding merged
merged-min a b r f = by-eq r (max a b) (λ e. rw (eq-eqb r (max a b) e)) (λ d. rw (ne_eqb r (max a b) d) (f d))

-- a third set keeps its root
merged-other : (a b r : ℕ) → (r ≡ max a b → ⊥) → merged a b r ≡ r
unfolding merged
merged-other a b r d = rw (ne_eqb r (max a b) d)

-- joined positions have one root
pub joined_same : {n : ℕ} {queue : List ℕ} {a b : ℕ} {queue' : List ℕ} → Joined n queue a b queue' → a < n → b < n →
    root queue' a ≡ root queue' b
joined_same {queue = queue} {a = a} {b = b} j la lb =
    let one = root queue a in
    let other = root queue b in
    j.roots a la ∙ merged-min one other one (λ d. omega arith)
    ∙ sym (j.roots b lb ∙ merged-min one other other (λ d. omega arith))

module _ (width height connectivity : ℕ) (image : List ℕ) (n : ℕ) where
  -- a queue to which nothing was done
  pub coarser-refl : {queue : List ℕ} → Forest n queue → Coarser width height connectivity image n queue queue
  coarser-refl f = record { size = refl; forest = f; linked = λ h. h; kept = λ i j li lj e. e }

  -- one thing after another
  pub coarser-trans : {queue queue' queue'' : List ℕ} → Coarser width height connectivity image n queue queue' →
      Coarser width height connectivity image n queue' queue'' → Coarser width height connectivity image n queue queue''
  coarser-trans g h =
      record {
        size = h.size ∙ g.size;
        forest = h.forest;
        linked = λ p. h.linked (g.linked p);
        kept = λ i j li lj e. h.kept i j li lj (g.kept i j li lj e);
      }

  -- a join of linked positions
  pub joined-coarser : {queue : List ℕ} {a b : ℕ} {queue' : List ℕ} → a < n → b < n →
      Linked width height connectivity image a b → Joined n queue a b queue' →
      Coarser width height connectivity image n queue queue'
  joined-coarser {queue} {a} {b} {queue'} la lb p j =
      record {
        size = j.size;
        forest = j.forest;
        linked = λ h k l. rw (j.roots k l) (merged-linked h k l);
        kept = λ i k li lk e. j.roots i li ∙ ap (merged (root queue a) (root queue b)) e ∙ sym (j.roots k lk);
      }
    where
      -- from a position with the root of i over i', which is linked to i, to the root of i'
      over : {k i i' : ℕ} → Linked width height connectivity image k (root queue i) →
          Linked width height connectivity image i (root queue i) → Linked width height connectivity image i i' →
          Linked width height connectivity image i' (root queue i') →
          Linked width height connectivity image k (root queue i')
      over {k} {i} {i'} q r s t =
          linked-trans width height connectivity image q
          (linked-trans width height connectivity image (linked-sym width height connectivity image r)
          (linked-trans width height connectivity image s t))

      -- every position is linked to its root after the join
      merged-linked : ((k : ℕ) → k < n → Linked width height connectivity image k (root queue k)) → (k : ℕ) → k < n →
          Linked width height connectivity image k (merged (root queue a) (root queue b) (root queue k))
      merged-linked h k l =
          let one = root queue a in
          let other = root queue b in
          let r = root queue k in
          by-eq r (max one other)
          (λ e.
          rw (merged-min one other r (λ d. absurd (d e)))
          (by-lt one other
          (λ less.
          let high : r ≡ other = omega arith in
          let low : min one other ≡ one = omega arith in
          rw low (over (rw high at (h k l)) (h b lb) (linked-sym width height connectivity image p) (h a la)))
          (λ le.
          let high : r ≡ one = omega arith in
          let low : min one other ≡ other = omega arith in
          rw low (over (rw high at (h k l)) (h a la) p (h b lb)))))
          (λ d. rw (merged-other one other r d) (h k l))

  -- a pixel and the one above, which are alike, were joined
  pub joined-above : {queue : List ℕ} {k over : ℕ} {queue' : List ℕ} → k < width * height → width ≤ k →
      k < n → over ≡ above_of width k → get_or image k 0 ≡ get_or image over 0 → Joined n queue k over queue' →
      Coarser width height connectivity image n queue queue' × (root queue' (above_of width k) ≡ root queue' k)
  joined-above {k = k} inside below l e alike j =
      let above : above_of width k < n = omega arith in
      let joined = rw e at j in
      let p = linked-above width height connectivity image k inside below (sym (rw e at alike)) in
      (joined-coarser l above p joined, sym (joined_same joined l above))

-- ---- squares

-- what is settled stays so where positions of one set are still in one
pub settled-kept : {width connectivity : ℕ} {image queue queue' : List ℕ} {n k : ℕ} →
    ((i j : ℕ) → i < n → j < n → root queue i ≡ root queue j → root queue' i ≡ root queue' j) → k < n →
    Settled width connectivity image queue k → Settled width connectivity image queue' k
settled-kept {width} {k = k} kept l s =
    record {
      left = λ far e. kept (left_of k) k (omega arith) l (s.left far e);
      above = λ below e. kept (above_of width k) k (omega arith) l (s.above below e);
      falling = λ far below corner pixel.
          kept (corner_of width k) k (omega arith) l (s.falling far below corner pixel);
      rising = λ far below left above.
          kept (left_of k) (above_of width k) (omega arith) (omega arith) (s.rising far below left above);
    }

module _ {width height connectivity : ℕ} {image : List ℕ} {n k : ℕ} {queue queue' : List ℕ} where
  module _ (g : Coarser width height connectivity image n queue queue') (l : k < n) where
    -- what is joined stays so
    pub square-coarser : SquareJoined width connectivity image queue k → SquareJoined width connectivity image queue' k
    square-coarser m =
        record {
          above = λ e. g.kept (above_of width k) k (omega arith) l (m.above e);
          falling = λ d corner pixel.
              g.kept (corner_of width k) k (omega arith) l (m.falling d corner pixel);
          rising = λ d left above.
              g.kept (left_of k) (above_of width k) (omega arith) (omega arith) (m.rising d left above);
        }

module _ (width height connectivity : ℕ) (image : List ℕ) (n k : ℕ) {queue : List ℕ}
    (s : HasSquare width height k) (l : k < n) where
  -- the pixel and the one above are alike, and were joined
  pub met-above : {over : ℕ} {queue' : List ℕ} → over ≡ above_of width k → get_or image k 0 ≡ get_or image over 0 →
      Joined n queue k over queue' → Met width height connectivity image n k queue queue'
  met-above e alike j =
      let (coarser, same) =
      joined-above width height connectivity image n s.inside (omega (arith, s.below)) l e alike j in
      record {
        coarser = coarser;
        square =
            record {
              above = λ q. same;
              falling = λ d. absurd (d (sym (rw e at alike)));
              rising = λ d. absurd (d (sym (rw e at alike)));
            };
      }

  module _ (apart : get_or image k 0 ≡ get_or image (above_of width k) 0 → ⊥) where
    -- they are not, and the pixel and the corner were joined
    pub met-falling : {queue' : List ℕ} → get_or image k 0 ≡ diagonal_value connectivity →
        get_or image (corner_of width k) 0 ≡ diagonal_value connectivity →
        Joined n queue k (corner_of width k) queue' → Met width height connectivity image n k queue queue'
    met-falling pixel corner j =
        let behind : corner_of width k < n = omega arith in
        let a = adjacent-falling width height s in
        let p = linked-diagonal width height connectivity image a s.inside pixel corner in
        record {
          coarser = joined-coarser width height connectivity image n l behind p j;
          square =
              record {
                above = λ e. absurd (apart (sym e));
                falling = λ d corner' pixel'. sym (joined_same j l behind);
                rising = λ d left above. absurd (apart (pixel ∙ sym above));
              };
        }

    -- they are not, and the pixel to the left and the one above were joined
    pub met-rising : {queue' : List ℕ} → (get_or image k 0 ≡ diagonal_value connectivity → ⊥) →
        get_or image (left_of k) 0 ≡ diagonal_value connectivity →
        get_or image (above_of width k) 0 ≡ diagonal_value connectivity →
        Joined n queue (left_of k) (above_of width k) queue' → Met width height connectivity image n k queue queue'
    met-rising other left above j =
        let before : left_of k < n = omega arith in
        let over : above_of width k < n = omega arith in
        let a = adjacent-rising width height s in
        let in-front : left_of k < width * height = omega (arith, s.inside) in
        let p = linked-diagonal width height connectivity image a in-front left above in
        record {
          coarser = joined-coarser width height connectivity image n before over p j;
          square =
              record {
                above = λ e. absurd (apart (sym e));
                falling = λ d corner pixel. absurd (other pixel);
                rising = λ d left' above'. joined_same j before over;
              };
        }

    -- no two pixels of the square connect diagonally
    pub met-none : Forest n queue →
        (get_or image (corner_of width k) 0 ≡ diagonal_value connectivity →
        get_or image k 0 ≡ diagonal_value connectivity → ⊥) →
        (get_or image (left_of k) 0 ≡ diagonal_value connectivity →
        get_or image (above_of width k) 0 ≡ diagonal_value connectivity → ⊥) →
        Met width height connectivity image n k queue queue
    met-none f no-falling no-rising =
        record {
          coarser = coarser-refl width height connectivity image n f;
          square =
              record {
                above = λ e. absurd (apart (sym e));
                falling = λ d corner pixel. absurd (no-falling corner pixel);
                rising = λ d left above. absurd (no-rising left above);
              };
        }

-- ---- a row

-- row y is neither the first nor outside, and positions fit 16 bits
pub record Row (width height y : ℕ) : Type 0 where
  pub wide : 1 ≤ width
  pub below : width ≤ y * width
  pub inside : y * width + width ≤ width * height
  pub small : width * height ≤ max_pixels

-- the bounds of a row that is not the first
pub row_of : {width height : ℕ} (y : ℕ) → ValidSize width height → 1 ≤ y → y < height → Row width height y
row_of {width} {height} y s lower l =
    let rows : suc y * width ≤ width * height = rw (mul_comm width height) (mul-le-mul_right width l) in
    record {
      wide = s.wide;
      below = omega (arith, mul-le-mul_right width lower);
      inside = omega arith;
      small = size-le s;
    }

-- position k and the one above have one root where they are alike
abbrev pub Above : ℕ → List ℕ → List ℕ → ℕ → Type 0
Above width image queue k =
    get_or image (above_of width k) 0 ≡ get_or image k 0 → root queue (above_of width k) ≡ root queue k

module _ (width height connectivity : ℕ) (image : List ℕ) (y : ℕ) {queue₀ queue : List ℕ} (r : Row width height y)
    (chains : Chains width height connectivity image y queue₀)
    (coarser : Coarser width height connectivity image (suc y * width) queue₀ queue)
    (first : Above width image queue (y * width))
    (meets : (k : ℕ) → y * width < k → k < suc y * width → needs_join width image k ≡ true →
    SquareJoined width connectivity image queue k) where
  -- a position and the one to its left
  left_at : (k : ℕ) → k < suc y * width → 1 ≤ column width k → get_or image (left_of k) 0 ≡ get_or image k 0 →
      root queue (left_of k) ≡ root queue k
  left_at k l far e =
      coarser.kept (left_of k) k (omega arith) l
      (by-lt k (y * width) (λ inside. (chains.settled k inside).left far e)
      (λ le. chains.left k (behind-column width y k le far) l e))

  -- the corner and the position above
  left-above : (k : ℕ) → y * width < k → k < suc y * width →
      get_or image (corner_of width k) 0 ≡ get_or image (above_of width k) 0 →
      root queue (corner_of width k) ≡ root queue (above_of width k)
  left-above k behind l e =
      let below = r.below in
      let same = column-above width k (omega arith) in
      left_at (above_of width k) (omega arith) (omega (arith, column-behind width y k behind l)) e

  -- the position above, from the square before to the next
  above_step : (k : ℕ) → y * width < k → k < suc y * width →
      (get_or image (corner_of width k) 0 ≡ get_or image (left_of k) 0 →
      root queue (corner_of width k) ≡ root queue (left_of k)) →
      Above width image queue k
  above_step k behind l corner alike =
      by-test (needs_join width image k) (λ t. (meets k behind l t).above alike)
      (λ f.
      let (left, over) = needs_join-alike width image k f alike in
      sym (left-above k behind l over) ∙ corner (over ∙ alike ∙ sym left)
      ∙ left_at k l (column-behind width y k behind l) left)

  -- so along the row
  above-row : (x : ℕ) → x < width → Above width image queue (y * width + x)
  above-row zero l = rw add-zero first
  above-row (suc x) l =
      let k = y * width + suc x in
      let before : left_of k ≡ y * width + x = omega arith in
      let corner : corner_of width k ≡ above_of width (y * width + x) = omega arith in
      above_step k (omega arith) (omega arith) (rw (before, corner) (above-row x (omega arith)))

  above-at : (k : ℕ) → y * width ≤ k → k < suc y * width → Above width image queue k
  above-at k le l =
      let e : y * width + (k - y * width) ≡ k = omega arith in
      rw e at (above-row (k - y * width) (omega arith))

  -- the corner and the position to the left
  corner-at : (k : ℕ) → y * width < k → k < suc y * width →
      get_or image (corner_of width k) 0 ≡ get_or image (left_of k) 0 →
      root queue (corner_of width k) ≡ root queue (left_of k)
  corner-at k behind l =
      let e : above_of width (left_of k) ≡ corner_of width k = omega arith in
      rw e at (above-at (left_of k) (omega arith) (omega arith))

  -- pixels that connect diagonally
  falling-at : (k : ℕ) → y * width < k → k < suc y * width →
      get_or image (corner_of width k) 0 ≡ diagonal_value connectivity →
      get_or image k 0 ≡ diagonal_value connectivity → root queue (corner_of width k) ≡ root queue k
  falling-at k behind l corner pixel =
      by-eq (get_or image (above_of width k) 0) (get_or image k 0)
      (λ alike. left-above k behind l (corner ∙ sym pixel ∙ sym alike) ∙ above-at k (omega arith) l alike)
      (λ apart.
      by-test (needs_join width image k) (λ t. (meets k behind l t).falling apart corner pixel)
      (λ f.
      ⊎_elim
      (λ left.
      corner-at k behind l (corner ∙ sym pixel ∙ sym left) ∙ left_at k l (column-behind width y k behind l) left)
      (λ over. absurd (apart (sym over ∙ corner ∙ sym pixel)))
      (needs_join-either width image k f)))

  rising-at : (k : ℕ) → y * width < k → k < suc y * width →
      get_or image (left_of k) 0 ≡ diagonal_value connectivity →
      get_or image (above_of width k) 0 ≡ diagonal_value connectivity →
      root queue (left_of k) ≡ root queue (above_of width k)
  rising-at k behind l left above =
      by-eq (get_or image (above_of width k) 0) (get_or image k 0)
      (λ alike.
      left_at k l (column-behind width y k behind l) (left ∙ sym above ∙ alike)
      ∙ sym (above-at k (omega arith) l alike))
      (λ apart.
      by-test (needs_join width image k) (λ t. (meets k behind l t).rising apart left above)
      (λ f.
      ⊎_elim (λ same. absurd (apart (above ∙ sym left ∙ same)))
      (λ over. sym (corner-at k behind l (over ∙ above ∙ sym left)) ∙ left-above k behind l over)
      (needs_join-either width image k f)))

  -- each position of the row is settled
  settled_at : (k : ℕ) → y * width ≤ k → k < suc y * width → Settled width connectivity image queue k
  settled_at k le l =
      record {
        left = left_at k l;
        above = λ below. above-at k le l;
        falling = λ far below. falling-at k (behind-column width y k le far) l;
        rising = λ far below. rising-at k (behind-column width y k le far) l;
      }

  -- a row whose squares are joined where they need it
  pub row-regions : Regions width height connectivity image (suc y * width) queue
  row-regions =
      record {
        forest = coarser.forest;
        linked = coarser.linked chains.linked;
        settled = λ k l.
            by-lt k (y * width) (λ inside. settled-kept coarser.kept l (chains.settled k inside))
            (λ le. settled_at k le l);
      }
