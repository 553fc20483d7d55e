-- Laws of `Regions` (`specs/Regions.antt`): in a forest of a whole image a root stands for a whole connected
-- set. Assumes nothing.
--   regions-same         a forest with the same roots is one of the same regions
--   regions-complete     connected pixels have one root
--   root-first           a root is the first of the pixels that are connected to it
--   entry-linked         a position is linked to the one it hangs on
use Prim.Native.Nat.{ℕ, ◌*◌, ◌≤◌, ◌<◌}
use mathlib.Core.Path.{◌≡◌, refl, sym, ◌∙◌}
use mathlib.Core.List.{List}
use native.Mathlib.Omega.{arith}
use lib.ListN.{get_or}
use borrow.Author.Tests.{ne_eqb}
use Rattle.lists.proofs.BoolLaws.{by-eq}
use Rattle.neighbours.specs.Grid.{Adjacent}
use Rattle.neighbours.proofs.SquareLaws.{adjacent-square}
use Rattle.model.specs.Connectivity.{Connected, here, next}
use Rattle.theorems.proofs.ConnectivityLaws.{connected-lt, connected-value}
use Rattle.union_find.specs.Forest.{root, SameRoots}
use Rattle.union_find.specs.Regions.{diagonal_value, connectivity_of, Linked, Regions}
use Rattle.union_find.proofs.ForestLaws.{root-le, root-own, root-step}
use Rattle.union_find.proofs.RegionLaws.{connectivity_of-is, linked-trans, linked-sym, settled-kept}

-- ---- connectivity

-- only pixels of one value connect diagonally
by-diagonals : (connectivity value : ℕ) → (connectivity_of connectivity value ≡ 4 → ⊥) →
    value ≡ diagonal_value connectivity
unfolding connectivity_of
by-diagonals connectivity value n =
    by-eq value (diagonal_value connectivity) (λ e. e)
    (λ other. absurd (n (rw (ne_eqb value (diagonal_value connectivity) other))))

-- ---- other entries, the same roots

-- a forest with the same roots is one of the same regions
pub regions-same : {width height connectivity n : ℕ} {image queue queue' : List ℕ} →
    Regions width height connectivity image n queue → SameRoots n queue queue' →
    Regions width height connectivity image n queue'
regions-same r same =
    record {
      forest = same.forest;
      linked = λ k l. rw (same.roots k l) (r.linked k l);
      settled = λ k l.
          settled-kept (λ i j li lj e. same.roots i li ∙ e ∙ sym (same.roots j lj)) l (r.settled k l);
    }

-- ---- the whole image

module _ {width height connectivity : ℕ} {image queue : List ℕ}
    (r : Regions width height connectivity image (width * height) queue) where
  -- the value at a position
  abbrev pixel : ℕ → ℕ
  pixel k = get_or image k 0

  -- two neighbours of a value have one root, since their square is settled
  root-adjacent : (value : ℕ) {i j : ℕ} → i < width * height → j < width * height →
      Adjacent width height (connectivity_of connectivity value) i j → pixel i ≡ value → pixel j ≡ value →
      root queue j ≡ root queue i
  root-adjacent value =
      adjacent-square width height (connectivity_of connectivity value)
      (λ i j. pixel i ≡ value → pixel j ≡ value → root queue j ≡ root queue i)
      (λ k l far v w. (r.settled k l).left far (w ∙ sym v))
      (λ k l below v w. (r.settled k l).above below (w ∙ sym v))
      (λ corners k s v w.
      let e = by-diagonals connectivity value corners in
      (r.settled k s.inside).falling s.far (omega (arith, s.below)) (w ∙ e) (v ∙ e))
      (λ corners k s v w.
      let e = by-diagonals connectivity value corners in
      sym ((r.settled k s.inside).rising s.far (omega (arith, s.below)) (v ∙ e) (w ∙ e)))
      (connectivity_of-is connectivity value)
      (λ i v w. refl)
      (λ i j same v w. sym (same w v))

  -- connected pixels have one root
  pub regions-complete : (value i j : ℕ) → Connected width height (connectivity_of connectivity value) value image i j →
      root queue i ≡ root queue j
  regions-complete value i j (here l e) = refl
  regions-complete value i j (next {k = k} path a l e) =
      let by = connectivity_of connectivity value in
      regions-complete value i k path
      ∙ root-adjacent value l (connected-lt width height by path).1 a e (connected-value width height by path).1

  -- a root is the first of the pixels that are connected to it
  pub root-first : (value k j : ℕ) → get_or queue k 0 ≡ k →
      Connected width height (connectivity_of connectivity value) value image k j → k ≤ j
  root-first value k j own path =
      let inside = (connected-lt width height (connectivity_of connectivity value) path).1 in
      omega (
        arith,
        root-own queue k own,
        regions-complete value k j path,
        root-le (width * height) queue j r.forest inside,
      )

  -- a position is linked to the one it hangs on: both are linked to their root
  pub entry-linked : (k : ℕ) → k < width * height → Linked width height connectivity image k (get_or queue k 0)
  entry-linked k l =
      let entry = get_or queue k 0 in
      let inside : entry < width * height = omega (arith, r.forest.lower k l) in
      let same = root-step (width * height) queue k r.forest l in
      linked-trans width height connectivity image (r.linked k l)
      (linked-sym width height connectivity image (rw same at (r.linked entry inside)))
