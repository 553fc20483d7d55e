-- A forest of an image's regions agrees with its components and with its holes: they are `Guided`
-- (`specs/Inner.antt`). Assumes nothing.
--   guided-components    with the components, where nothing is labelled yet
--   guided-holes         with the holes, where the roots of the background outside are flagged
use Prim.Native.Nat.{ℕ, ◌*◌, ◌<◌}
use mathlib.Core.Path.{◌≡◌, sym, ◌∙◌}
use mathlib.Core.Bool.{Bool, true}
use mathlib.Core.Logic.{⊎_elim, ◌↔◌}
use mathlib.Core.List.{List}
use native.Mathlib.Omega.{arith}
use lib.Dec.{eqb}
use lib.ListN.{get_or, replicate, get_or-replicate}
use borrow.Author.Tests.{eqb-true, eq-eqb}
use Rattle.lists.proofs.BoolLaws.{by-eq, not-both, and_left, and_right, and_both}
use Rattle.neighbours.specs.Grid.{is_connectivity, on_border}
use Rattle.model.specs.Connectivity.{Connected}
use Rattle.model.specs.Labelling.{Labels, hole_connectivity, components, holes}
use Rattle.theorems.proofs.ConnectivityLaws.{connected-lt, connected-value, connected-sym}
use Rattle.theorems.proofs.LabellingLaws.{label-object, same-label-iff, hole-label-iff, same-hole-iff}
use Rattle.union_find.specs.Forest.{root, SameRoots}
use Rattle.union_find.specs.Regions.{connectivity_of, Regions, RootsFlagged}
use Rattle.union_find.proofs.ForestLaws.{root-own}
use Rattle.union_find.proofs.RegionLaws.{connectivity_of-is, connectivity_of-values}
use Rattle.union_find.proofs.CompleteLaws.{regions-same, regions-complete, root-first, entry-linked}
use Rattle.component_records.specs.Records.{Numbered}
use Rattle.labelling.specs.Inner.{is_unlabelled, Guided}
use Rattle.component_records.proofs.NumberedLaws.{numbered-components, numbered-holes}

-- Labels of connected sets of a value: they are those of pixels of the value, one label for each set, and the
-- roots that have one are those that start
record Sets (width height connectivity value : ℕ) (image queue : List ℕ) (starts : ℕ → Bool) (asked : Labels)
    : Type 0 where
  numbered : Numbered width height asked
  value_of : (i : ℕ) → i < width * height → (get_or asked.labels i 0 ≡ 0 → ⊥) → get_or image i 0 ≡ value
  same : (i j : ℕ) → i < width * height → (get_or asked.labels i 0 ≡ 0 → ⊥) →
      (get_or asked.labels i 0 ≡ get_or asked.labels j 0)
      ↔ Connected width height (connectivity_of connectivity value) value image i j
  roots : (k : ℕ) → k < width * height → get_or queue k 0 ≡ k → (starts k ≡ true) ↔ (get_or asked.labels k 0 ≡ 0 → ⊥)

-- a forest of the regions agrees with such labels
guided-sets : {width height connectivity value : ℕ} {image queue : List ℕ} {starts : ℕ → Bool} {asked : Labels} →
    Regions width height connectivity image (width * height) queue →
    Sets width height connectivity value image queue starts asked → Guided width height queue starts asked
guided-sets {width} {height} {connectivity} {value} {image} {queue} {starts} {asked} r s =
    record {
      numbered = s.numbered;
      hung = λ k l.
          by-eq (label k) 0
          (λ e.
          by-eq (label (get_or queue k 0)) 0 (λ f. e ∙ sym f)
          (λ d.
          let v = sym (alike k l) ∙ s.value_of (get_or queue k 0) (entry_lt k l) d in
          sym ((s.same (get_or queue k 0) k (entry_lt k l) d).1 (connected-sym width height by is (path k l v)))))
          (λ d. (s.same k (get_or queue k 0) l d).1 (path k l (s.value_of k l d)));
      none = λ k l own off. by-eq (label k) 0 (λ e. e) (λ d. not-both ((s.roots k l own).1 d) off);
      some = λ k l own on. by-eq (label k) 0 (λ e. absurd ((s.roots k l own).0 on e)) (λ d. omega arith);
      first = λ k j l own on before e.
          omega (arith, root-first r value k j own ((s.same k j l ((s.roots k l own).0 on)).0 (sym e)));
    }
  where
    label : ℕ → ℕ
    label k = get_or asked.labels k 0

    by : ℕ
    by = connectivity_of connectivity value

    is : is_connectivity by ≡ true
    is = connectivity_of-is connectivity value

    -- the position that k hangs on is inside, has k's value, and is connected to it
    entry_lt : (k : ℕ) → k < width * height → get_or queue k 0 < width * height
    entry_lt k l = omega (arith, r.forest.lower k l)

    alike : (k : ℕ) → k < width * height → get_or image (get_or queue k 0) 0 ≡ get_or image k 0
    alike k l = (connected-value width height (connectivity_of connectivity (get_or image k 0)) (entry-linked r k l)).1

    path : (k : ℕ) → k < width * height → get_or image k 0 ≡ value →
        Connected width height by value image k (get_or queue k 0)
    path k l v = rw v at (entry-linked r k l)

-- the components, where nothing is labelled yet
pub guided-components : {width height connectivity : ℕ} {image queue labels : List ℕ} →
    is_connectivity connectivity ≡ true →
    Regions width height connectivity image (width * height) queue → labels ≡ replicate (width * height) 0 →
    Guided width height queue (is_unlabelled 1 image labels) (components width height connectivity image)
unfolding is_unlabelled
guided-components {width} {height} {connectivity} {image} {queue} {labels} c r clear =
    guided-sets {value = 1} r (
    record {
      numbered = numbered-components width height connectivity image c;
      value_of = object;
      same = λ i j l d.
          rw (connectivity_of-values connectivity c).0
          (same-label-iff width height connectivity image c i j l (object i l d));
      roots = λ k l own.
          let one = eqb (get_or image k 0) 1 in
          let free = eqb (get_or labels k 0) 0 in (
            λ on e.
                (label-object width height connectivity image c k l).0 e
                (eqb-true (get_or image k 0) 1 (and_left one free on)),
            λ d.
                and_both one free (eq-eqb (get_or image k 0) 1 (object k l d))
                (eq-eqb (get_or labels k 0) 0 (rw clear (get_or-replicate (width * height) k 0 0 l))),
          );
    })
  where
    -- what has a label is object
    object : (i : ℕ) → i < width * height →
        (get_or (components width height connectivity image).labels i 0 ≡ 0 → ⊥) → get_or image i 0 ≡ 1
    object i l d =
        by-eq (get_or image i 0) 1 (λ e. e) (λ n. absurd (d ((label-object width height connectivity image c i l).1 n)))

-- The holes, where the roots of the background pixels on the border are flagged. The flagging may have changed
-- the forest, but not its roots
pub guided-holes : {width height connectivity : ℕ} {image queue queue' flags : List ℕ} →
    is_connectivity connectivity ≡ true →
    Regions width height connectivity image (width * height) queue → SameRoots (width * height) queue queue' →
    RootsFlagged image queue (λ j. (j < width * height) × (on_border width height j ≡ true))
    (replicate (width * height) 0)
    flags →
    Guided width height queue' (is_unlabelled 0 image flags) (holes width height connectivity image)
unfolding is_unlabelled
guided-holes {width} {height} {connectivity} {image} {queue} {queue'} {flags} c r same flagging =
    guided-sets {value = 0} (regions-same r same) (
    record {
      numbered = numbered-holes width height connectivity image;
      value_of = λ i l d. ((hole-label-iff width height connectivity image i l).0 d).0;
      same = λ i j l d. rw values (same-hole-iff width height connectivity image i j l d);
      roots = λ k l own.
          let hole = hole-label-iff width height connectivity image k l in
          let zero = eqb (get_or image k 0) 0 in
          let free = eqb (get_or flags k 0) 0 in
          let top = sym (same.roots k l) ∙ root-own queue' k own in (
            λ on.
                hole.1 (
                  eqb-true (get_or image k 0) 0 (and_left zero free on),
                  λ j o path.
                      flagged j (connected-lt width height by path).0 o (connected-value width height by path).0 k
                      (regions-complete r 0 j k (rw values path) ∙ top)
                      (eqb-true (get_or flags k 0) 0 (and_right zero free on)),
                ),
            λ d.
                let (v, inner) = hole.0 d in
                and_both zero free (eq-eqb (get_or image k 0) 0 v)
                (eq-eqb (get_or flags k 0) 0
                (by-eq (get_or flags k 0) 0 (λ e. e)
                (λ n.
                ⊎_elim (λ set. absurd (set (get_or-replicate (width * height) k 0 0 l)))
                (λ from.
                let (j, at, w, e) = from in
                absurd (inner j at.1 (rw (w, e, values) at (r.linked j at.0))))
                (flagging.only k n)))),
          );
    })
  where
    by : ℕ
    by = hole_connectivity connectivity

    values : connectivity_of connectivity 0 ≡ by
    values = (connectivity_of-values connectivity c).1

    -- the root of a background pixel on the border is flagged
    flagged : (j : ℕ) → j < width * height → on_border width height j ≡ true → get_or image j 0 ≡ 0 →
        (k : ℕ) → root queue j ≡ k → get_or flags k 0 ≡ 0 → ⊥
    flagged j l o v k e m = flagging.each j (l, o) v (rw e m)
