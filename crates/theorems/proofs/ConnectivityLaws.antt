-- Laws of `specs/Connectivity.antt`: the computed sets are 01's linked sets. Assumes nothing.
--   connected-lt, connected-value         both ends of a path are inside, and of its value
--   connected-trans, connected-sym        paths join, and lead back
--   connected-front                       one pixel more at the front of a path
--   connected-before                      the pixels to the left and above in a square, by 4 over the corner
--   connected-along, connected-map        a path in one image is one in another that keeps the value
--   of_value-iff, only-iff, border_objects-iff     what these images hold
--   reachable-iff, reachable-only-iff     reachable finds what a path joins to a seed, and no more
--   component-iff, flood_fill-iff, clear_border-iff, hole_pixels-iff     what they find, by paths
use Prim.Native.Nat.{ℕ, ◌*◌, ◌≤◌, ◌<◌}
use mathlib.Core.Path.{◌≡◌, refl, sym, ◌∙◌}
use mathlib.Core.Bool.{Bool, true, cond, ◌&&◌}
use mathlib.Core.Logic.{◌⊎◌, inl, inr, ⊎_elim, ◌↔◌}
use mathlib.Core.List.{List}
use native.Mathlib.Omega.{arith}
use lib.Dec.{eqb}
use lib.ListN.{length, get_or, get_or-eq_default}
use borrow.Author.Tests.{eqb-true, eq-eqb, ne_eqb}
use Rattle.lists.proofs.BoolLaws.{by-test, by-eq, by-lt, not-both, and_left, and_right, and_both, bit_le}
use Rattle.lists.proofs.BoolLaws.{or-true-cases}
use Rattle.lists.proofs.ListLaws.{length-tabulate, get_or-tabulate, get_or-tabulate-le, get_or-tabulate-bit-iff}
use Rattle.lists.proofs.IterateLaws.{iterate-keeps, Below, sum-bits, settled}
use Rattle.neighbours.specs.Grid.{is_connectivity, Adjacent, on_border}
use Rattle.neighbours.specs.Square.{left_of, above_of, corner_of, HasSquare}
use Rattle.neighbours.proofs.PositionLaws.{width-pos}
use Rattle.neighbours.proofs.GridLaws.{adjacent-sym, adjacent-four, adjacent-left}
use Rattle.neighbours.proofs.SquareLaws.{column-above, adjacent-above, adjacent-falling, adjacent-rising}
use Rattle.model.specs.Steps.{propagate_once}
use Rattle.model.specs.Connectivity.{Connected, here, next, of_value, only, border_objects, reachable, component}
use Rattle.model.specs.Connectivity.{flood_fill, clear_border}
use Rattle.theorems.proofs.StepLaws.{length-propagate_once, get_or-propagate_once-out, propagate_once-bits}
use Rattle.theorems.proofs.StepLaws.{propagate_once-iff}

module _ (width height : ℕ) where
  -- ---- images

  -- of_value holds the pixels of the value
  pub of_value-iff : (value : ℕ) (image : List ℕ) (i : ℕ) →
      (get_or (of_value width height value image) i 0 ≡ 1) ↔ ((i < width * height) × (get_or image i 0 ≡ value))
  unfolding of_value
  of_value-iff value image i =
      let entry = get_or-tabulate-bit-iff (width * height) (λ k. eqb (get_or image k 0) value) i in (
        λ e. let (l, t) = entry.0 e in (l, eqb-true (get_or image i 0) value t),
        λ h. entry.1 (h.0, eq-eqb (get_or image i 0) value h.1),
      )

  -- only holds its pixel
  pub only-iff : (i j : ℕ) → (get_or (only width height i) j 0 ≡ 1) ↔ ((j < width * height) × (j ≡ i))
  unfolding only
  only-iff i j =
      let entry = get_or-tabulate-bit-iff (width * height) (λ k. eqb k i) j in (
        λ e. let (l, t) = entry.0 e in (l, eqb-true j i t),
        λ h. entry.1 (h.0, eq-eqb j i h.1),
      )

  -- it has as many pixels as the crop
  pub length-only : (i : ℕ) → length (only width height i) ≡ width * height
  unfolding only
  length-only i = length-tabulate (width * height) _

  -- each 0 or 1
  pub only-bits : (i j : ℕ) → get_or (only width height i) j 0 ≤ 1
  unfolding only
  only-bits i = get_or-tabulate-le (width * height) _ 1 (λ j inside. bit_le (eqb j i))

  -- border_objects holds the object pixels on the border
  pub border_objects-iff : (image : List ℕ) (i : ℕ) →
      (get_or (border_objects width height image) i 0 ≡ 1)
      ↔ ((i < width * height) × (get_or image i 0 ≡ 1) × (on_border width height i ≡ true))
  unfolding border_objects
  border_objects-iff image i =
      let test : ℕ → Bool = λ k. eqb (get_or image k 0) 1 && on_border width height k in
      let entry = get_or-tabulate-bit-iff (width * height) test i in (
        λ e.
            let (l, t) = entry.0 e in (
              l,
              eqb-true (get_or image i 0) 1 (and_left _ (on_border width height i) t),
              and_right (eqb (get_or image i 0) 1) _ t,
            ),
        λ h. entry.1 (h.0, and_both _ _ (eq-eqb (get_or image i 0) 1 h.1) h.2),
      )

  -- it has as many pixels as the crop
  pub length-border_objects : (image : List ℕ) → length (border_objects width height image) ≡ width * height
  unfolding border_objects
  length-border_objects image = length-tabulate (width * height) _

  -- each 0 or 1
  pub border_objects-bits : (image : List ℕ) (i : ℕ) → get_or (border_objects width height image) i 0 ≤ 1
  unfolding border_objects
  border_objects-bits image =
      get_or-tabulate-le (width * height) _ 1
      (λ i inside. bit_le (eqb (get_or image i 0) 1 && on_border width height i))

module _ (width height connectivity : ℕ) where
  -- ---- paths

  -- both ends of a path are inside the crop
  pub connected-lt : {value : ℕ} {image : List ℕ} {i j : ℕ} → Connected width height connectivity value image i j →
      (i < width * height) × (j < width * height)
  connected-lt (here l e) = (l, l)
  connected-lt (next p a l e) = ((connected-lt p).0, l)

  -- and have the value
  pub connected-value : {value : ℕ} {image : List ℕ} {i j : ℕ} → Connected width height connectivity value image i j →
      (get_or image i 0 ≡ value) × (get_or image j 0 ≡ value)
  connected-value (here l e) = (e, e)
  connected-value (next p a l e) = ((connected-value p).0, e)

  -- two paths join
  pub connected-trans : {value : ℕ} {image : List ℕ} {i j k : ℕ} → Connected width height connectivity value image i j →
      Connected width height connectivity value image j k → Connected width height connectivity value image i k
  connected-trans p (here l e) = p
  connected-trans p (next q a l e) = next (connected-trans p q) a l e

  -- one pixel more at the front of a path
  pub connected-front : {value : ℕ} {image : List ℕ} {i j k : ℕ} → Adjacent width height connectivity k i →
      Connected width height connectivity value image k j → i < width * height → get_or image i 0 ≡ value →
      Connected width height connectivity value image i j
  connected-front a p l e =
      connected-trans (next (here l e) a (connected-lt p).0 (connected-value p).0) p

  -- a path leads back
  pub connected-sym : {value : ℕ} {image : List ℕ} {i j : ℕ} → is_connectivity connectivity ≡ true →
      Connected width height connectivity value image i j → Connected width height connectivity value image j i
  connected-sym c (here l e) = here l e
  connected-sym c (next p a l e) =
      connected-front (adjacent-sym width height connectivity c l a) (connected-sym c p) l e

  -- Where the neighbours of a pixel that come before it all have the value, the pixel to its left and the one above
  -- are connected. The neighbours are taken by a connectivity of their own. It is 8 where the path goes by 4, since
  -- that leads over the corner
  pub connected-before : (by : ℕ) {value : ℕ} {image : List ℕ} {k : ℕ} →
      is_connectivity connectivity ≡ true → is_connectivity by ≡ true → (connectivity ≡ 4 → by ≡ 8) →
      HasSquare width height k →
      ((j : ℕ) → Adjacent width height by k j → j < k → get_or image j 0 ≡ value) →
      Connected width height connectivity value image (left_of k) (above_of width k)
  connected-before by {k = k} c is other s valued =
      let inside = s.inside in
      let below = s.below in
      let far = s.far in
      let pos = width-pos width height inside in
      let before : left_of k < width * height = omega arith in
      let over : above_of width k < width * height = omega arith in
      let left = valued _ (adjacent-left width height by is inside (λ e. omega arith)) (omega arith) in
      let up = adjacent-above width height inside (omega arith) in
      let above = valued _ (adjacent-four width height by is up) (omega arith) in
      ⊎_elim
      (λ four.
      let e = eqb-true connectivity 4 four in
      let falling : Adjacent width height by k (corner_of width k) = rw (other e) (adjacent-falling width height s) in
      let same : above_of width (left_of k) ≡ corner_of width k = omega arith in
      let rise = rw same at (adjacent-above width height before (omega arith)) in
      let down = adjacent-four width height connectivity c (adjacent-sym width height 4 refl before rise) in
      let column = column-above width k (omega arith) in
      let beside = adjacent-left width height connectivity c over (λ first. omega arith) in
      next (next (here before left) down (omega arith) (valued _ falling (omega arith))) beside over above)
      (λ eight.
      let e = eqb-true connectivity 8 eight in
      let rising : Adjacent width height connectivity (above_of width k) (left_of k) =
      rw e (adjacent-sym width height 8 refl before (adjacent-rising width height s)) in
      next (here before left) rising over above)
      (or-true-cases (eqb connectivity 4) (eqb connectivity 8) c)

  -- a path in one image is a path in another where all that is connected to its start has the value
  pub connected-along : {value value' : ℕ} {image image' : List ℕ} {i j : ℕ} →
      ((k : ℕ) → Connected width height connectivity value image i k → get_or image' k 0 ≡ value') →
      Connected width height connectivity value image i j → Connected width height connectivity value' image' i j
  connected-along f (here l e) = here l (f _ (here l e))
  connected-along f (next p a l e) = next (connected-along f p) a l (f _ (next p a l e))

  -- a path in one image is a path in another that keeps the value
  pub connected-map : {value value' : ℕ} {image image' : List ℕ} {i j : ℕ} →
      ((k : ℕ) → k < width * height → get_or image k 0 ≡ value → get_or image' k 0 ≡ value') →
      Connected width height connectivity value image i j → Connected width height connectivity value' image' i j
  connected-map f = connected-along (λ k p. f k (connected-lt p).1 (connected-value p).1)

  -- a path of 1 in the image of a value is a path of that value
  pub connected-of_value-iff : (value : ℕ) (image : List ℕ) (i j : ℕ) →
      Connected width height connectivity 1 (of_value width height value image) i j
      ↔ Connected width height connectivity value image i j
  connected-of_value-iff value image i j = (
    connected-map (λ k l e. ((of_value-iff width height value image k).0 e).1),
    connected-map (λ k l e. (of_value-iff width height value image k).1 (l, e)),
  )

  -- ---- what is reachable

  -- it has as many pixels as the crop
  pub length-reachable : (mask seeds : List ℕ) → length seeds ≡ width * height →
      length (reachable width height connectivity mask seeds) ≡ width * height
  unfolding reachable
  length-reachable mask seeds =
      iterate-keeps (λ image. length image ≡ width * height) (propagate_once width height connectivity mask)
      (λ image e. length-propagate_once width height connectivity mask image)
      (width * height)
      seeds

  -- each 0 or 1
  pub reachable-bits : (mask seeds : List ℕ) → ((i : ℕ) → get_or seeds i 0 ≤ 1) → (j : ℕ) →
      get_or (reachable width height connectivity mask seeds) j 0 ≤ 1
  unfolding reachable
  reachable-bits mask seeds =
      iterate-keeps (λ image. (i : ℕ) → get_or image i 0 ≤ 1) (propagate_once width height connectivity mask)
      (propagate_once-bits width height connectivity mask)
      (width * height)
      seeds

  module _ (mask seeds : List ℕ) where
    -- a path in the mask joins a seed to j
    abbrev Joined : ℕ → Type 0
    Joined j = (i : ℕ) × (get_or seeds i 0 ≡ 1) × Connected width height connectivity 1 mask i j

    -- an image between the seeds and what is joined to them
    record Between (image : List ℕ) : Type 0 where
      pixels : length image ≡ width * height
      bits : (i : ℕ) → get_or image i 0 ≤ 1
      seeded : (i : ℕ) → get_or seeds i 0 ≡ 1 → get_or image i 0 ≡ 1
      joined : (j : ℕ) → get_or image j 0 ≡ 1 → Joined j

    -- an iteration keeps the pixels of such an image
    propagate_once-keeps : {image : List ℕ} → Between image → (j : ℕ) → get_or image j 0 ≡ 1 →
        get_or (propagate_once width height connectivity mask image) j 0 ≡ 1
    propagate_once-keeps {image} b j e =
        let path = (b.joined j e).2 in
        (propagate_once-iff width height connectivity mask image b.bits j
        (connected-lt path).1).1 ((connected-value path).1, inl e)

    -- and adds pixels that are joined to a seed
    propagate_once-joined : {image : List ℕ} → Between image → (j : ℕ) →
        get_or (propagate_once width height connectivity mask image) j 0 ≡ 1 → Joined j
    propagate_once-joined {image} b j e =
        by-lt j (width * height)
        (λ l.
        let (m, from) = (propagate_once-iff width height connectivity mask image b.bits j l).0 e in
        ⊎_elim (b.joined j)
        (λ n.
        let (k, a, v) = n in
        let (i, s, path) = b.joined k v in
        (i, s, next path a l m))
        from)
        (λ l. absurd (omega (arith, e, get_or-propagate_once-out width height connectivity mask image j l)))

    -- so an iteration stays between
    between-propagate_once : (image : List ℕ) → Between image →
        Between (propagate_once width height connectivity mask image)
    between-propagate_once image b =
        record {
          pixels = length-propagate_once width height connectivity mask image;
          bits = propagate_once-bits width height connectivity mask image b.bits;
          seeded = λ i s. propagate_once-keeps b i (b.seeded i s);
          joined = propagate_once-joined b;
        }

    -- and only adds
    below-propagate_once : (image : List ℕ) → Between image →
        Below image (propagate_once width height connectivity mask image)
    unfolding Below
    below-propagate_once image b = (
      b.pixels ∙ sym (length-propagate_once width height connectivity mask image),
      λ i.
          by-eq (get_or image i 0) 1 (λ e. omega (arith, propagate_once-keeps b i e)) (λ d. omega (arith, b.bits i)),
    )

    module _ (pixels : length seeds ≡ width * height) (bits : (i : ℕ) → get_or seeds i 0 ≤ 1)
        (within : (i : ℕ) → get_or seeds i 0 ≡ 1 → get_or mask i 0 ≡ 1) where
      -- the seeds are between
      between-seeds : Between seeds
      between-seeds =
          record {
            pixels = pixels;
            bits = bits;
            seeded = λ i s. s;
            joined = λ j s. (j, s, here (inside j s) (within j s));
          }
        where
          inside : (j : ℕ) → get_or seeds j 0 ≡ 1 → j < width * height
          inside j s =
              by-lt j (width * height) (λ l. l)
              (λ l. absurd (omega (arith, s, get_or-eq_default seeds 0 {n = j} (omega arith))))

      -- and so is what is reachable
      between-reachable : Between (reachable width height connectivity mask seeds)
      unfolding reachable
      between-reachable =
          iterate-keeps Between (propagate_once width height connectivity mask) between-propagate_once
          (width * height) seeds between-seeds

      -- one iteration more changes nothing
      reachable-settled :
          propagate_once width height connectivity mask (reachable width height connectivity mask seeds)
          ≡ reachable width height connectivity mask seeds
      unfolding reachable
      reachable-settled =
          settled (propagate_once width height connectivity mask) Between between-propagate_once below-propagate_once
          (width * height)
          (λ image b. omega (arith, sum-bits image b.bits, b.pixels))
          seeds
          between-seeds

      -- the end of a path from a seed is reachable
      connected-reachable : {i j : ℕ} → get_or seeds i 0 ≡ 1 → Connected width height connectivity 1 mask i j →
          get_or (reachable width height connectivity mask seeds) j 0 ≡ 1
      connected-reachable {i} s (here l e) = between-reachable.seeded i s
      connected-reachable s (next {j = j} {k = k} path a l e) =
          rw reachable-settled at
          ((propagate_once-iff width height connectivity mask (reachable width height connectivity mask seeds)
          between-reachable.bits j l).1 (e, inr (k, a, connected-reachable s path)))

  -- reachable finds what a path in the mask joins to a seed, and no more
  pub reachable-iff : (mask seeds : List ℕ) → length seeds ≡ width * height → ((i : ℕ) → get_or seeds i 0 ≤ 1) →
      ((i : ℕ) → get_or seeds i 0 ≡ 1 → get_or mask i 0 ≡ 1) → (j : ℕ) →
      (get_or (reachable width height connectivity mask seeds) j 0 ≡ 1)
      ↔ ((i : ℕ) × (get_or seeds i 0 ≡ 1) × Connected width height connectivity 1 mask i j)
  reachable-iff mask seeds pixels bits within j = (
    (between-reachable mask seeds pixels bits within).joined j,
    λ h. connected-reachable mask seeds pixels bits within h.1 h.2,
  )

  -- from one seed
  pub reachable-only-iff : (mask : List ℕ) (i : ℕ) → i < width * height → get_or mask i 0 ≡ 1 → (j : ℕ) →
      (get_or (reachable width height connectivity mask (only width height i)) j 0 ≡ 1)
      ↔ Connected width height connectivity 1 mask i j
  reachable-only-iff mask i l e j =
      let seed = only-iff width height i in
      let found =
      reachable-iff mask (only width height i) (length-only width height i)
      (only-bits width height i) (λ k s. rw ((seed k).0 s).1 e) j in (
        λ r. let (k, s, path) = found.0 r in rw ((seed k).0 s).1 at path,
        λ path. found.1 (i, (seed i).1 (l, refl), path),
      )

  -- ---- the component of a pixel, fill and drop

  -- the component of a pixel is what a path of its value joins to it (01, of an object pixel: its part)
  pub component-iff : (image : List ℕ) (i : ℕ) → i < width * height → (j : ℕ) →
      (get_or (component width height connectivity image i) j 0 ≡ 1)
      ↔ Connected width height connectivity (get_or image i 0) image i j
  unfolding component
  component-iff image i l j =
      let value = get_or image i 0 in
      let found =
      reachable-only-iff (of_value width height value image) i l
      ((of_value-iff width height value image i).1 (l, refl)) j in
      let paths = connected-of_value-iff value image i j in
      (λ e. paths.0 (found.0 e), λ path. found.1 (paths.1 path))

  -- a pixel after the fill
  pub get_or-flood_fill : (image : List ℕ) (i j : ℕ) → j < width * height →
      get_or (flood_fill width height connectivity image i) j 0
      ≡ cond (eqb (get_or image i 0) 0 && eqb (get_or (component width height connectivity image i) j 0) 1) 1
      (get_or image j 0)
  unfolding flood_fill
  get_or-flood_fill image i j l = get_or-tabulate (width * height) _ j l

  -- 01, fill: the background linked to a background pixel becomes 1, and nothing else changes
  pub flood_fill-iff : (image : List ℕ) (i j : ℕ) → i < width * height → j < width * height →
      (get_or (flood_fill width height connectivity image i) j 0 ≡ 1)
      ↔ ((get_or image j 0 ≡ 1) ⊎ ((get_or image i 0 ≡ 0) × Connected width height connectivity 0 image i j))
  flood_fill-iff image i j l m =
      let found = component-iff image i l j in
      let background = eqb (get_or image i 0) 0 in
      let reached = eqb (get_or (component width height connectivity image i) j 0) 1 in
      by-test (background && reached)
      (λ t.
      let filled = rw t at (get_or-flood_fill image i j m) in
      let z = eqb-true (get_or image i 0) 0 (and_left background reached t) in
      let path = rw z at (found.0 (eqb-true _ 1 (and_right background reached t))) in
      (λ e. inr (z, path), λ h. filled))
      (λ t.
      let kept = rw t at (get_or-flood_fill image i j m) in (
        λ e. inl (sym kept ∙ e),
        λ h.
            kept
            ∙ ⊎_elim (λ e. e)
            (λ n. not-both (and_both background reached (eq-eqb _ 0 n.0)
            (eq-eqb _ 1 (found.1 (rw n.0 n.1)))) t)
            h,
      ))

  -- what is reachable from the object pixels on the border is what a path of object pixels joins to it
  reachable-border_objects-iff : (image : List ℕ) (j : ℕ) →
      (get_or (reachable width height connectivity image (border_objects width height image)) j 0 ≡ 1)
      ↔ ((i : ℕ) × (on_border width height i ≡ true) × Connected width height connectivity 1 image i j)
  reachable-border_objects-iff image j =
      let object = border_objects-iff width height image in
      let found =
      reachable-iff image (border_objects width height image) (length-border_objects width height image)
      (border_objects-bits width height image) (λ i s. ((object i).0 s).1) j in (
        λ r. let (i, s, path) = found.0 r in (i, ((object i).0 s).2, path),
        λ h.
            let (i, o, path) = h in
            found.1 (i, (object i).1 ((connected-lt path).0, (connected-value path).0, o), path),
      )

  -- a pixel after the drop
  pub get_or-clear_border : (image : List ℕ) (j : ℕ) → j < width * height →
      get_or (clear_border width height connectivity image) j 0
      ≡ cond (eqb (get_or (reachable width height connectivity image (border_objects width height image)) j 0) 1) 0
      (get_or image j 0)
  unfolding clear_border
  get_or-clear_border image j l = get_or-tabulate (width * height) _ j l

  -- 01, drop: every part with a pixel in the first or last row or column becomes 0
  pub clear_border-iff : (image : List ℕ) (j : ℕ) → j < width * height →
      (get_or (clear_border width height connectivity image) j 0 ≡ 1)
      ↔ ((get_or image j 0 ≡ 1) × ((i : ℕ) → on_border width height i
      ≡ true → Connected width height connectivity 1 image i j → ⊥))
  clear_border-iff image j l =
      let found = reachable-border_objects-iff image j in
      let cleared = get_or (reachable width height connectivity image (border_objects width height image)) j 0 in
      by-eq cleared 1
      (λ e.
      let gone = rw (eq-eqb cleared 1 e) at (get_or-clear_border image j l) in
      let (i, o, path) = found.0 e in
      (λ v. absurd (omega arith), λ h. absurd (h.1 i o path)))
      (λ d.
      let kept = rw (ne_eqb cleared 1 d) at (get_or-clear_border image j l) in
      (λ v. (sym kept ∙ v, λ i o path. d (found.1 (i, o, path))), λ h. kept ∙ h.0))

  -- 01, hole: the background that no path of background joins to the first or last row or column
  pub hole_pixels-iff : (image : List ℕ) (j : ℕ) → j < width * height →
      (get_or (clear_border width height connectivity (of_value width height 0 image)) j 0 ≡ 1)
      ↔ ((get_or image j 0 ≡ 0) × ((i : ℕ) → on_border width height i
      ≡ true → Connected width height connectivity 0 image i j → ⊥))
  hole_pixels-iff image j l =
      let cleared = clear_border-iff (of_value width height 0 image) j l in
      let pixel = of_value-iff width height 0 image j in (
        λ e.
            let (v, inner) = cleared.0 e in
            ((pixel.0 v).1, λ i o path. inner i o ((connected-of_value-iff 0 image i j).1 path)),
        λ h. cleared.1 (pixel.1 (l, h.0), λ i o path. h.1 i o ((connected-of_value-iff 0 image i j).0 path)),
      )
