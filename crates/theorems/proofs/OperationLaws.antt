-- Laws of whole operations and of their numbers (`specs/Operations.antt`). Assumes nothing.
--   bad_pixel-none-iff         no pixel is bad exactly if every one is 0 or 1
--   tabulate-binary            values that are 0 or 1 make an image of 0 and 1
--   apply-binary               an operation leaves an image of the same size, of 0 and 1
--   LeastCount                 so many iterations lead from one image to another, and no fewer do
--   least_iterations-count     what `least_iterations` gives is such a count
--   least_iterations-reaches   so many iterations give the image after all of them
--   least_iterations-le        they are at most all of them
--   least_iterations-least     no fewer give it
--   least_iterations-is        a number with these three properties is it
--   least_iterations-suc       in a run that only adds, one iteration more counts if it changes anything
--   least_iterations-alike     two runs whose images are equal at the same times have the same number
--   least_iterations-same      two runs of the same images have the same number
--   least_iterations-first     where a run that comes back has not moved, its first iteration counts if it changes
--                             anything
--   least_iterations-erode_once-suc   so for an erosion, whose sides then no longer matter
--   iterate-erode_once-le             iterated erosion only takes away
--   used_once-same, -other            0 if nothing changed, else 1
--   IsUsed, used-least                what a step's used number is to be, and that `used` is it
--   effect-unmasked                   an operation that reads no mask does the same with any
--   changed-zero-iff                  no pixel changed exactly if the images are equal
--   changed-le                        at most every pixel changed
--   changed-once                      as many changed as a list of the changed positions has, each once
use Prim.Native.Nat.{ℕ, zero, suc, ◌+◌, ◌-◌, ◌*◌, ◌≤◌, ◌<◌, zero-le}
use mathlib.Core.Path.{◌≡◌, refl, sym, ap, ◌∙◌}
use mathlib.Core.Bool.{Bool, true, false, not, ◌||◌, true≢false}
use mathlib.Core.Logic.{◌↔◌}
use mathlib.Core.List.{List, [], ◌∷◌}
use native.Mathlib.Nat.{le_refl, not-suc-le-zero, le_of_suc-le-suc}
use native.Mathlib.Omega.{arith}
use lib.Dec.{eqb}
use lib.ListN.{length, get_or}
use lib.Seq.{ext_get_or}
use borrow.Author.Tests.{ltb-false, le-ltb, eqb-true, eq-eqb, not-false}
use Rattle.lists.specs.Lists.{tabulate, select, any, same, occurrences, iterate, bit}
use Rattle.lists.proofs.BoolLaws.{by-test, by-lt, or-false-left, or-false-right, cond-le}
use Rattle.lists.proofs.ListLaws.{get_or-tabulate-le, length-tabulate, any_none, none_any, lt-member-range}
use Rattle.lists.proofs.ListLaws.{length-select-zero-iff}
use Rattle.lists.proofs.ListLaws.{length-select-count_from-le, same_true, same_refl, same_false, same_not, length-once}
use Rattle.lists.proofs.IterateLaws.{iterate-keeps, iterate-suc, iterate-add, iterate_fixed, Below, iterate-rest}
use Rattle.neighbours.specs.Grid.{positions, is_connectivity, all_sides}
use Rattle.neighbours.specs.Crop.{Binary}
use Rattle.model.specs.Steps.{erode_once, dilate_once, propagate_once}
use Rattle.model.specs.Connectivity.{flood_fill, clear_border}
use Rattle.model.specs.Refusals.{bad_pixel, reads_mask}
use Rattle.model.specs.Operations.{least_from, least_iterations, used_once, Effect, iterated, whole, applied, used_by}
use Rattle.model.specs.Operations.{border_sides, effect, apply, changed, used}
use Rattle.theorems.proofs.StepLaws.{length-erode_once, erode_once-le, iterate-erode_once-suc}
use Rattle.model.specs.declared.Step.{Step}
use Rattle.model.specs.declared.Step.TheVariants.{Erode, Dilate, Propagate, FloodFill, ClearBorder, ErodeBySides}

-- ---- pixels of 0 and 1

-- no pixel is bad exactly if every one is 0 or 1
pub bad_pixel-none-iff : (image : List ℕ) → (any bad_pixel image ≡ false) ↔ ((i : ℕ) → get_or image i 0 ≤ 1)
unfolding any
bad_pixel-none-iff [] = (λ e i. zero-le, λ h. refl)
bad_pixel-none-iff (x ∷ xs) = (there (bad_pixel-none-iff xs).0, back (bad_pixel-none-iff xs).1)
  where
    there : (any bad_pixel xs ≡ false → (i : ℕ) → get_or xs i 0 ≤ 1) →
        bad_pixel x || any bad_pixel xs ≡ false → (i : ℕ) → get_or (x ∷ xs) i 0 ≤ 1
    there rest e zero = ltb-false 1 x (or-false-left (bad_pixel x) (any bad_pixel xs) e)
    there rest e (suc i) = rest (or-false-right (bad_pixel x) (any bad_pixel xs) e) i

    back : (((i : ℕ) → get_or xs i 0 ≤ 1) → any bad_pixel xs ≡ false) →
        ((i : ℕ) → get_or (x ∷ xs) i 0 ≤ 1) → bad_pixel x || any bad_pixel xs ≡ false
    back rest h = rw (le-ltb 1 x (h 0)) (rest (λ i. h (suc i)))

module _ (width height : ℕ) where
  -- values that are 0 or 1 make an image of 0 and 1
  pub tabulate-binary : (f : ℕ → ℕ) → ((i : ℕ) → i < width * height → f i ≤ 1) →
      Binary width height (tabulate (width * height) f)
  tabulate-binary f h =
      record { pixels = length-tabulate (width * height) f; bits = get_or-tabulate-le (width * height) f 1 h }

  -- one iteration leaves an image of 0 and 1, whatever the sides and the mask
  pub erode_once-binary : (connectivity sides : ℕ) (image : List ℕ) → Binary width height image →
      Binary width height (erode_once width height connectivity sides image)
  unfolding erode_once
  erode_once-binary connectivity sides image b = tabulate-binary _ (λ i inside. search (cond-le, zero-le, b.bits))

  pub dilate_once-binary : (connectivity : ℕ) (image : List ℕ) → Binary width height image →
      Binary width height (dilate_once width height connectivity image)
  unfolding dilate_once
  dilate_once-binary connectivity image b = tabulate-binary _ (λ i inside. search (cond-le, le_refl, b.bits))

  pub propagate_once-binary : (connectivity : ℕ) (mask image : List ℕ) → Binary width height image →
      Binary width height (propagate_once width height connectivity mask image)
  unfolding propagate_once
  propagate_once-binary connectivity mask image b =
      tabulate-binary _ (λ i inside. search (cond-le, zero-le, (dilate_once-binary connectivity image b).bits))

-- an operation leaves an image of the same size, of 0 and 1, whatever the mask
pub apply-binary : (width height : ℕ) (step : Step) (mask image : List ℕ) → Binary width height image →
    Binary width height (apply width height step mask image)
unfolding apply effect applied flood_fill clear_border
apply-binary width height (Erode connectivity border_value n) mask image b =
    iterate-keeps (Binary width height) _
    (erode_once-binary width height connectivity (border_sides border_value)) n image b
apply-binary width height (Dilate connectivity n) mask image b =
    iterate-keeps (Binary width height) _ (dilate_once-binary width height connectivity) n image b
apply-binary width height (Propagate connectivity n) mask image b =
    iterate-keeps (Binary width height) _ (propagate_once-binary width height connectivity mask) n image b
apply-binary width height (FloodFill connectivity x y) mask image b =
    tabulate-binary width height _ (λ i inside. search (cond-le, le_refl, b.bits))
apply-binary width height (ClearBorder connectivity) mask image b =
    tabulate-binary width height _ (λ i inside. search (cond-le, zero-le, b.bits))
apply-binary width height (ErodeBySides connectivity sides n) mask image b =
    iterate-keeps (Binary width height) _ (erode_once-binary width height connectivity sides) n image b

-- ---- the least number of iterations

-- u iterations of f lead from one image to the other, and no fewer do
pub record LeastCount (f : List ℕ → List ℕ) (before after : List ℕ) (u : ℕ) : Type 0 where
  pub reaches : iterate f u before ≡ after
  pub least : (k : ℕ) → k < u → iterate f k before ≡ after → ⊥

-- there is only one such number
pub least_count-unique : (f : List ℕ → List ℕ) (before after : List ℕ) (u v : ℕ) →
    LeastCount f before after u → LeastCount f before after v → u ≡ v
least_count-unique f before after u v p q =
    by-lt u v (λ l. absurd (q.least u l p.reaches))
    (λ l. by-lt v u (λ m. absurd (p.least v m q.reaches)) (λ m. omega arith))

-- no iteration is needed where nothing differs
least_count-zero : (f : List ℕ → List ℕ) (before after : List ℕ) → before ≡ after → LeastCount f before after 0
unfolding iterate
least_count-zero f before after e = record { reaches = e; least = λ k l. absurd (not-suc-le-zero l) }

-- one more is needed than after one iteration where something differs
least_count-suc : (f : List ℕ → List ℕ) (before after : List ℕ) (u : ℕ) → (before ≡ after → ⊥) →
    LeastCount f (f before) after u → LeastCount f before after (suc u)
unfolding iterate
least_count-suc f before after u differ p = record { reaches = p.reaches; least = fewer }
  where
    fewer : (k : ℕ) → k < suc u → iterate f k before ≡ after → ⊥
    fewer zero l = differ
    fewer (suc k) l = p.least k (le_of_suc-le-suc l)

-- what `least_from` adds to the count so far, where n iterations give the image after
record Added (f : List ℕ → List ℕ) (n k : ℕ) (before after : List ℕ) : Type 0 where
  added : ℕ
  sum : least_from f n k before after ≡ k + added
  within : added ≤ n
  count : LeastCount f before after added

least_from-added : (f : List ℕ → List ℕ) (n k : ℕ) (before after : List ℕ) → iterate f n before ≡ after →
    Added f n k before after
unfolding least_from iterate
least_from-added f zero k before after e =
    record { added = 0; sum = omega arith; within = zero-le; count = least_count-zero f before after e }
least_from-added f (suc n) k before after e =
    let rest = least_from-added f n (suc k) (f before) after e in
    by-test (same before after)
    (λ t.
    record {
      added = 0;
      sum = rw (t, least_from) (omega arith);
      within = zero-le;
      count = least_count-zero f before after (same_true before after t);
    })
    (λ t.
    record {
      added = suc rest.added;
      sum = rw (t, least_from) (omega arith);
      within = omega arith;
      count = least_count-suc f before after rest.added (same_false before after t) rest.count;
    })

module _ (f : List ℕ → List ℕ) (n : ℕ) (image : List ℕ) where
  -- so many iterations give the image after n, and no fewer do
  pub least_iterations-count : LeastCount f image (iterate f n image) (least_iterations f n image)
  unfolding least_iterations
  least_iterations-count =
      let from = least_from-added f n 0 image (iterate f n image) refl in
      let e : least_from f n 0 image (iterate f n image) ≡ from.added = omega arith in
      rw e from.count

  -- so many give it
  pub least_iterations-reaches : iterate f (least_iterations f n image) image ≡ iterate f n image
  least_iterations-reaches = least_iterations-count.reaches

  -- no fewer do
  pub least_iterations-least : (k : ℕ) → k < least_iterations f n image → iterate f k image ≡ iterate f n image → ⊥
  least_iterations-least = least_iterations-count.least

  -- they are at most n
  pub least_iterations-le : least_iterations f n image ≤ n
  unfolding least_iterations
  least_iterations-le = let from = least_from-added f n 0 image (iterate f n image) refl in omega arith

  -- a number of iterations, at most n, that gives the image after n where no fewer do is the least
  pub least_iterations-is : (u : ℕ) → u ≤ n → iterate f u image ≡ iterate f n image →
      ((k : ℕ) → k < u → iterate f k image ≡ iterate f n image → ⊥) → least_iterations f n image ≡ u
  least_iterations-is u within reaches least =
      least_count-unique f image (iterate f n image) (least_iterations f n image) u least_iterations-count
      (record { reaches = reaches; least = least })

-- in a run that only adds, one iteration more counts if it changes anything
pub least_iterations-suc : (f : List ℕ → List ℕ) (image : List ℕ) →
    ((k : ℕ) → Below (iterate f k image) (iterate f (suc k) image)) →
    (n : ℕ) →
    least_iterations f (suc n) image
    ≡ least_iterations f n image + bit (not (same (iterate f n image) (iterate f (suc n) image)))
least_iterations-suc f image grows n =
    by-test (same (iterate f n image) (iterate f (suc n) image))
    (λ t.
    let e = same_true (iterate f n image) (iterate f (suc n) image) t in
    let count = least_count-unique f image (iterate f (suc n) image)
    (least_iterations f (suc n) image) (least_iterations f n image)
    (least_iterations-count f (suc n) image) (rw e at (least_iterations-count f n image)) in
    rw t (omega (arith, count)))
    (λ t.
    let differ = same_false (iterate f n image) (iterate f (suc n) image) t in
    let before =
    least_iterations-is f n image n (le_refl n) refl
    (λ k l e. differ (moved k (omega arith) (iterate-rest f image grows k n l e))) in
    let after =
    least_iterations-is f (suc n) image (suc n) (le_refl (suc n)) refl
    (λ k l e. differ (moved k (omega arith) (iterate-rest f image grows k (suc n) l e))) in
    rw t (omega (arith, before, after)))
  where
    -- after a rest nothing moves
    moved : (k : ℕ) → k ≤ n → iterate f (suc k) image ≡ iterate f k image → iterate f n image ≡ iterate f (suc n) image
    moved k l e =
        let fixed = sym (iterate-suc f k image) ∙ e in
        let stays : (m : ℕ) → k ≤ m → iterate f m image ≡ iterate f k image =
        λ m h. let d : k + (m - k) ≡ m = omega arith in
        rw d at (iterate-add f k (m - k) image ∙ iterate_fixed f (m - k) _ fixed) in
        stays n l ∙ sym (stays (suc n) (omega arith))

-- two runs whose images are equal at the same times have the same number
pub least_iterations-alike : (f g : List ℕ → List ℕ) (before before' : List ℕ) →
    ((j k : ℕ) → (iterate f j before ≡ iterate f k before) ↔ (iterate g j before' ≡ iterate g k before')) → (n : ℕ) →
    least_iterations f n before ≡ least_iterations g n before'
least_iterations-alike f g before before' alike n =
    let u = least_iterations g n before' in
    least_iterations-is f n before u (least_iterations-le g n before')
    ((alike u n).1 (least_iterations-reaches g n before'))
    (λ k l e. least_iterations-least g n before' k l ((alike k n).0 e))

-- two runs of the same images have the same number
pub least_iterations-same : (f g : List ℕ → List ℕ) (before before' : List ℕ) →
    ((k : ℕ) → iterate f k before ≡ iterate g k before') → (n : ℕ) →
    least_iterations f n before ≡ least_iterations g n before'
least_iterations-same f g before before' e =
    least_iterations-alike f g before before' (λ j k. ((λ q. sym (e j) ∙ q ∙ e k), λ q. e j ∙ q ∙ sym (e k)))

-- where a run that comes back has not moved, its first iteration counts if it changes anything
pub least_iterations-first : (f : List ℕ → List ℕ) (n : ℕ) (image : List ℕ) →
    (iterate f (suc n) image ≡ image → f image ≡ image) →
    least_iterations f (suc n) image ≡ bit (not (same image (f image))) + least_iterations f n (f image)
unfolding iterate
least_iterations-first f n image back =
    by-test (same image (f image))
    (λ t.
    let e = same_true image (f image) t in
    let rest = iterate_fixed f n (f image) (ap f (sym e)) in
    let all = least_iterations-is f (suc n) image 0 zero-le (e ∙ sym rest) (λ k l. absurd (omega arith)) in
    let after = least_iterations-is f n (f image) 0 zero-le (sym rest) (λ k l. absurd (omega arith)) in
    rw t (omega (arith, all, after)))
    (λ t.
    let differ : image ≡ iterate f n (f image) → ⊥ = λ e. same_false image (f image) t (sym (back (sym e))) in
    let count = least_count-unique f image (iterate f (suc n) image)
    (least_iterations f (suc n) image) (suc (least_iterations f n (f image)))
    (least_iterations-count f (suc n) image)
    (least_count-suc f image (iterate f n (f image))
    (least_iterations f n (f image)) differ (least_iterations-count f n (f image))) in
    rw t (omega (arith, count)))

-- iterated erosion only takes away
pub iterate-erode_once-le : (width height connectivity sides n : ℕ) (image : List ℕ) (i : ℕ) →
    get_or (iterate (erode_once width height connectivity sides) n image) i 0 ≤ get_or image i 0
unfolding iterate
iterate-erode_once-le width height connectivity sides zero image i = le_refl (get_or image i 0)
iterate-erode_once-le width height connectivity sides (suc n) image i =
    omega (
      arith,
      iterate-erode_once-le width height connectivity sides n
          (erode_once width height connectivity sides image) i,
      erode_once-le width height connectivity sides image i,
    )

-- the first iteration of an erosion counts if it changes anything, and after it the sides no longer matter
pub least_iterations-erode_once-suc : (width height connectivity sides n : ℕ) (image : List ℕ) →
    is_connectivity connectivity ≡ true → Binary width height image →
    least_iterations (erode_once width height connectivity sides) (suc n) image
    ≡ bit (not (same image (erode_once width height connectivity sides image)))
    + least_iterations (erode_once width height connectivity all_sides) n
    (erode_once width height connectivity sides image)
unfolding iterate
least_iterations-erode_once-suc width height connectivity sides n image c b =
    let f = erode_once width height connectivity sides in
    let first = least_iterations-first f n image
    (λ e.
    ext_get_or 0 (f image) image (length-erode_once width height connectivity sides image ∙ sym b.pixels)
    (λ i l.
    omega (
      arith,
      erode_once-le width height connectivity sides image i,
      iterate-erode_once-le width height connectivity sides n (f image) i,
      ap (λ (xs : List ℕ). get_or xs i 0) e,
    ))) in
    first
    ∙ ap (λ (k : ℕ). bit (not (same image (f image))) + k)
    (least_iterations-same f (erode_once width height connectivity all_sides) (f image) (f image)
    (λ k. iterate-erode_once-suc width height connectivity c sides k image b.bits) n)

-- ---- used

-- u is 0 if the images are equal, and 1 if not
pub record ChangedBit (before after : List ℕ) (u : ℕ) : Type 0 where
  pub if_same : before ≡ after → u ≡ 0
  pub if_other : (before ≡ after → ⊥) → u ≡ 1

-- 0 if nothing changed
pub used_once-same : (before after : List ℕ) → before ≡ after → used_once before after ≡ 0
unfolding used_once
used_once-same before after e = rw (e, same_refl after)

-- 1 if anything changed
pub used_once-other : (before after : List ℕ) → (before ≡ after → ⊥) → used_once before after ≡ 1
unfolding used_once
used_once-other before after differ = rw (same_not before after differ)

-- both together
pub used_once-bit : (before after : List ℕ) → ChangedBit before after (used_once before after)
used_once-bit before after = record { if_same = used_once-same before after; if_other = used_once-other before after }

-- What 01 says of the number that a step reports as used: of the three that iterate, the least number of
-- iterations that gives the image after the step; of flood fill and clear border, 1 if anything changed, else 0
abbrev pub IsUsedBy : Effect → List ℕ → ℕ → Type 0
IsUsedBy (iterated f n) image u = LeastCount f image (iterate f n image) u
IsUsedBy (whole f) image u = ChangedBit image (f image) u

abbrev pub IsUsed : ℕ → ℕ → Step → List ℕ → List ℕ → ℕ → Type 0
IsUsed width height step mask image u = IsUsedBy (effect width height step mask) image u

-- `used` is that number
used_by-least : (e : Effect) (image : List ℕ) → IsUsedBy e image (used_by e image)
unfolding used_by
used_by-least (iterated f n) image = least_iterations-count f n image
used_by-least (whole f) image = used_once-bit image (f image)

pub used-least : (width height : ℕ) (step : Step) (mask image : List ℕ) →
    IsUsed width height step mask image (used width height step mask image)
unfolding used
used-least width height step mask image = used_by-least (effect width height step mask) image

-- ---- masks

-- an operation that reads no mask does the same with any
pub effect-unmasked : (width height : ℕ) (step : Step) (mask mask' : List ℕ) → reads_mask step ≡ false →
    effect width height step mask ≡ effect width height step mask'
unfolding effect reads_mask
effect-unmasked width height (Erode connectivity border_value n) mask mask' e = refl
effect-unmasked width height (Dilate connectivity n) mask mask' e = refl
effect-unmasked width height (Propagate connectivity n) mask mask' e = absurd (true≢false e)
effect-unmasked width height (FloodFill connectivity x y) mask mask' e = refl
effect-unmasked width height (ClearBorder connectivity) mask mask' e = refl
effect-unmasked width height (ErodeBySides connectivity sides n) mask mask' e = refl

-- ---- changed

module _ (width height : ℕ) (before after : List ℕ) where
  -- at most every pixel changed
  pub changed-le : changed width height before after ≤ width * height
  unfolding changed
  changed-le = length-select-count_from-le (λ i. not (eqb (get_or before i 0) (get_or after i 0))) 0 (width * height)

  -- they are as many as there are entries in a list that has each of them once, and no other
  pub changed-once : (listed : List ℕ) →
      ((k : ℕ) → k < width * height → occurrences k listed ≡ bit (not (eqb (get_or before k 0) (get_or after k 0)))) →
      ((k : ℕ) → width * height ≤ k → occurrences k listed ≡ 0) → length listed ≡ changed width height before after
  unfolding changed
  changed-once listed = length-once (λ i. not (eqb (get_or before i 0) (get_or after i 0))) (width * height) listed

  -- no pixel changed exactly if the images are equal
  pub changed-zero-iff : length before ≡ width * height → length after ≡ width * height →
      (changed width height before after ≡ 0) ↔ (before ≡ after)
  unfolding changed
  changed-zero-iff p q = (there, back)
    where
      differs : ℕ → Bool
      differs i = not (eqb (get_or before i 0) (get_or after i 0))

      there : length (select differs (positions width height)) ≡ 0 → before ≡ after
      there z =
          ext_get_or 0 before after (p ∙ sym q)
          (λ i inside.
          let m = lt-member-range i (width * height) (omega arith) in
          let e = any_none differs (positions width height)
          ((length-select-zero-iff differs (positions width height)).0 z) i m in
          eqb-true (get_or before i 0) (get_or after i 0) (not-false (eqb (get_or before i 0) (get_or after i 0)) e))

      back : before ≡ after → length (select differs (positions width height)) ≡ 0
      back e =
          (length-select-zero-iff differs (positions width height)).1
          (none_any differs (positions width height)
          (λ i m. ap not (eq-eqb (get_or before i 0) (get_or after i 0) (ap (λ (image : List ℕ). get_or image i 0) e))))
