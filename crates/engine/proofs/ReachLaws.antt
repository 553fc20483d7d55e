-- Layer after layer is iterated propagation: the engine's `Layered` against `propagate_once`.
--   seeds, within, reach     the active pixels, those with the open ones, and n iterations from the first inside these
--   reached                  the test whether a pixel is reached in n iterations
--   reached-zero, -suc       what is reached with no iteration, and with one more
--   reach-active, -within    what is active is reached, and what is reached was active or open
--   reach-none               where nothing is active, nothing is reached
--   reach-below              an iteration only adds
--   Reached                  what n layers do, said by what n iterations reach
--   layered-reach            n layers from a frontier do that
--   reached-once, -changed   all layers together list the pixels that changed, each once
-- Assumes nothing.
use Prim.Native.Nat.{ℕ, zero, suc, ◌+◌, ◌≤◌, ◌<◌}
use mathlib.Core.Path.{◌≡◌, refl, sym, ap, ap₂, subst, ◌∙◌}
use mathlib.Core.Bool.{Bool, true, false, not, cond, ◌&&◌, ◌||◌}
use mathlib.Core.Logic.{◌⊎◌, inl, inr, ⊎_elim, ◌↔◌}
use mathlib.Core.List.{List, [], ◌∷◌, ◌++◌}
use native.Mathlib.Nat.{suc_inj}
use native.Mathlib.Omega.{arith}
use lib.Dec.{eqb, ltb}
use lib.ListN.{length, get_or, get_or-eq_default}
use lib.Seq.{ext_get_or}
use borrow.Author.Tests.{eqb-true, eq-eqb, ne_eqb, lt-ltb, le-ltb, not-true}
use Rattle.lists.specs.Lists.{tabulate, any, same, occurrences, iterate, bit}
use Rattle.lists.proofs.BoolLaws.{by-test, by-eq, by-lt, bool_same, not-both, bit_le, bit-one, and_left, and_right}
use Rattle.lists.proofs.BoolLaws.{and_both, or_left}
use Rattle.lists.proofs.BoolLaws.{or_right, or-true-cases}
use Rattle.lists.proofs.ListLaws.{length-tabulate, get_or-tabulate-le, get_or-tabulate-bit-iff, length-select-le}
use Rattle.lists.proofs.ListLaws.{occurrences-nil}
use Rattle.lists.proofs.ListLaws.{occurrences-append, member-occurs, same_refl, same_not}
use Rattle.lists.proofs.IterateLaws.{iterate-suc, iterate-keeps, Below}
use Rattle.neighbours.specs.Grid.{Adjacent}
use Rattle.neighbours.proofs.GridLaws.{any-neighbours-iff}
use Rattle.model.specs.Steps.{propagate_once}
use Rattle.model.specs.Operations.{least_iterations, changed}
use Rattle.theorems.proofs.StepLaws.{length-propagate_once, propagate_once-bits, propagate_once-iff}
use Rattle.theorems.proofs.OperationLaws.{least_iterations-le, least_iterations-suc, changed-once}
use Rattle.engine.specs.declared.Rule.{Rule}
use Rattle.engine.specs.Spread.{Fits, is_open, Changed, Layered, start, layer}
use Rattle.engine.proofs.FrontierLaws.{area, next_to, around, fits-same, Frontier, is_open-same, is_open-old}
use Rattle.engine.proofs.FrontierLaws.{is_open-other, turns}
use Rattle.engine.proofs.FrontierLaws.{changed-inside, frontier-pixel, frontier-once, frontier-next}
use Rattle.engine.proofs.FrontierLaws.{frontier-same}

-- ---- what is reached

-- the active pixels, as an image
unfoldable pub seeds : Rule → (ℕ → Bool) → List ℕ
seeds rule active = tabulate (area rule) (λ k. bit (active k))

-- the active and the open pixels, as an image
unfoldable pub within : Rule → List ℕ → (ℕ → Bool) → List ℕ → List ℕ
within rule mask active image = tabulate (area rule) (λ k. bit (active k || is_open rule mask image k))

-- one iteration of propagation inside the latter
abbrev pub onward : Rule → List ℕ → (ℕ → Bool) → List ℕ → List ℕ → List ℕ
onward rule mask active image =
    propagate_once rule.width rule.height rule.connectivity (within rule mask active image)

-- what n iterations reach from the active pixels
unfoldable pub reach : Rule → List ℕ → (ℕ → Bool) → List ℕ → ℕ → List ℕ
reach rule mask active image n = iterate (onward rule mask active image) n (seeds rule active)

-- position k is reached in n iterations
abbrev pub reached : Rule → List ℕ → (ℕ → Bool) → List ℕ → ℕ → ℕ → Bool
reached rule mask active image n k = eqb (get_or (reach rule mask active image n) k 0) 1

module _ (rule : Rule) (mask : List ℕ) (active : ℕ → Bool) (image : List ℕ) where
  -- one iteration more
  pub reach-suc : (n : ℕ) →
      reach rule mask active image (suc n) ≡ onward rule mask active image (reach rule mask active image n)
  unfolding reach
  reach-suc n = iterate-suc (onward rule mask active image) n (seeds rule active)

  -- as many pixels as the crop has
  pub length-reach : (n : ℕ) → length (reach rule mask active image n) ≡ area rule
  unfolding reach seeds
  length-reach n =
      iterate-keeps (λ xs. length xs ≡ area rule) (onward rule mask active image)
      (λ xs e. length-propagate_once rule.width rule.height
      rule.connectivity (within rule mask active image) xs)
      n
      (seeds rule active)
      (length-tabulate (area rule) _)

  -- each 0 or 1
  pub reach-bits : (n k : ℕ) → get_or (reach rule mask active image n) k 0 ≤ 1
  unfolding reach seeds
  reach-bits n =
      iterate-keeps (λ xs. (k : ℕ) → get_or xs k 0 ≤ 1) (onward rule mask active image)
      (propagate_once-bits rule.width rule.height rule.connectivity (within rule mask active image))
      n
      (seeds rule active)
      (get_or-tabulate-le (area rule) _ 1 (λ k l. bit_le (active k)))

  -- with no iteration the active pixels are reached
  pub reach-zero-iff : (k : ℕ) →
      (get_or (reach rule mask active image 0) k 0 ≡ 1) ↔ ((k < area rule) × (active k ≡ true))
  unfolding reach seeds iterate
  reach-zero-iff k = get_or-tabulate-bit-iff (area rule) active k

  -- with one iteration more those that are active or open, and reached before or next to one that was
  pub reach-suc-iff : (n k : ℕ) → k < area rule →
      (get_or (reach rule mask active image (suc n)) k 0 ≡ 1)
      ↔ ((active k || is_open rule mask image k ≡ true)
      × ((get_or (reach rule mask active image n) k 0 ≡ 1)
      ⊎ ((j : ℕ) × Adjacent rule.width rule.height rule.connectivity k j
      × (get_or (reach rule mask active image n) j 0 ≡ 1))))
  unfolding within
  reach-suc-iff n k l =
      let inside = get_or-tabulate-bit-iff (area rule) (λ i. active i || is_open rule mask image i) k in
      let step =
      propagate_once-iff rule.width rule.height rule.connectivity
      (within rule mask active image) (reach rule mask active image n)
      (reach-bits n) k l in (
        λ e. let (m, from) = step.0 (rw reach-suc at e) in ((inside.0 m).1, from),
        λ h. rw reach-suc (step.1 (inside.1 (l, h.0), h.1)),
      )

  -- what is reached is inside the crop
  pub reach-inside : (n k : ℕ) → get_or (reach rule mask active image n) k 0 ≡ 1 → k < area rule
  reach-inside n k e =
      by-lt k (area rule) (λ l. l)
      (λ l.
      let past : length (reach rule mask active image n) ≤ k = omega (arith, length-reach n) in
      absurd (omega (arith, e, get_or-eq_default (reach rule mask active image n) 0 {n = k} past)))

  -- and was active or open
  pub reach-within : (n k : ℕ) → get_or (reach rule mask active image n) k 0 ≡ 1 →
      active k || is_open rule mask image k ≡ true
  reach-within zero k e = or_left (active k) _ ((reach-zero-iff k).0 e).1
  reach-within (suc n) k e = ((reach-suc-iff n k (reach-inside (suc n) k e)).0 e).0

  -- what is reached stays so
  pub reach-stays : (n k : ℕ) → get_or (reach rule mask active image n) k 0 ≡ 1 →
      get_or (reach rule mask active image (suc n)) k 0 ≡ 1
  reach-stays n k e = (reach-suc-iff n k (reach-inside n k e)).1 (reach-within n k e, inl e)

  -- what is active is reached
  pub reach-active : (n k : ℕ) → k < area rule → active k ≡ true → get_or (reach rule mask active image n) k 0 ≡ 1
  reach-active zero k l e = (reach-zero-iff k).1 (l, e)
  reach-active (suc n) k l e = reach-stays n k (reach-active n k l e)

  -- where nothing is active, nothing is
  pub reach-none : ((k : ℕ) → k < area rule → active k ≡ false) → (n k : ℕ) →
      get_or (reach rule mask active image n) k 0 ≡ 1 → ⊥
  reach-none none zero k e = let (l, a) = (reach-zero-iff k).0 e in not-both a (none k l)
  reach-none none (suc n) k e =
      ⊎_elim (reach-none none n k) (λ h. reach-none none n h.0 h.2)
      ((reach-suc-iff n k (reach-inside (suc n) k e)).0 e).1

  -- an iteration only adds
  pub reach-below : (n : ℕ) → Below (reach rule mask active image n) (reach rule mask active image (suc n))
  unfolding Below
  reach-below n = (
    length-reach n ∙ sym (length-reach (suc n)),
    λ k.
        by-eq (get_or (reach rule mask active image n) k 0) 1
        (λ e. omega (arith, reach-stays n k e)) (λ d. omega (arith, reach-bits n k)),
  )

  -- with no iteration the active pixels are reached
  pub reached-zero : (k : ℕ) → k < area rule → reached rule mask active image 0 k ≡ active k
  reached-zero k l =
      bool_same _ _ (λ e. ((reach-zero-iff k).0 (eqb-true _ 1 e)).1) (λ e. eq-eqb _ 1 ((reach-zero-iff k).1 (l, e)))

  -- one iteration more adds the open pixels next to one that is reached
  pub reached-suc : (n k : ℕ) → k < area rule →
      reached rule mask active image (suc n) k
      ≡ (reached rule mask active image n k
      || (is_open rule mask image k && any (reached rule mask active image n) (next_to rule k)))
  reached-suc n k l =
      let was = reached rule mask active image n k in
      let free = is_open rule mask image k in
      let beside = any (reached rule mask active image n) (next_to rule k) in
      let near = any-neighbours-iff rule.width rule.height
      rule.connectivity (reached rule mask active image n) k in
      bool_same _ _
      (λ e.
      let (inside, from) = (reach-suc-iff n k l).0 (eqb-true _ 1 e) in
      ⊎_elim (λ v. or_left was (free && beside) (eq-eqb _ 1 v))
      (λ h.
      ⊎_elim (λ a. or_left was (free && beside) (eq-eqb _ 1 (reach-active n k l a)))
      (λ o. or_right was (free && beside) (and_both free beside o (near.1 (h.0, h.1, eq-eqb _ 1 h.2))))
      (or-true-cases (active k) free inside))
      from)
      (λ e.
      eq-eqb _ 1
      (⊎_elim (λ v. reach-stays n k (eqb-true _ 1 v))
      (λ h.
      let (j, a, v) = near.0 (and_right free beside h) in
      (reach-suc-iff n k l).1 (or_right (active k) free (and_left free beside h), inr (j, a, eqb-true _ 1 v)))
      (or-true-cases was (free && beside) e)))

-- ---- layers

-- What n layers do, said by what n iterations reach. By the image after them, the last layer, all
-- positions changed, and how many layers were not empty
pub record Reached (rule : Rule) (mask : List ℕ) (active : ℕ → Bool)
    (image : List ℕ) (n : ℕ) (image' last total : List ℕ)
    (filled : ℕ) : Type 0 where
  -- the image has as many pixels as before
  pub size : length image' ≡ length image
  -- the open pixels that are reached get the new value, any other keeps its own
  pub pixel : (k : ℕ) → k < area rule →
      get_or image' k 0 ≡ cond (is_open rule mask image k && reached rule mask active image n k)
      rule.new (get_or image k 0)
  -- these are listed, each once
  pub all : (k : ℕ) → k < area rule →
      occurrences k total ≡ bit (is_open rule mask image k && reached rule mask active image n k)
  -- and nothing else is
  pub all_out : (k : ℕ) → area rule ≤ k → occurrences k total ≡ 0
  -- the last layer is a frontier of what is reached
  pub frontier : Frontier rule mask (reached rule mask active image n) image' last
  -- it lists what the last iteration reached first, each once
  pub last_layer : (m : ℕ) → n ≡ suc m → (k : ℕ) → k < area rule →
      occurrences k last ≡ bit (reached rule mask active image (suc m) k && not (reached rule mask active image m k))
  -- so many iterations are the least that reach the same
  pub used : filled ≡ least_iterations (onward rule mask active image) n (seeds rule active)

-- The tests of a layer: a pixel was open at the start (o), is reached before the layer (r), has a neighbour
-- that is (a). So it turns if (o && not r) && a, and is reached after the layer if r || (o && a). Its value
-- after the layer
layer-pixel : (o r a : Bool) (new value : ℕ) →
    cond ((o && not r) && a) new (cond (o && r) new value) ≡ cond (o && (r || (o && a))) new value
layer-pixel true true a new value = refl
layer-pixel true false true new value = refl
layer-pixel true false false new value = refl
layer-pixel false r a new value = refl

-- how often it is listed
layer-all : (o r a : Bool) → bit (o && r) + bit ((o && not r) && a) ≡ bit (o && (r || (o && a)))
layer-all true true a = refl
layer-all true false true = refl
layer-all true false false = refl
layer-all false r a = refl

-- whether it is reached
layer-active : (o r a : Bool) → r || ((o && not r) && a) ≡ r || (o && a)
layer-active o true a = refl
layer-active true false a = refl
layer-active false false a = refl

-- whether it turns
layer-last : (o r a : Bool) → (o && not r) && a ≡ (r || (o && a)) && not r
layer-last true true a = refl
layer-last true false true = refl
layer-last true false false = refl
layer-last false true a = refl
layer-last false false a = refl

-- the first of a list is a member
first_member : (xs : List ℕ) → 0 < length xs → any (eqb (get_or xs 0 0)) xs ≡ true
unfolding any
first_member [] l = absurd (omega arith)
first_member (x ∷ xs) l = or_left (eqb x x) (any (eqb x) xs) (eq-eqb x x refl)

module _ (rule : Rule) (mask : List ℕ) (active : ℕ → Bool) (image : List ℕ) (fits : Fits rule mask image) where
  -- no layer
  reached-start : (first : List ℕ) → Frontier rule mask active image first →
      Reached rule mask active image 0 image first [] 0
  reached-start first f =
      record {
        size = refl;
        pixel = λ k l. rw (none k l);
        all = λ k l. rw (none k l) (occurrences-nil k);
        all_out = λ k l. occurrences-nil k;
        frontier =
            frontier-same rule mask active (reached rule mask active image 0) image first
            (λ k l. sym (reached-zero rule mask active image k l)) f;
        last_layer = λ m e. absurd (omega arith);
        used = omega (arith, least_iterations-le (onward rule mask active image) 0 (seeds rule active));
      }
    where
      none : (k : ℕ) → k < area rule → is_open rule mask image k && reached rule mask active image 0 k ≡ false
      none k l =
          by-test (is_open rule mask image k && reached rule mask active image 0 k)
          (λ t.
          let o = and_left (is_open rule mask image k) (reached rule mask active image 0 k) t in
          let a = sym (reached-zero rule mask active image k l) ∙ and_right (is_open rule mask image k) _ t in
          not-both o (f.held k l a))
          (λ t. t)

  module _ {n filled : ℕ} {image' last total image'' next : List ℕ}
      (r : Reached rule mask active image n image' last total filled)
      (c : Changed rule mask image' (around rule last) image'' next) where
    -- the pixels reached before, the open ones at the start, and those next to one reached before
    abbrev was : ℕ → Bool
    was = reached rule mask active image n

    abbrev free : ℕ → Bool
    free = is_open rule mask image

    abbrev near : ℕ → Bool
    near k = any was (next_to rule k)

    -- the rule fits the image so far
    fits' : Fits rule mask image'
    fits' = fits-same image image' fits r.size

    -- what is open is what was and is not reached
    open-left : (k : ℕ) → k < area rule → is_open rule mask image' k ≡ free k && not (was k)
    open-left k l =
        by-test (free k)
        (λ o.
        by-test (was k)
        (λ e.
        let new : get_or image' k 0 ≡ rule.new = rw (o, e) at (r.pixel k l) in
        rw (o, e) (is_open-other rule mask image' k (λ old. fits.differs (sym old ∙ new))))
        (λ e.
        let kept : get_or image' k 0 ≡ get_or image k 0 = rw (o, e) at (r.pixel k l) in
        is_open-same rule mask image' image k kept ∙ rw (o, e)))
        (λ o.
        let kept : get_or image' k 0 ≡ get_or image k 0 = rw o at (r.pixel k l) in
        is_open-same rule mask image' image k kept ∙ rw o)

    -- so that turns what is open and next to what is reached
    turns-left : (k : ℕ) → k < area rule → turns rule mask was image' k ≡ (free k && not (was k)) && near k
    unfolding turns
    turns-left k l = ap (λ (o : Bool). o && near k) (open-left k l)

    -- the layer lists what the iteration reaches first
    next-once : (k : ℕ) → k < area rule →
        occurrences k next ≡ bit (reached rule mask active image (suc n) k && not (was k))
    next-once k l =
        frontier-once rule mask was image' last fits' r.frontier image'' next c k l
        ∙ ap bit
        (turns-left k l
        ∙ layer-last (free k) (was k) (near k)
        ∙ ap (λ (s : Bool). s && not (was k)) (sym (reached-suc rule mask active image n k l)))

    -- it is empty exactly if the iteration changes nothing
    next-same : ltb 0 (length next) ≡ not (same (reach rule mask active image n) (reach rule mask active image (suc n)))
    unfolding occurrences Below
    next-same =
        let before = reach rule mask active image n in
        let after = reach rule mask active image (suc n) in
        by-lt 0 (length next)
        (λ some.
        let x = get_or next 0 0 in
        let m = first_member next some in
        let l = changed-inside rule mask image' (around rule last) image'' next fits' c x m in
        let now = reached rule mask active image (suc n) x in
        let t = bit-one (now && not (was x))
        (omega (arith, member-occurs x next m, next-once x l, bit_le (now && not (was x)))) in
        let differ : before ≡ after → ⊥ =
        λ e. not-both (ap (λ (xs : List ℕ). eqb (get_or xs x 0) 1) e ∙ and_left now _ t)
        (not-true (was x) (and_right now _ t)) in
        lt-ltb 0 (length next) some ∙ sym (ap not (same_not before after differ)))
        (λ none.
        let equal : before ≡ after =
        ext_get_or 0 before after (reach-below rule mask active image n).0
        (λ k lk.
        let l : k < area rule = omega (arith, length-reach rule mask active image n) in
        by-eq (get_or before k 0) (get_or after k 0) (λ e. e)
        (λ d.
        let less = (reach-below rule mask active image n).1 k in
        let most = reach-bits rule mask active image (suc n) k in
        let s1 = eq-eqb (get_or after k 0) 1 (omega arith) in
        let r0 = ne_eqb (get_or before k 0) 1 (λ e. omega arith) in
        absurd (omega (arith, rw (s1, r0) at (next-once k l), length-select-le (eqb k) next)))) in
        le-ltb 0 (length next) none ∙ sym (ap not (ap (same before) (sym equal) ∙ same_refl before)))

    -- one layer more
    reached-layer : Reached rule mask active image (suc n) image'' next
        (total ++ next) (filled + bit (ltb 0 (length next)))
    unfolding reach
    reached-layer =
        record {
          size = c.size ∙ r.size;
          pixel = λ k l.
              frontier-pixel rule mask was image' last fits' r.frontier image'' next c k l
              ∙ rw (turns-left k l, r.pixel k l, reached-suc rule mask active image n k l)
              (layer-pixel (free k) (was k) (near k) rule.new (get_or image k 0));
          all = λ k l.
              occurrences-append k total next
              ∙ ap₂ ◌+◌ (r.all k l) (frontier-once rule mask was image' last fits' r.frontier image'' next c k l)
              ∙ rw (turns-left k l, reached-suc rule mask active image n k l) (layer-all (free k) (was k) (near k));
          all_out = λ k l.
              occurrences-append k total next
              ∙ omega (arith, r.all_out k l, c.no_other k (omega (arith, fits'.pixels)));
          frontier =
              frontier-same rule mask (λ k. was k || turns rule mask was image' k)
              (reached rule mask active image (suc n)) image'' next
              (λ k l. rw (turns-left k l, reached-suc rule mask active image n k l)
              (layer-active (free k) (was k) (near k)))
              (frontier-next rule mask was image' last fits' r.frontier image'' next c);
          last_layer = λ m e.
              subst
              (λ (m : ℕ). (k : ℕ) → k < area rule →
              occurrences k next ≡ bit
              (reached rule mask active image (suc m) k && not (reached rule mask active image m k)))
              (suc_inj e)
              next-once;
          used =
              ap₂ ◌+◌ r.used (ap bit next-same)
              ∙ sym (least_iterations-suc (onward rule mask active image)
              (seeds rule active) (reach-below rule mask active image) n);
        }

  -- n layers from a frontier do what n iterations reach
  pub layered-reach : {first : List ℕ} {n filled : ℕ} {image' last total : List ℕ} →
      Frontier rule mask active image first →
      Layered rule mask image first n image' last total filled →
      Reached rule mask active image n image' last total filled
  layered-reach f start = reached-start _ f
  layered-reach f (layer before c) = reached-layer (layered-reach f before) c

  -- the listed positions are those that changed, each once
  pub reached-once : {n filled : ℕ} {image' last total : List ℕ} →
      Reached rule mask active image n image' last total filled →
      (k : ℕ) → k < area rule → occurrences k total ≡ bit (not (eqb (get_or image k 0) (get_or image' k 0)))
  reached-once {n = n} {image' = image'} r k l =
      let turned = is_open rule mask image k && reached rule mask active image n k in
      by-test turned
      (λ t.
      let old = is_open-old rule mask image k (and_left (is_open rule mask image k) _ t) in
      let new : get_or image' k 0 ≡ rule.new = rw t at (r.pixel k l) in
      rw (old, new, ne_eqb rule.old rule.new fits.differs) (rw t at (r.all k l)))
      (λ t.
      let kept : get_or image' k 0 ≡ get_or image k 0 = rw t at (r.pixel k l) in
      rw (kept, eq-eqb (get_or image k 0) (get_or image k 0) refl) (rw t at (r.all k l)))

  -- so they are as many as changed
  pub reached-changed : {n filled : ℕ} {image' last total : List ℕ} →
      Reached rule mask active image n image' last total filled →
      length total ≡ changed rule.width rule.height image image'
  reached-changed {image' = image'} {total = total} r =
      changed-once rule.width rule.height image image' total (reached-once r) r.all_out
