-- Frontiers: positions that are enough to spread from, and what one layer from them changes.
--   Frontier           the listed positions are active, and an open pixel next to an active one is next to one of them
--   turns              the pixels that one layer changes: open, and next to an active one
--   frontier-turns     the open pixels next to the frontier are these
--   frontier-visited   where its neighbours are visited, and maybe others, those that change are a frontier again
--   frontier-next      the pixels changed by a layer are the frontier of the next
--   frontier-pixel     a pixel after a layer
--   frontier-once      each changed pixel is listed once
--   frontier-same      a frontier goes by what is active inside the crop
--   is_open-..         which pixels are open; open_count-unmasked: how many, without a mask
--   changed-..         what a visit changes; changed-frontier: it is a frontier of itself
--   contour-frontier   the pixels of one colour with a 4-neighbour of the other are a frontier, by 4 and by 8
-- Assumes nothing.
use Prim.Native.Nat.{ℕ, ◌*◌, ◌≤◌, ◌<◌}
use mathlib.Core.Path.{◌≡◌, refl, sym, ap, ◌∙◌}
use mathlib.Core.Bool.{Bool, true, false, cond, ◌&&◌, ◌||◌, and-true}
use mathlib.Core.Logic.{◌⊎◌, inl, inr, ⊎_elim, ◌↔◌}
use mathlib.Core.List.{List, flat_map}
use native.Mathlib.Omega.{arith}
use lib.Dec.{eqb}
use lib.ListN.{length, get_or}
use borrow.Author.Tests.{eqb-true, eq-eqb, ne_eqb}
use Rattle.lists.specs.Lists.{range, any, occurrences, bit}
use Rattle.lists.proofs.BoolLaws.{by-test, by-eq, by-lt, bool_same, not-both, and_left, and_right, and_both, or_right}
use Rattle.lists.proofs.BoolLaws.{or-true-cases}
use Rattle.lists.proofs.BoolLaws.{bit_le, bit-one, eqb_comm}
use Rattle.lists.proofs.ListLaws.{member-occurs, occurs-member, select-same, length-select-get_or}
use Rattle.neighbours.specs.Grid.{is_connectivity, Adjacent}
use Rattle.neighbours.specs.Crop.{neighbours}
use Rattle.neighbours.proofs.GridLaws.{adjacent-lt, adjacent-sym, adjacent-via, adjacent-eight, any-neighbours-iff}
use Rattle.neighbours.proofs.GridLaws.{around-iff}
use Rattle.engine.specs.declared.Rule.{Rule}
use Rattle.engine.specs.Spread.{Fits, is_open, open_count, Changed}

-- how many pixels the crop has
abbrev pub area : Rule → ℕ
area rule = rule.width * rule.height

-- the neighbours of a position, and those of a list of positions
abbrev pub next_to : Rule → ℕ → List ℕ
next_to rule = neighbours rule.width rule.height rule.connectivity

abbrev pub around : Rule → List ℕ → List ℕ
around rule = flat_map (next_to rule)

-- position k holds the new value
abbrev pub is_new : Rule → List ℕ → ℕ → Bool
is_new rule image k = eqb (get_or image k 0) rule.new

-- The positions of `frontier` are enough to spread from: they are active, nothing active is open, and
-- every open pixel next to an active one is next to one of them
pub record Frontier (rule : Rule) (mask : List ℕ) (active : ℕ → Bool) (image frontier : List ℕ) : Type 0 where
  pub inside : (k : ℕ) → any (eqb k) frontier ≡ true → k < area rule
  pub is_active : (k : ℕ) → any (eqb k) frontier ≡ true → active k ≡ true
  pub held : (k : ℕ) → k < area rule → active k ≡ true → is_open rule mask image k ≡ false
  pub covers : (k j : ℕ) → k < area rule → is_open rule mask image k ≡ true →
      Adjacent rule.width rule.height rule.connectivity k j → active j ≡ true →
      any (eqb k) (around rule frontier) ≡ true

-- a frontier goes by what is active inside the crop
pub frontier-same : (rule : Rule) (mask : List ℕ) (active active' : ℕ → Bool) (image frontier : List ℕ) →
    ((k : ℕ) → k < area rule → active k ≡ active' k) →
    Frontier rule mask active image frontier → Frontier rule mask active' image frontier
frontier-same rule mask active active' image frontier e f =
    record {
      inside = f.inside;
      is_active = λ k m. sym (e k (f.inside k m)) ∙ f.is_active k m;
      held = λ k l t. f.held k l (e k l ∙ t);
      covers = λ k j l o a t.
          f.covers k j l o a (e j (adjacent-lt rule.width rule.height rule.connectivity a) ∙ t);
    }

-- a rule that fits an image fits another of its size
pub fits-same : {rule : Rule} {mask : List ℕ} (image image' : List ℕ) → Fits rule mask image →
    length image' ≡ length image →
    Fits rule mask image'
fits-same image image' fits e =
    record {
      valid = fits.valid;
      connected = fits.connected;
      differs = fits.differs;
      pixels = e ∙ fits.pixels;
      masked = fits.masked;
    }

-- ---- open pixels

module _ (rule : Rule) (mask : List ℕ) where
  -- whether a pixel is open goes by its value
  pub is_open-same : (image image' : List ℕ) (k : ℕ) → get_or image k 0 ≡ get_or image' k 0 →
      is_open rule mask image k ≡ is_open rule mask image' k
  unfolding is_open
  is_open-same image image' k e = rw e

  -- without a mask, the pixels of the old value are open
  pub is_open-unmasked : length mask ≡ 0 → (image : List ℕ) (k : ℕ) →
      is_open rule mask image k ≡ eqb (get_or image k 0) rule.old
  unfolding is_open
  is_open-unmasked none image k = rw (eq-eqb (length mask) 0 none) (and-true (eqb (get_or image k 0) rule.old))

  -- with one, those inside it
  pub is_open-masked : 0 < length mask → (image : List ℕ) (k : ℕ) →
      is_open rule mask image k ≡ (eqb (get_or image k 0) rule.old && eqb (get_or mask k 0) rule.allowed)
  unfolding is_open
  is_open-masked some image k = rw (ne_eqb (length mask) 0 (λ e. omega arith))

  -- an open pixel has the old value
  pub is_open-old : (image : List ℕ) (k : ℕ) → is_open rule mask image k ≡ true → get_or image k 0 ≡ rule.old
  unfolding is_open
  is_open-old image k o = eqb-true _ _ (and_left (eqb (get_or image k 0) rule.old) _ o)

  -- a pixel of another value is not open
  pub is_open-other : (image : List ℕ) (k : ℕ) → (get_or image k 0 ≡ rule.old → ⊥) → is_open rule mask image k ≡ false
  is_open-other image k n = by-test (is_open rule mask image k) (λ o. absurd (n (is_open-old image k o))) (λ o. o)

  -- without a mask, as many are open as hold the old value
  pub open_count-unmasked : length mask ≡ 0 → (image : List ℕ) →
      open_count rule mask image ≡ occurrences rule.old image
  unfolding open_count occurrences
  open_count-unmasked none image =
      ap length
      (select-same (is_open rule mask image) (λ k. eqb rule.old (get_or image k 0)) (range (length image))
      (λ k m. is_open-unmasked none image k ∙ eqb_comm (get_or image k 0) rule.old))
      ∙ length-select-get_or (eqb rule.old) image

  -- ---- what a visit changes

  module _ (image at image' added : List ℕ) (fits : Fits rule mask image)
      (c : Changed rule mask image at image' added) where
    -- the listed positions are inside
    pub changed-inside : (k : ℕ) → any (eqb k) added ≡ true → k < area rule
    changed-inside k m =
        by-lt k (area rule) (λ l. l)
        (λ l. absurd (omega (arith, member-occurs k added m, c.no_other k (rw fits.pixels l))))

    -- and are those that were visited and open
    pub changed-member : (k : ℕ) → k < area rule →
        any (eqb k) added ≡ (any (eqb k) at && is_open rule mask image k)
    changed-member k l =
        let once = c.once k (rw fits.pixels l) in
        bool_same _ _
        (λ m. bit-one _ (omega (
          arith,
          member-occurs k added m,
          once,
          bit_le (any (eqb k) at && is_open rule mask image k),
        )))
        (λ t. occurs-member k added (omega (arith, once, ap bit t)))

    -- a pixel that is open after the visit was open, and was not visited
    pub changed-open : (k : ℕ) → k < area rule → is_open rule mask image' k ≡ true →
        (is_open rule mask image k ≡ true) × (any (eqb k) at && is_open rule mask image k ≡ false)
    changed-open k l o =
        let after = c.pixel k (rw fits.pixels l) in
        by-test (any (eqb k) at && is_open rule mask image k)
        (λ t.
        let e : get_or image' k 0 ≡ rule.new = rw t at after in
        absurd (fits.differs (sym (is_open-old image' k o) ∙ e)))
        (λ t.
        let e : get_or image' k 0 ≡ get_or image k 0 = rw t at after in
        (sym (is_open-same image' image k e) ∙ o, t))

    -- they are a frontier of themselves
    pub changed-frontier : Frontier rule mask (λ k. any (eqb k) at && is_open rule mask image k) image' added
    changed-frontier =
        record {
          inside = changed-inside;
          is_active = λ k m. sym (changed-member k (changed-inside k m)) ∙ m;
          held = λ k l e.
              by-test (is_open rule mask image' k) (λ o. not-both e (changed-open k l o).1) (λ o. o);
          covers = λ k j l o a e.
              let lj = adjacent-lt rule.width rule.height rule.connectivity a in
              let back = adjacent-sym rule.width rule.height rule.connectivity fits.connected l a in
              (around-iff rule.width rule.height
              rule.connectivity added k).1 (j, changed-member j lj ∙ e, back);
        }

  -- ---- a layer

  -- it changes the open pixels next to an active one
  unfoldable pub turns : (ℕ → Bool) → List ℕ → ℕ → Bool
  turns active image k = is_open rule mask image k && any active (next_to rule k)

  -- these are the open pixels with an active neighbour
  pub turns-iff : (active : ℕ → Bool) (image : List ℕ) (k : ℕ) →
      (turns active image k ≡ true)
      ↔ ((is_open rule mask image k ≡ true)
      × ((j : ℕ) × Adjacent rule.width rule.height rule.connectivity k j × (active j ≡ true)))
  unfolding turns
  turns-iff active image k =
      let beside = any-neighbours-iff rule.width rule.height rule.connectivity active k in (
        λ e. (and_left (is_open rule mask image k) _ e, beside.0 (and_right (is_open rule mask image k) _ e)),
        λ h. and_both (is_open rule mask image k) _ h.0 (beside.1 h.1),
      )

  module _ (active : ℕ → Bool) (image frontier : List ℕ) (fits : Fits rule mask image)
      (f : Frontier rule mask active image frontier) where
    -- the open pixels next to the frontier are those that turn
    pub frontier-turns : (k : ℕ) → k < area rule →
        any (eqb k) (around rule frontier) && is_open rule mask image k ≡ turns active image k
    frontier-turns k l =
        let near = around-iff rule.width rule.height rule.connectivity frontier k in
        let found = any (eqb k) (around rule frontier) in
        let free = is_open rule mask image k in
        bool_same _ _
        (λ e.
        let (i, m, a) = near.0 (and_left found free e) in
        let back = adjacent-sym rule.width rule.height rule.connectivity fits.connected (f.inside i m) a in
        (turns-iff active image k).1 (and_right found free e, (i, back, f.is_active i m)))
        (λ e.
        let (o, n) = (turns-iff active image k).0 e in
        and_both found free (f.covers k n.0 l o n.1 n.2) o)

    -- where the pixels next to a frontier are visited, and maybe others, those that change are a frontier, of
    -- what was active and what changed
    pub frontier-visited : (at image' added : List ℕ) → Changed rule mask image at image' added →
        ((k : ℕ) → k < area rule → any (eqb k) (around rule frontier) ≡ true → any (eqb k) at ≡ true) →
        Frontier rule mask (λ k. active k || (any (eqb k) at && is_open rule mask image k)) image' added
    frontier-visited at image' added c among =
        record {
          inside = own.inside;
          is_active = λ k m. or_right (active k) _ (own.is_active k m);
          held = λ k l e.
              ⊎_elim
              (λ a.
              by-test (is_open rule mask image' k) (λ o. not-both (still k l o).0 (f.held k l a)) (λ o. o))
              (own.held k l)
              (or-true-cases (active k) _ e);
          covers = λ k j l o a e.
              ⊎_elim
              (λ h.
              let (before, kept) = still k l o in
              let m = among k l (f.covers k j l before a h) in
              not-both (and_both (any (eqb k) at) _ m before) kept)
              (own.covers k j l o a)
              (or-true-cases (active j) _ e);
        }
      where
        own : Frontier rule mask (λ k. any (eqb k) at && is_open rule mask image k) image' added
        own = changed-frontier image at image' added fits c

        still : (k : ℕ) → k < area rule → is_open rule mask image' k ≡ true →
            (is_open rule mask image k ≡ true) × (any (eqb k) at && is_open rule mask image k ≡ false)
        still = changed-open image at image' added fits c

    module _ (image' added : List ℕ) (c : Changed rule mask image (around rule frontier) image' added) where
      -- a pixel after the layer
      pub frontier-pixel : (k : ℕ) → k < area rule →
          get_or image' k 0 ≡ cond (turns active image k) rule.new (get_or image k 0)
      frontier-pixel k l =
          c.pixel k (rw fits.pixels l)
          ∙ ap (λ (t : Bool). cond t rule.new (get_or image k 0)) (frontier-turns k l)

      -- each pixel that turned is listed once, any other not
      pub frontier-once : (k : ℕ) → k < area rule → occurrences k added ≡ bit (turns active image k)
      frontier-once k l = c.once k (rw fits.pixels l) ∙ ap bit (frontier-turns k l)

      -- the pixels that turned are a frontier, of what was active and what turned
      pub frontier-next : Frontier rule mask (λ k. active k || turns active image k) image' added
      frontier-next =
          frontier-same rule mask _ (λ k. active k || turns active image k) image' added
          (λ k l. ap (λ (t : Bool). active k || t) (frontier-turns k l))
          (frontier-visited (around rule frontier) image' added c (λ k l m. m))

-- ---- the contour

-- the rule turns background to object, or object to background
abbrev pub Colours : Rule → Type 0
Colours rule = ((rule.old ≡ 0) × (rule.new ≡ 1)) ⊎ ((rule.old ≡ 1) × (rule.new ≡ 0))

-- a pixel of 0 or 1 has the old or the new value
pub colours-cases : (rule : Rule) → Colours rule → (value : ℕ) → value ≤ 1 → (value ≡ rule.old) ⊎ (value ≡ rule.new)
colours-cases rule colours value bits =
    by-eq value rule.old inl
    (λ d. inr (⊎_elim (λ e. omega (arith, e.0, e.1)) (λ e. omega (arith, e.0, e.1)) colours))

-- The pixels of the new value with a 4-neighbour of the old one are a frontier of all pixels of the new
-- value, by 4 and by 8. By 4 that is what they are. By 8, of a pixel of the old value, a diagonal
-- neighbour of the new one and a pixel that is a 4-neighbour of both, the latter or the diagonal
-- neighbour is one of them
pub contour-frontier : (rule : Rule) (mask image first : List ℕ) → Fits rule mask image → Colours rule →
    ((k : ℕ) → get_or image k 0 ≤ 1) →
    ((k : ℕ) →
    (any (eqb k) first ≡ true)
    ↔ ((k < area rule)
    × (get_or image k 0 ≡ rule.new)
    × ((j : ℕ) × Adjacent rule.width rule.height 4 k j × (get_or image j 0 ≡ rule.old)))) →
    Frontier rule mask (is_new rule image) image first
contour-frontier rule mask image first fits colours bits contour =
    record {
      inside = λ k m. ((contour k).0 m).0;
      is_active = λ k m. eq-eqb (get_or image k 0) rule.new ((contour k).0 m).1;
      held = λ k l e.
          is_open-other rule mask image k (λ o. fits.differs (sym o ∙ eqb-true (get_or image k 0) rule.new e));
      covers = covers;
    }
  where
    back : (connectivity : ℕ) → is_connectivity connectivity ≡ true → {i j : ℕ} → i < area rule →
        Adjacent rule.width rule.height connectivity i j → Adjacent rule.width rule.height connectivity j i
    back connectivity c l a = adjacent-sym rule.width rule.height connectivity c l a

    lies : (connectivity : ℕ) {i j : ℕ} → Adjacent rule.width rule.height connectivity i j → j < area rule
    lies connectivity a = adjacent-lt rule.width rule.height connectivity a

    covers : (k j : ℕ) → k < area rule → is_open rule mask image k ≡ true →
        Adjacent rule.width rule.height rule.connectivity k j → eqb (get_or image j 0) rule.new ≡ true →
        any (eqb k) (around rule first) ≡ true
    covers k j l o a e =
        let old = is_open-old rule mask image k o in
        let new = eqb-true (get_or image j 0) rule.new e in
        let lj = lies rule.connectivity a in
        let near = around-iff rule.width rule.height rule.connectivity first k in
        let back-c = back rule.connectivity fits.connected l a in
        let straight : Adjacent rule.width rule.height 4 k j → any (eqb k) (around rule first) ≡ true =
        λ b. near.1 (j, (contour j).1 (lj, new, (k, back 4 refl l b, old)), back-c) in
        ⊎_elim (λ four. straight (rw (eqb-true rule.connectivity 4 four) at a))
        (λ eight.
        let c8 = eqb-true rule.connectivity 8 eight in
        ⊎_elim straight
        (λ via.
        let (q, b, d) = via in
        let lq = lies 4 b in
        ⊎_elim
        (λ q_old. near.1 (j, (contour j).1 (lj, new, (q, back 4 refl lq d, q_old)), back-c))
        (λ q_new.
        let toward = back 4 refl l b in
        near.1 (
          q,
          (contour q).1 (lq, q_new, (k, toward, old)),
          rw c8 (adjacent-eight rule.width rule.height toward),
        ))
        (colours-cases rule colours (get_or image q 0) (bits q)))
        (adjacent-via rule.width rule.height l (rw c8 at a)))
        (or-true-cases (eqb rule.connectivity 4) (eqb rule.connectivity 8) fits.connected)
