-- Laws of the hand-over of a propagation from words to the queue engine (`specs/HandOver.antt`).
--   listing-held, -added               what is kept of the rows is what became object
--   bounded                            the rule that turns background to object inside a mask
--   grounded-stretch, -frontier        the queue engine can start from the pixels that an iteration added
--   grounded-image, -used              layers from them are further iterations
--   handing-rows, -held                what the iteration on words asks, and the rows after it
--   handing-grounded, -packable        what the further iterations ask, and the packing of the image after them
--   handing-iterated                   all iterations, and how many change anything
-- Assumes nothing.
use Prim.Native.Nat.{ℕ, zero, suc, ◌+◌, ◌-◌, ◌*◌, ◌/◌, ◌%◌, ◌≤◌, ◌<◌, min, zero-le}
use mathlib.Core.Path.{◌≡◌, refl, sym, ap, ap₂, ◌∙◌}
use mathlib.Core.Bool.{Bool, true, false, not, ◌&&◌}
use mathlib.Core.Logic.{◌⊎◌, inr, ◌↔◌}
use mathlib.Core.List.{List, ◌++◌}
use native.Mathlib.Omega.{arith}
use native.Mathlib.Nat.{zero-add, mul_comm}
use lib.Bits.{bit_and, bit_xor, differ}
use lib.Dec.{eqb}
use lib.ListN.{length, get_or, take, drop, get_or-eq_default}
use lib.Seq.{get_or-take}
use borrow.Author.Tests.{eqb-true, eq-eqb, ne_eqb}
use Rattle.lists.specs.Lists.{range, select, any, iterate, bit}
use Rattle.lists.proofs.BoolLaws.{by-test, by-eq, by-lt, not-both, and_left, and_right, bit_le, bit-one}
use Rattle.lists.proofs.ListLaws.{length-select-count_from-le, length-select-range-suc, occurrences-select}
use Rattle.lists.proofs.ListLaws.{occurrences-select-out, member-get_or, member-occurs, occurs-member}
use Rattle.lists.proofs.ListLaws.{select-same, member-range-lt}
use Rattle.neighbours.specs.Crop.{ValidSize, Binary, Extended}
use Rattle.neighbours.specs.Grid.{Adjacent, positions, column, row}
use Rattle.neighbours.specs.Packed.{bit_at, packed_pixel}
use Rattle.neighbours.specs.Words.{word_bits, full_word}
use Rattle.neighbours.proofs.PackedLaws.{packed_pixel-is, packed_length-is, row_units-ge, get_or-unpacked}
use Rattle.neighbours.proofs.PackedLaws.{unpacked-le, unpacked-binary, length-packed}
use Rattle.neighbours.proofs.PositionLaws.{position-column-row, column-lt, row_lt}
use Rattle.neighbours.proofs.WordLaws.{bit-and, bit-xor, flat-full, bit-le-one}
use Rattle.neighbours.proofs.GridLaws.{adjacent-lt, adjacent-sym, around-iff}
use Rattle.packing.specs.Rows.{Packable}
use Rattle.model.specs.Steps.{propagate_once}
use Rattle.model.specs.Operations.{least_iterations}
use Rattle.model.specs.Words.{row_words, words_length, packed_words, unpacked_words}
use Rattle.theorems.proofs.StepLaws.{propagate_once-iff}
use Rattle.theorems.proofs.OperationLaws.{propagate_once-binary}
use Rattle.theorems.proofs.WordClaims.{unused-clear-iff}
use Rattle.words.specs.Frame.{Written, Clean}
use Rattle.words.specs.Room.{front_rows, InRoom, HeldRows}
use Rattle.words.proofs.WrittenLaws.{written_at}
use Rattle.words.proofs.TurnedLaws.{differ-one}
use Rattle.words.proofs.RoomLaws.{room-same, front_length, front-written, held-written}
use Rattle.words.proofs.OperatedLaws.{clean-packed, unpacked-clean}
use Rattle.engine.specs.declared.Rule.{Rule}
use Rattle.engine.specs.declared.Growth.{Growth}
use Rattle.engine.specs.Spread.{Fits, is_open, open_count, Stretch, Grown}
use Rattle.engine.proofs.FrontierLaws.{is_new, Frontier, is_open-masked, is_open-old, is_open-other}
use Rattle.engine.proofs.ReachLaws.{Reached, layered-reach}
use Rattle.engine.proofs.WholeLaws.{propagate-reach, propagate-used, reached-image}
use Rattle.propagation.specs.Propagation.{Propagatable}
use Rattle.propagation.specs.HandOver.{is_added, added, Grounded, Handing, RowsIterated}
use Rattle.propagation.proofs.GrownLaws.{row_next}
use Rattle.propagation.proofs.PropagationLaws.{run-binary, count-first}

-- ---- the pixels that were added

-- where no number passes both of two tests, they select at most as many as there are
apart-le : (f g : ℕ → Bool) → ((k : ℕ) → f k ≡ true → g k ≡ false) → (n : ℕ) →
    length (select f (range n)) + length (select g (range n)) ≤ n
apart-le f g apart zero =
    omega (arith, length-select-count_from-le f 0 0, length-select-count_from-le g 0 0)
apart-le f g apart (suc n) =
    let one : bit (f n) + bit (g n) ≤ 1 =
    by-test (f n) (λ t. rw (t, apart n t) (omega arith)) (λ t. rw t (omega (arith, bit_le (g n)))) in
    omega (arith, apart-le f g apart n, length-select-range-suc f n, length-select-range-suc g n, one)

-- a pixel that became object
is_added-iff : (before image : List ℕ) (k : ℕ) →
    (is_added before image k ≡ true) ↔ ((get_or image k 0 ≡ 1) × (get_or before k 0 ≡ 1 → ⊥))
unfolding is_added
is_added-iff before image k = (
  λ e. (
    eqb-true (get_or image k 0) 1 (and_left (eqb (get_or image k 0) 1) _ e),
    λ b.
        let no : not (eqb (get_or before k 0) 1) ≡ false = rw (eq-eqb (get_or before k 0) 1 b) refl in
        not-both (and_right (eqb (get_or image k 0) 1) _ e) no,
  ),
  λ h. rw (eq-eqb (get_or image k 0) 1 h.0, ne_eqb (get_or before k 0) 1 h.1) refl,
)

-- the positions listed are those of the crop whose pixels did
added-iff : (width height : ℕ) (before image : List ℕ) (k : ℕ) →
    (any (eqb k) (added width height before image) ≡ true)
    ↔ ((k < width * height) × (is_added before image k ≡ true))
unfolding added
added-iff width height before image k =
    let test = is_added before image in
    let n = width * height in (
      λ m.
          let some = member-occurs k (select test (range n)) m in
          by-lt k n
          (λ l. (l, bit-one (test k) (omega (arith, some, occurrences-select test n k l, bit_le (test k)))))
          (λ l. absurd (omega (arith, some, occurrences-select-out test n k l))),
      λ h.
          occurs-member k (select test (range n))
          (omega (arith, occurrences-select test n k h.0, ap bit h.1)),
    )

-- ---- what is kept of words

-- of a pixel now and before, both 0 or 1: that it is object and was not
added-bit : (now was : ℕ) → now ≤ 1 → was ≤ 1 → eqb (min now (1 - was)) 1 ≡ eqb now 1 && not (eqb was 1)
added-bit zero zero l h = refl
added-bit zero (suc zero) l h = refl
added-bit (suc zero) zero l h = refl
added-bit (suc zero) (suc zero) l h = refl
added-bit zero (suc (suc was)) l h = absurd (omega arith)
added-bit (suc zero) (suc (suc was)) l h = absurd (omega arith)
added-bit (suc (suc now)) was l h = absurd (omega arith)

module _ {width height : ℕ} {rows before part : List ℕ} (clean : Clean width height rows)
    (size : length before ≡ words_length width height)
    (kept : Written (λ i w. w ≡ bit_and (get_or rows i 0) (bit_xor (get_or before i 0) full_word)) 0 1 (length before)
    before part) where
  -- a bit is set that is set in the rows and was not before
  kept-pixel : (x y : ℕ) → x < word_bits * row_words width → y < height →
      packed_pixel word_bits width part x y
      ≡ min (packed_pixel word_bits width rows x y) (1 - packed_pixel word_bits width before x y)
  kept-pixel x y lx ly =
      let m = row_words width in
      let i = y * m + x / word_bits in
      let j = x % word_bits in
      let inside : y * row_words width + x / word_bits < length before =
      omega (arith, lx, size, packed_length-is word_bits width height, mul_comm m height, row_next m y height ly) in
      let word : get_or part i 0 ≡ bit_and (get_or rows i 0) (bit_xor (get_or before i 0) full_word) =
      rw zero-add at (written_at kept i inside) in
      packed_pixel-is word_bits width part x y
      ∙ ap (λ (w : ℕ). bit_at word_bits w j) word
      ∙ bit-and (get_or rows i 0) (bit_xor (get_or before i 0) full_word) j
      ∙ ap₂ min (sym (packed_pixel-is word_bits width rows x y))
      (bit-xor (get_or before i 0) full_word j
      ∙ ap (differ (bit_at word_bits (get_or before i 0) j)) (flat-full j (omega arith))
      ∙ differ-one _ (bit-le-one (get_or before i 0) j)
      ∙ ap (λ (v : ℕ). 1 - v) (sym (packed_pixel-is word_bits width before x y)))

  -- so that no unused bit is
  kept-clean : Clean width height part
  kept-clean =
      record {
        valid = clean.valid;
        size = kept.size ∙ size;
        clear =
            (unused-clear-iff width height part).1
            (λ x y lx hx ly.
            kept-pixel x y hx ly
            ∙ omega (arith, (unused-clear-iff width height rows).0 clean.clear x y lx hx ly));
      }

  -- where the words before are those of an image, what is kept are the pixels that became object
  kept-added : {image : List ℕ} → Binary width height image → before ≡ packed_words width height image →
      select (λ i. eqb (get_or (unpacked_words width height part) i 0) 1) (positions width height)
      ≡ added width height image (unpacked_words width height rows)
  unfolding added is_added
  kept-added {image} binary is =
      select-same _ _ (positions width height)
      (λ i m.
      let l = member-range-lt i (width * height) m in
      let wide = clean.valid.wide in
      let x = column width i in
      let y = row width i in
      let lx = column-lt width i wide in
      let ly = row_lt width height i wide l in
      let at = position-column-row width i in
      let pixel : (words : List ℕ) →
      get_or (unpacked_words width height words) i 0 ≡ packed_pixel word_bits width words x y =
      λ words. rw at at (get_or-unpacked word_bits width height words x y lx ly) in
      let held : x < word_bits * row_words width = omega (arith, row_units-ge word_bits width (omega arith), lx) in
      let was : get_or (unpacked_words width height before) i 0 ≡ get_or image i 0 =
      ap (λ (xs : List ℕ). get_or xs i 0) (unpacked-clean clean.valid binary is) in
      let bit-of : get_or (unpacked_words width height part) i 0
      ≡ min (get_or (unpacked_words width height rows) i 0) (1 - get_or image i 0) =
      pixel part ∙ kept-pixel x y held ly
      ∙ ap₂ min (sym (pixel rows)) (ap (λ (v : ℕ). 1 - v) (sym (pixel before) ∙ was)) in
      rw bit-of
      (added-bit (get_or (unpacked_words width height rows) i 0) (get_or image i 0)
      (unpacked-le word_bits width height rows i) (binary.bits i)))

-- ---- the rows in their room

module _ {width height n : ℕ} {rows entries image part : List ℕ} (entries₁ : List ℕ)
    (held : HeldRows width height rows entries) (binary : Binary width height image)
    (is_length : n ≡ words_length width height) (same : length entries₁ ≡ length entries)
    (packed : front_rows width height entries₁ ≡ packed_words width height image)
    (kept : Written (λ i w. w ≡ bit_and (get_or (take n rows) i 0) (bit_xor (get_or (take n entries₁) i 0) full_word)) 0
    1
    (length (take n entries₁)) (take n entries₁) part) where
  -- the other buffer has room too
  room : InRoom width height entries₁ rows
  room = let both = held.in_room in room-same both (same ∙ sym both.size) both.size

  -- no unused bit is set in what is kept
  clean-part : Clean width height part
  clean-part = kept-clean held.clean (front_length room) (rw is_length at kept)

  -- it can be listed
  pub listing-held : HeldRows width height (part ++ drop n entries₁) rows
  listing-held = held-written room n is_length part clean-part

  -- and is what became object
  pub listing-added : {image₁ queue queue₁ : List ℕ} {len : ℕ} →
      image₁ ≡ unpacked_words width height (front_rows width height rows) →
      Extended queue 0
      (select
      (λ i. eqb (get_or (unpacked_words width height (front_rows width height (part ++ drop n entries₁))) i 0) 1)
      (positions width height))
      queue₁ len →
      Extended queue 0 (added width height image image₁) queue₁ len
  listing-added is listed =
      let front = front-written width height part (drop n entries₁) clean-part.size in
      let pixels = kept-added held.clean (front_length room) (rw is_length at kept) binary packed in
      rw (is, ← pixels) (rw front at listed)

-- ---- the queue engine

-- the rule that turns background to object inside a mask
abbrev pub bounded : ℕ → ℕ → ℕ → Rule
bounded width height connectivity =
    record { width = width; height = height; connectivity = connectivity; old = 0; new = 1; allowed = 1 }

module _ {width height connectivity : ℕ} {mask image queue : List ℕ} {len : ℕ}
    (g : Grounded width height connectivity mask image queue len) where
  abbrev rule : Rule
  rule = bounded width height connectivity

  -- it fits the image
  fits : Fits rule mask image
  fits =
      record {
        valid = g.ready.valid;
        connected = g.linking;
        differs = λ e. omega (arith, e);
        pixels = g.ready.binary.pixels;
        masked = inr g.masked.pixels;
      }

  -- which pixels are object after the iteration
  once-iff : (k : ℕ) → k < width * height →
      (get_or image k 0 ≡ 1)
      ↔ ((get_or mask k 0 ≡ 1)
      × ((get_or g.before k 0 ≡ 1)
      ⊎ ((j : ℕ) × Adjacent width height connectivity k j × (get_or g.before j 0 ≡ 1))))
  once-iff k l =
      rw g.once (propagate_once-iff width height connectivity mask g.before g.binary.bits k l)

  -- the object pixels are inside the mask
  within-mask : (k : ℕ) → get_or image k 0 ≡ 1 → get_or mask k 0 ≡ 1
  within-mask k e =
      by-lt k (width * height)
      (λ l. ((once-iff k l).0 e).0)
      (λ l.
      let past : length image ≤ k = omega (arith, g.ready.binary.pixels) in
      absurd (omega (arith, get_or-eq_default image 0 {n = k} past)))

  -- what stands at the queue's front
  front-iff : (k : ℕ) →
      (any (eqb k) (take len queue) ≡ true) ↔ ((k < width * height) × (is_added g.before image k ≡ true))
  front-iff = rw g.listed (added-iff width height g.before image)

  -- a pixel that is open is inside the mask and background
  open-cases : (k : ℕ) → k < width * height → is_open rule mask image k ≡ true →
      (get_or mask k 0 ≡ 1) × (get_or image k 0 ≡ 0)
  open-cases k l o =
      let is = is_open-masked rule mask (omega (arith, g.masked.pixels)) image k in (
        eqb-true (get_or mask k 0) 1 (and_right (eqb (get_or image k 0) 0) _ (sym is ∙ o)),
        is_open-old rule mask image k o,
      )

  -- the queue has room behind them
  pub grounded-stretch : Stretch (bounded width height connectivity) mask image queue 0 len
  unfolding open_count added
  grounded-stretch =
      record {
        fits = fits;
        room =
            let both = apart-le (is_added g.before image) (is_open rule mask image)
            (λ k e. is_open-other rule mask image k (λ z. omega (arith, ((is_added-iff g.before image k).0 e).0)))
            (width * height) in
            rw g.ready.binary.pixels (omega (arith, both, g.counted, g.ready.room));
        ordered = zero-le;
        entries = λ k a b.
            let size : length (take len queue) ≡ len = ap length g.listed ∙ sym g.counted in
            let m = rw (get_or-take len queue k 0 b) at (member-get_or (take len queue) k (omega (arith, size))) in
            omega (arith, g.ready.binary.pixels, ((front-iff (get_or queue k 0)).0 m).0);
      }

  -- an open pixel next to an object pixel is next to one of them
  grounded-frontier : Frontier rule mask (is_new rule image) image (take len queue)
  grounded-frontier =
      record {
        inside = λ k m. ((front-iff k).0 m).0;
        is_active = λ k m.
            eq-eqb (get_or image k 0) 1 ((is_added-iff g.before image k).0 ((front-iff k).0 m).1).0;
        held = λ k l e.
            is_open-other rule mask image k (λ z. omega (arith, eqb-true (get_or image k 0) 1 e));
        covers = λ k j l o a e.
            let lj = adjacent-lt width height connectivity a in
            let (inside, background) = open-cases k l o in
            by-eq (get_or g.before j 0) 1
            (λ b.
            let object = (once-iff k l).1 (inside, inr (j, a, b)) in
            absurd (omega (arith, object, background)))
            (λ d.
            let new = (is_added-iff g.before image j).1 (eqb-true (get_or image j 0) 1 e, d) in
            (around-iff width height connectivity (take len queue) k).1
            (j, (front-iff j).1 (lj, new), adjacent-sym width height connectivity g.linking l a));
      }

  module _ {n : ℕ} {image' queue' : List ℕ} {growth : Growth}
      (grown : Grown (bounded width height connectivity) mask image queue 0 len n image' queue' growth) where
    -- the layers reach what the iterations reach
    run : Reached rule mask (is_new rule image) image n image' grown.last grown.total growth.used
    run = layered-reach rule mask (is_new rule image) image fits grounded-frontier grown.layered

    -- so they are further iterations
    pub grounded-image : image' ≡ iterate (propagate_once width height connectivity mask) n image
    grounded-image =
        reached-image rule mask image refl g.ready.binary run
        ∙ sym (propagate-reach rule mask image refl refl refl g.masked g.ready.binary within-mask n)

    pub grounded-used : growth.used ≡ least_iterations (propagate_once width height connectivity mask) n image
    grounded-used =
        run.used
        ∙ sym (propagate-used rule mask image refl refl refl g.masked g.ready.binary within-mask n)

-- ---- the hand-over

module _ {width height connectivity : ℕ} {mask image queue rows entries : List ℕ}
    (h : Handing width height connectivity mask image queue rows entries) where
  -- an iteration, and the image of the rows
  abbrev f : List ℕ → List ℕ
  f = propagate_once width height connectivity mask

  abbrev start : List ℕ
  start = unpacked_words width height (front_rows width height rows)

  -- the image is of the crop, and of 0 and 1
  valid : ValidSize width height
  valid = h.held.in_room.valid

  start-binary : Binary width height start
  start-binary = unpacked-binary word_bits width height (front_rows width height rows)

  once-binary : Binary width height (f start)
  once-binary = propagate_once-binary width height connectivity mask start start-binary

  -- an image comes back from its packed rows
  back : {xs : List ℕ} → Binary width height xs → unpacked_words width height (packed_words width height xs) ≡ xs
  back b = unpacked-clean valid b refl

  module _ {n : ℕ} (is_length : n ≡ words_length width height) where
    -- what the iteration on words asks
    pub handing-rows : Propagatable width height (take n rows) (take n entries) connectivity
    handing-rows =
        rw is_length
        (record {
          clean = h.held.clean;
          masked = clean-packed valid h.masked h.bounds;
          linking = h.linking;
        })

    module _ {part : List ℕ}
        (grown : part
        ≡ packed_words width height
        (iterate (propagate_once width height connectivity (unpacked_words width height (take n entries))) 1
        (unpacked_words width height (take n rows)))) where
      -- it leaves the rows of the image after it
      handing-part : part ≡ packed_words width height (f start)
      unfolding iterate
      handing-part = rw (is_length, h.bounds, back h.masked) at grown

      pub handing-held : HeldRows width height (part ++ drop n rows) entries
      handing-held =
          held-written h.held.in_room n is_length part (clean-packed valid once-binary handing-part)

      module _ {image₁ image₂ queue₁ : List ℕ} {len : ℕ}
          (before : image₁ ≡ unpacked_words width height (front_rows width height rows))
          (after : image₂ ≡ unpacked_words width height (front_rows width height (part ++ drop n rows)))
          (listed : Extended queue 0 (added width height image₁ image₂) queue₁ len) where
        -- the image after it
        handing-once : image₂ ≡ f start
        handing-once =
            let size : length part ≡ words_length width height =
            ap length handing-part ∙ length-packed word_bits width height (f start) in
            let front = front-written width height part (drop n rows) size in
            after ∙ ap (unpacked_words width height) (front ∙ handing-part) ∙ back once-binary

        handing-binary : Binary width height image₂
        handing-binary = rw handing-once once-binary

        -- what the further iterations ask
        pub handing-grounded : Grounded width height connectivity mask image₂ queue₁ len
        handing-grounded =
            record {
              ready =
                  record {
                    valid = valid;
                    binary = handing-binary;
                    room = omega (arith, listed.size, h.room);
                  };
              linking = h.linking;
              masked = h.masked;
              before = image₁;
              binary = rw before start-binary;
              once = handing-once ∙ ap f (sym before);
              counted = omega (arith, listed.counted);
              listed = listed.front;
            }

        module _ (iterations : ℕ) {image₃ : List ℕ}
            (further : image₃
            ≡ iterate (propagate_once width height connectivity mask) (iterations - 1) image₂) where
          -- they leave pixels of 0 and 1
          pub handing-packable : Packable width height image₃
          handing-packable =
              record {
                valid = valid;
                binary =
                    rw further
                    (run-binary width height connectivity mask image₂ handing-binary (iterations - 1));
              }

          -- all of them, and how many change anything
          pub handing-iterated : {first more : ℕ} (rows' : List ℕ) → 1 ≤ iterations →
              first
              ≡ least_iterations
              (propagate_once width height connectivity (unpacked_words width height (take n entries))) 1
              (unpacked_words width height (take n rows)) →
              more ≡ least_iterations (propagate_once width height connectivity mask) (iterations - 1) image₂ →
              front_rows width height rows' ≡ packed_words width height image₃ →
              RowsIterated width height connectivity iterations mask rows rows' (first + more)
          unfolding iterate
          handing-iterated rows' some is_first is_more packed =
              let n : suc (iterations - 1) ≡ iterations = omega arith in
              let one = rw (is_length, h.bounds, back h.masked) at is_first in
              let others = rw handing-once at is_more in
              record {
                packed =
                    packed
                    ∙ ap (packed_words width height)
                    (rw (← n) (further ∙ ap (iterate f (iterations - 1)) handing-once));
                counted =
                    rw (← n)
                    (ap₂ ◌+◌ one others
                    ∙ sym (count-first width height connectivity mask start start-binary (iterations - 1)));
              }
