-- Room in the queue, and the contour in hand as what the engine starts from, for any rule with or without a
-- mask. Assumes nothing.
--   open_count-le               at most every pixel is open
--   open_count-contour          the contour and the open pixels are at most as many as the crop has pixels
--   hand_once, hand-other       each position of the contour stands at the queue's front once, and no other
--   hand-member                 so a position stands there exactly if it is on the contour
--   hand-le, hand-within        they are at most as many as pixels, and as entries of the queue
--   hand-inside, hand-entries   they are positions of the crop
--   length-once-apart           a list of distinct positions and other positions are together at most all
--   member-front                an entry at a queue's front is a member of the front
--   hand-room                   behind the contour in hand there is room for all background pixels
--   to_object                   the rule that turns background to object, without a mask
--   hand-stretch                a rule that turns background to object can start from them
--   hand-frontier               and they are a frontier of the object pixels
use Prim.Native.Nat.{ℕ, ◌+◌, ◌*◌, ◌≤◌, ◌<◌, zero-le}
use mathlib.Core.Path.{◌≡◌, refl, sym, ap, ap₂, ◌∙◌}
use mathlib.Core.Bool.{Bool, true, false, ◌||◌}
use mathlib.Core.List.{List, ◌++◌, []}
use native.Mathlib.Omega.{arith}
use lib.Dec.{eqb}
use lib.ListN.{length, get_or, take, length-append}
use lib.Seq.{length-take-le, get_or-take}
use Rattle.lists.specs.Lists.{range, select, any, occurrences, bit}
use Rattle.lists.proofs.BoolLaws.{by-test, by-lt, bool_same, bit_le, bit-one}
use Rattle.lists.proofs.ListLaws.{length-select-count_from-le, occurrences-append, occurrences-select}
use Rattle.lists.proofs.ListLaws.{occurrences-select-out}
use Rattle.lists.proofs.ListLaws.{length-once, member-get_or, member-occurs, occurs-member}
use Rattle.neighbours.specs.Contour.{on_contour, contour}
use Rattle.neighbours.proofs.ContourLaws.{on_contour-object, occurrences-contour, occurrences-contour-out}
use Rattle.neighbours.proofs.ContourLaws.{length-contour-le, on_contour-iff}
use Rattle.engine.specs.declared.Rule.{Rule}
use Rattle.engine.specs.Spread.{is_open, open_count, Fits, Stretch}
use Rattle.neighbours.specs.Crop.{Ready}
use Rattle.operations.specs.Inner.{InHand}
use Rattle.engine.proofs.FrontierLaws.{open_count-unmasked, area, is_new, Frontier, is_open-other, contour-frontier}
use mathlib.Core.Logic.{inl}
use Rattle.neighbours.specs.Grid.{is_connectivity}

-- ---- how many pixels are open

-- of two tests that do not both hold, one is counted
bit-or : (a b : Bool) → (a ≡ true → b ≡ false) → bit a + bit b ≡ bit (a || b)
bit-or true b h = omega (arith, ap bit (h refl))
bit-or false true h = refl
bit-or false false h = refl

module _ (rule : Rule) (mask image : List ℕ) where
  -- at most every pixel is open
  pub open_count-le : open_count rule mask image ≤ length image
  unfolding open_count
  open_count-le = length-select-count_from-le (is_open rule mask image) 0 (length image)

  -- the contour and the open pixels, where these are background, are at most as many as the crop has pixels
  pub open_count-contour : rule.old ≡ 0 → length image ≡ area rule →
      length (contour rule.width rule.height image) + open_count rule mask image ≤ area rule
  unfolding open_count
  open_count-contour old pixels =
      omega (
        arith,
        length-append border background,
        length-once (λ k. on k || free k) (area rule) (border ++ background) once other,
        length-select-count_from-le (λ k. on k || free k) 0 (area rule),
      )
    where
      on : ℕ → Bool
      on = on_contour rule.width rule.height image

      free : ℕ → Bool
      free = is_open rule mask image

      border : List ℕ
      border = contour rule.width rule.height image

      background : List ℕ
      background = select free (range (length image))

      apart : (k : ℕ) → on k ≡ true → free k ≡ false
      apart k e = is_open-other rule mask image k
          (λ o. omega (arith, on_contour-object rule.width rule.height image k e))

      once : (k : ℕ) → k < area rule → occurrences k (border ++ background) ≡ bit (on k || free k)
      once k l =
          occurrences-append k border background
          ∙ ap₂ ◌+◌ (occurrences-contour rule.width rule.height image k l)
          (occurrences-select free (length image) k (rw pixels l))
          ∙ bit-or (on k) (free k) (apart k)

      other : (k : ℕ) → area rule ≤ k → occurrences k (border ++ background) ≡ 0
      other k l =
          occurrences-append k border background
          ∙ omega (
            arith,
            occurrences-contour-out rule.width rule.height image k l,
            occurrences-select-out free (length image) k (rw pixels l),
          )

-- ---- the contour in hand

module _ {width height : ℕ} {image queue : List ℕ} {len : ℕ} (ready : Ready width height image queue)
    (hand : InHand width height image queue len) where
  -- each position of the contour stands there once
  pub hand_once : (i : ℕ) → i < width * height → occurrences i (take len queue) ≡ bit (on_contour width height image i)
  hand_once i l = hand.front i ∙ occurrences-contour width height image i l

  -- and no other number
  pub hand-other : (i : ℕ) → width * height ≤ i → occurrences i (take len queue) ≡ 0
  hand-other i l = hand.front i ∙ occurrences-contour-out width height image i l

  -- so a position stands there exactly if it is on the contour
  pub hand-member : (i : ℕ) → i < width * height → any (eqb i) (take len queue) ≡ on_contour width height image i
  hand-member i l =
      let on = on_contour width height image i in
      bool_same _ _ (λ m. bit-one on (omega (arith, hand_once i l, member-occurs i (take len queue) m, bit_le on)))
      (λ t. occurs-member i (take len queue) (omega (arith, hand_once i l, ap bit t)))

  -- there are at most as many as pixels
  pub hand-le : len ≤ width * height
  hand-le = omega (arith, hand.counted, length-contour-le width height image)

  -- so they are inside the queue
  pub hand-within : len ≤ length queue
  hand-within = omega (arith, hand-le, ready.room)

  -- each is a position of the crop
  pub hand-inside : (i : ℕ) → any (eqb i) (take len queue) ≡ true → i < width * height
  hand-inside i m =
      by-lt i (width * height) (λ l. l)
      (λ l. absurd (omega (arith, hand-other i l, member-occurs i (take len queue) m)))

  -- and so is each entry
  pub hand-entries : (k : ℕ) → k < len → get_or queue k 0 < width * height
  hand-entries k l =
      rw (← (get_or-take len queue k 0 l))
      (hand-inside _ (member-get_or (take len queue) k (omega (arith, length-take-le len queue hand-within))))

module _ {rule : Rule} {mask image queue : List ℕ} {len : ℕ} (fits : Fits rule mask image) (old : rule.old ≡ 0)
    (ready : Ready rule.width rule.height image queue)
    (hand : InHand rule.width rule.height image queue len) where
  -- a rule that turns background pixels can start from them
  pub hand-stretch : Stretch rule mask image queue 0 len
  hand-stretch =
      record {
        fits = fits;
        room = omega (arith, open_count-contour rule mask image old fits.pixels, hand.counted, ready.room);
        ordered = zero-le;
        entries = λ k a b. rw fits.pixels (hand-entries ready hand k b);
      }

  -- for one that turns them to object they are a frontier of the object pixels
  pub hand-frontier : rule.new ≡ 1 → Frontier rule mask (is_new rule image) image (take len queue)
  hand-frontier new =
      contour-frontier rule mask image (take len queue) fits (inl (old, new)) ready.binary.bits
      (λ k.
      let contoured = on_contour-iff rule.width rule.height image k in (
        λ m.
            let l = hand-inside ready hand k m in
            let e = contoured.0 (sym (hand-member ready hand k l) ∙ m) in
            (l, e.0 ∙ sym new, (e.1.0, e.1.1, e.1.2 ∙ sym old)),
        λ h. hand-member ready hand k h.0 ∙ contoured.1 (h.1 ∙ new, (h.2.0, h.2.1, h.2.2 ∙ old)),
      ))

-- ---- counting

-- a list that holds each of some numbers below n once, and other numbers below n: together at most n
pub length-once-apart : (f g : ℕ → Bool) (n : ℕ) (xs : List ℕ) → ((k : ℕ) → k < n → occurrences k xs ≡ bit (f k)) →
    ((k : ℕ) → n ≤ k → occurrences k xs ≡ 0) → ((k : ℕ) → f k ≡ true → g k ≡ true → ⊥) →
    length xs + length (select g (range n)) ≤ n
length-once-apart f g n xs once other apart =
    let ys = select g (range n) in
    let both = length-once (λ k. f k || g k) n (xs ++ ys)
    (λ k l.
    occurrences-append k xs ys
    ∙ ap₂ ◌+◌ (once k l) (occurrences-select g n k l)
    ∙ by-test (f k)
    (λ t. let u : g k ≡ false = by-test (g k) (λ u. absurd (apart k t u)) (λ u. u) in rw (t, u))
    (λ t. rw t (omega arith)))
    (λ k l. occurrences-append k xs ys ∙ omega (arith, other k l, occurrences-select-out g n k l)) in
    omega (arith, both, length-append xs ys, length-select-count_from-le (λ k. f k || g k) 0 n)

-- an entry at a queue's front is a member of the front
pub member-front : (len : ℕ) (queue : List ℕ) (k : ℕ) → len ≤ length queue → k < len →
    any (eqb (get_or queue k 0)) (take len queue) ≡ true
member-front len queue k room l =
    rw (get_or-take len queue k 0 l) at
    (member-get_or (take len queue) k (omega (arith, length-take-le len queue room)))

-- ---- the rule that turns background to object, without a mask

abbrev pub to_object : ℕ → ℕ → ℕ → Rule
to_object width height connectivity =
    record { width = width; height = height; connectivity = connectivity; old = 0; new = 1; allowed = 1 }

module _ {width height : ℕ} {image queue : List ℕ} {len : ℕ} (ready : Ready width height image queue)
    (hand : InHand width height image queue len) {connectivity : ℕ}
    (connected : is_connectivity connectivity ≡ true) where
  -- it fits
  pub to_object-fits : Fits (to_object width height connectivity) [] image
  to_object-fits =
      record {
        valid = ready.valid;
        connected = connected;
        differs = λ e. omega (arith, e);
        pixels = ready.binary.pixels;
        masked = inl refl;
      }

  -- it can start from the contour in hand
  pub to_object-stretch : Stretch (to_object width height connectivity) [] image queue 0 len
  to_object-stretch = hand-stretch to_object-fits refl ready hand

  -- which is a frontier of the object pixels
  pub to_object-frontier :
      Frontier (to_object width height connectivity) []
      (is_new (to_object width height connectivity) image) image (take len queue)
  to_object-frontier = hand-frontier to_object-fits refl ready hand refl

-- behind the contour in hand there is room for all background pixels
pub hand-room : {width height : ℕ} {image queue : List ℕ} {len : ℕ} → Ready width height image queue →
    InHand width height image queue len → len + occurrences 0 image ≤ length queue
hand-room {width} {height} {image} ready hand =
    omega (
      arith,
      open_count-contour (to_object width height 4) [] image refl ready.binary.pixels,
      open_count-unmasked (to_object width height 4) [] refl image,
      hand.counted,
      ready.room,
    )
