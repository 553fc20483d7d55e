-- Laws of how a propagation begins (`shared_area` and `Began` of `specs/Propagation.antt`), and of the pixels that it
-- changes.
--   shared_area-total                 the shared pixels are the lesser of each two, added up
--   shared_rows, get_or-shared_rows   the words that two packed images share
--   shared_area-ones                  their ones are the shared pixels
--   changed-shared                    how many pixels differ, where those in the mask stay and none outside it is left
--   changed-propagated                the same of an image and of a propagation of it
--   doing, began-none, began-more     some iterations, not known to be all; none, and some more
--   began-rest                        the others lead on from there
--   began-binary                      the image after the first ones is of 0 and 1
--   all-when-whole, all-when-fewer    no other changes anything: none is left; one changed nothing
--   began-ended, began-least          how many of all iterations change anything
--   counted-le                        no more iterations change anything than there are
--   stretch-clean .. stretch-whole    some more iterations, on packed rows: the rows behind them, and how many are done
-- Not here: how many iterations of a run change anything (`count-is` of `PropagationLaws.antt`).
-- Assumes nothing.
use Prim.Native.Nat.{ℕ, zero, suc, ◌+◌, ◌-◌, ◌*◌, ◌/◌, ◌%◌, ◌≤◌, ◌<◌, min}
use mathlib.Core.Path.{◌≡◌, refl, sym, ap, ap₂, ◌∙◌}
use mathlib.Core.Bool.{Bool, true, false, not, ◌&&◌, false≢true}
use mathlib.Core.List.{List}
use mathlib.Core.Logic.{inl}
use native.Mathlib.Omega.{arith}
use lib.Bits.{bit_and, and_le_l}
use lib.Dec.{eqb}
use lib.ListN.{length, get_or, get_or-eq_default}
use Rattle.lists.specs.Lists.{tabulate, iterate, occurrences, bit}
use Rattle.lists.proofs.BoolLaws.{by-lt, by-eq}
use Rattle.lists.proofs.ListLaws.{length-tabulate, get_or-tabulate, get_or-tabulate-out}
use Rattle.lists.proofs.IterateLaws.{iterate-suc, iterate-add, iterate-keeps}
use Rattle.neighbours.specs.Crop.{ValidSize, Binary}
use Rattle.neighbours.specs.Grid.{column, row}
use Rattle.neighbours.specs.Packed.{packed_pixel}
use Rattle.neighbours.specs.Words.{word_bits}
use Rattle.neighbours.proofs.PositionLaws.{position-column-row, column-lt, row_lt, width-pos}
use Rattle.neighbours.proofs.PackedLaws.{Units, packed_pixel-is, get_or-unpacked, unpacked-binary}
use Rattle.neighbours.proofs.WordLaws.{bit-and}
use Rattle.model.specs.Steps.{propagate_once}
use Rattle.model.specs.Operations.{changed, least_iterations}
use Rattle.model.specs.Words.{row_words, packed_words, unpacked_words}
use Rattle.theorems.proofs.StepLaws.{propagate_once-iff}
use Rattle.theorems.proofs.OperationLaws.{least_iterations-reaches, least_iterations-le, least_iterations-least}
use Rattle.theorems.proofs.OperationLaws.{least_iterations-is}
use Rattle.theorems.proofs.WordClaims.{unused-clear-iff}
use Rattle.words.specs.Frame.{ones_sum, Clean}
use Rattle.words.proofs.AreaLaws.{total, total-same, total-sum, length-select-total, occurrences-total, ones_sum-area}
use Rattle.words.proofs.OperatedLaws.{clean-packed, unpacked-clean}
use Rattle.propagation.specs.declared.Begun.{Begun}
use Rattle.propagation.specs.Propagation.{shared_area, Began}
use Rattle.propagation.proofs.PropagationLaws.{run-binary, within_step, rests, count-is, iterate-stays}

-- ---- shared pixels

-- the shared pixels of two images of 0 and 1 are the lesser of each two, added up
pub shared_area-total : (n : ℕ) (image mask : List ℕ) → length image ≡ n →
    ((i : ℕ) → get_or image i 0 ≤ 1) → ((i : ℕ) → get_or mask i 0 ≤ 1) →
    shared_area image mask ≡ total (λ i. min (get_or image i 0) (get_or mask i 0)) n
unfolding shared_area
shared_area-total n image mask size bits bits' =
    rw size
    (length-select-total (λ i. eqb (get_or image i 0) 1 && eqb (get_or mask i 0) 1) n
    ∙ total-same _ _ n (λ i l. both (get_or image i 0) (get_or mask i 0) (bits i) (bits' i)))
  where
    both : (v w : ℕ) → v ≤ 1 → w ≤ 1 → bit (eqb v 1 && eqb w 1) ≡ min v w
    both zero w l h = omega arith
    both (suc zero) zero l h = refl
    both (suc zero) (suc zero) l h = refl
    both (suc zero) (suc (suc w)) l h = absurd (omega arith)
    both (suc (suc v)) w l h = absurd (omega arith)

-- the words that two packed images share
unfoldable pub shared_rows : List ℕ → List ℕ → List ℕ
shared_rows words mask = tabulate (length words) (λ i. bit_and (get_or words i 0) (get_or mask i 0))

module _ (words mask : List ℕ) where
  -- a word of them
  pub get_or-shared_rows : (i : ℕ) → get_or (shared_rows words mask) i 0 ≡ bit_and (get_or words i 0) (get_or mask i 0)
  unfolding shared_rows
  get_or-shared_rows i =
      by-lt i (length words) (λ l. get_or-tabulate (length words) _ i l)
      (λ l. get_or-tabulate-out (length words) _ i l ∙ rw (get_or-eq_default words 0 l) refl)

  length-shared_rows : length (shared_rows words mask) ≡ length words
  unfolding shared_rows
  length-shared_rows = length-tabulate (length words) _

  -- a pixel of them
  packed_pixel-shared : (width x y : ℕ) →
      packed_pixel word_bits width (shared_rows words mask) x y
      ≡ min (packed_pixel word_bits width words x y) (packed_pixel word_bits width mask x y)
  packed_pixel-shared width x y =
      let i = y * row_words width + x / 64 in
      packed_pixel-is word_bits width (shared_rows words mask) x y
      ∙ rw (get_or-shared_rows i) (bit-and (get_or words i 0) (get_or mask i 0) (x % 64))
      ∙ sym (ap₂ min (packed_pixel-is word_bits width words x y) (packed_pixel-is word_bits width mask x y))

  module _ (width height : ℕ) (clean : Clean width height words) (small : Units word_bits words) where
    -- they are clean
    clean-shared : Clean width height (shared_rows words mask)
    clean-shared =
        record {
          valid = clean.valid;
          size = length-shared_rows ∙ clean.size;
          clear =
              (unused-clear-iff width height (shared_rows words mask)).1
              (λ x y lx hx ly.
              let none = (unused-clear-iff width height words).0 clean.clear x y lx hx ly in
              omega (arith, packed_pixel-shared width x y, none));
        }

    -- their ones are the shared pixels
    pub shared_area-ones : ones_sum (length words) (shared_rows words mask)
        ≡ shared_area (unpacked_words width height words) (unpacked_words width height mask)
    shared_area-ones =
        let n = width * height in
        let image = unpacked-binary word_bits width height words in
        let within = unpacked-binary word_bits width height mask in
        let shared = unpacked-binary word_bits width height (shared_rows words mask) in
        let units : Units word_bits (shared_rows words mask) =
        λ i. rw (get_or-shared_rows i) (omega (arith, and_le_l (get_or words i 0) (get_or mask i 0), small i)) in
        ap (λ (k : ℕ). ones_sum k (shared_rows words mask)) (sym length-shared_rows)
        ∙ ones_sum-area width height (shared_rows words mask) clean-shared units
        ∙ occurrences-total n _ shared.pixels shared.bits
        ∙ total-same _ _ n pixel
        ∙ sym (shared_area-total n _ _ image.pixels image.bits within.bits)
      where
        pixel : (i : ℕ) → i < width * height →
            get_or (unpacked_words width height (shared_rows words mask)) i 0
            ≡ min (get_or (unpacked_words width height words) i 0) (get_or (unpacked_words width height mask) i 0)
        pixel i l =
            let wide : 0 < width = width-pos width height l in
            let lx = column-lt width i wide in
            let ly = row_lt width height i wide l in
            let at = get_or-unpacked word_bits width height in
            rw (position-column-row width i) at
            (at (shared_rows words mask) (column width i) (row width i) lx ly
            ∙ packed_pixel-shared width (column width i) (row width i)
            ∙ sym
            (ap₂ min (at words (column width i) (row width i) lx ly) (at mask (column width i) (row width i) lx ly)))

-- ---- changed pixels

-- Where pixels in the mask stay and none outside it is left, the pixels that differ and twice the shared ones are the
-- areas together
pub changed-shared : (width height : ℕ) (before after mask : List ℕ) → Binary width height before →
    Binary width height after → Binary width height mask →
    ((i : ℕ) → get_or after i 0 ≤ get_or mask i 0) →
    ((i : ℕ) → min (get_or before i 0) (get_or mask i 0) ≤ get_or after i 0) →
    changed width height before after + 2 * shared_area before mask ≡ occurrences 1 before + occurrences 1 after
unfolding changed
changed-shared width height before after mask b a m inside stays =
    let n = width * height in
    let differs : ℕ → Bool = λ i. not (eqb (get_or before i 0) (get_or after i 0)) in
    let both : ℕ → ℕ = λ i. min (get_or before i 0) (get_or mask i 0) in
    let sum : ℕ → ℕ = λ i. get_or before i 0 + get_or after i 0 in
    omega (
      arith,
      length-select-total differs n,
      shared_area-total n before mask b.pixels b.bits m.bits,
      occurrences-total n before b.pixels b.bits,
      occurrences-total n after a.pixels a.bits,
      total-sum both both (λ i. both i + both i) n (λ i l. refl),
      total-sum (λ i. get_or before i 0) (λ i. get_or after i 0) sum n (λ i l. refl),
      total-sum (λ i. bit (differs i)) (λ i. both i + both i) sum n
          (λ i l. one (get_or before i 0) (get_or after i 0) (get_or mask i 0) (b.bits i) (m.bits i) (inside i)
          (stays i)),
    )
  where
    one : (x y z : ℕ) → x ≤ 1 → z ≤ 1 → y ≤ z → min x z ≤ y →
        bit (not (eqb x y)) + (min x z + min x z) ≡ x + y
    one zero zero z l h p q = omega arith
    one zero (suc zero) z l h p q = omega arith
    one zero (suc (suc y)) z l h p q = absurd (omega arith)
    one (suc zero) zero z l h p q = omega arith
    one (suc zero) (suc zero) z l h p q = omega arith
    one (suc zero) (suc (suc y)) z l h p q = absurd (omega arith)
    one (suc (suc x)) y z l h p q = absurd (omega arith)

module _ (width height connectivity : ℕ) (mask : List ℕ) where
  -- an iteration
  abbrev f : List ℕ → List ℕ
  f = propagate_once width height connectivity mask

  -- an image that holds what the first one shares with the mask
  record Holding (first image : List ℕ) : Type 0 where
    binary : Binary width height image
    holds : (i : ℕ) → min (get_or first i 0) (get_or mask i 0) ≤ get_or image i 0

  module _ (image : List ℕ) (b : Binary width height image) (m : Binary width height mask) where
    -- an iteration leaves one
    holding-step : (now : List ℕ) → Holding image now → Holding image (f now)
    holding-step now h =
        record { binary = propagated; holds = λ i. by-lt i (width * height) (kept i) (λ l. none i l) }
      where
        propagated : Binary width height (f now)
        propagated = (within_step width height connectivity mask now h.binary).binary

        kept : (i : ℕ) → i < width * height → min (get_or image i 0) (get_or mask i 0) ≤ get_or (f now) i 0
        kept i l =
            by-eq (min (get_or image i 0) (get_or mask i 0)) 1
            (λ e.
            let set = (propagate_once-iff width height connectivity mask now h.binary.bits i l).1
            (omega (arith, e, m.bits i), inl (omega (arith, e, h.holds i, h.binary.bits i))) in
            omega (arith, set, e))
            (λ d. omega (arith, m.bits i))

        none : (i : ℕ) → width * height ≤ i → min (get_or image i 0) (get_or mask i 0) ≤ get_or (f now) i 0
        none i l = omega (arith, get_or-eq_default image 0 {n = i} (omega (arith, l, b.pixels)))

    run-holding : (n : ℕ) → Holding image (iterate f n image)
    run-holding n =
        iterate-keeps (Holding image) f holding-step n image (record { binary = b; holds = λ i. omega arith })

    -- after an iteration nothing outside the mask is left
    run_inside : (n : ℕ) → 1 ≤ n → (i : ℕ) → get_or (iterate f n image) i 0 ≤ get_or mask i 0
    run_inside zero l i = absurd (omega arith)
    run_inside (suc n) l i =
        let within = within_step width height connectivity mask (iterate f n image)
        (run-binary width height connectivity mask image b n) in
        rw (iterate-suc f n image)
        (by-lt i (width * height)
        (λ inside.
        by-eq (get_or (f (iterate f n image)) i 0) 1
        (λ e. omega (arith, e, within.inside i inside e))
        (λ d. omega (arith, within.binary.bits i)))
        (λ outside.
        omega (
          arith,
          get_or-eq_default (f (iterate f n image)) 0 {n = i} (omega (arith, outside, within.binary.pixels)),
        )))

    -- the pixels that differ after a propagation and twice the shared ones are the areas together
    pub changed-propagated : (n : ℕ) → 1 ≤ n →
        changed width height image (iterate f n image) + 2 * shared_area image mask
        ≡ occurrences 1 image + occurrences 1 (iterate f n image)
    changed-propagated n l =
        changed-shared width height image (iterate f n image) mask b (run-holding n).binary m (run_inside n l)
        (run-holding n).holds

-- ---- the first iterations

-- the iterations that are done, not known to be all
abbrev pub doing : ℕ → Begun
doing used = record { used = used; ended = false }

-- none
pub began-none : (f : List ℕ → List ℕ) (n : ℕ) (image : List ℕ) → Began f n image image (doing 0)
unfolding iterate
began-none f n image =
    record {
      within = omega arith;
      pictured = refl;
      moving = λ j l. absurd (omega arith);
      ended = λ e. absurd (false≢true e);
    }

-- the image after more iterations, from the one after the first
after_first : (f : List ℕ → List ℕ) (first m all : ℕ) (image image' : List ℕ) → first + m ≡ all →
    image' ≡ iterate f first image → iterate f m image' ≡ iterate f all image
after_first f first m all image image' sum e = rw (e, ← sum) (sym (iterate-add f first m image))

module _ (f : List ℕ → List ℕ) (n : ℕ) {image image' : List ℕ} {begun : Begun}
    (began : Began f n image image' begun) where
  -- the others lead on from there
  pub began-rest : iterate f n image ≡ iterate f (n - begun.used) image'
  began-rest =
      let sum : begun.used + (n - begun.used) ≡ n = omega (arith, began.within) in
      sym (after_first f begun.used (n - begun.used) n image image' sum began.pictured)

  -- some more, of m at most
  pub began-more : (m : ℕ) {more : ℕ} {image'' : List ℕ} (ended : Bool) → begun.used + m ≤ n →
      image'' ≡ iterate f m image' → more ≡ least_iterations f m image' →
      (ended ≡ true → image'' ≡ iterate f n image) →
      Began f n image image'' (record { used = begun.used + more; ended = ended })
  began-more m {more} ended room e count all =
      let most = least_iterations-le f m image' in
      let reached = least_iterations-reaches f m image' in
      record {
        within = omega (arith, most, count, room);
        pictured =
            e ∙ sym (rw (← count) at reached)
            ∙ after_first f begun.used more (begun.used + more) image image' refl began.pictured;
        moving = λ j l q. by-lt j begun.used (λ h. began.moving j h q) (λ h. later j l h q);
        ended = all;
      }
    where
      later : (j : ℕ) → j < begun.used + more → begun.used ≤ j →
          iterate f (suc j) image ≡ iterate f j image → ⊥
      later j l h q =
          let k = j - begun.used in
          let here = after_first f begun.used k j image image' (omega arith) began.pictured in
          let next = after_first f begun.used (suc k) (suc j) image image' (omega arith) began.pictured in
          let within : k ≤ m = omega (arith, l, h, count, least_iterations-le f m image') in
          least_iterations-least f m image' k (omega (arith, l, h, count))
          (sym (iterate-stays f image' k m within (next ∙ q ∙ sym here)))

  -- which are all of them where they fill the number up
  pub all-when-whole : (m : ℕ) {image'' : List ℕ} → begun.used + m ≡ n →
      image'' ≡ iterate f m image' → image'' ≡ iterate f n image
  all-when-whole m sum e = e ∙ after_first f begun.used m n image image' sum began.pictured

module _ (width height connectivity : ℕ) (mask : List ℕ) (n : ℕ) {image image' : List ℕ} {begun : Begun}
    (binary : Binary width height image)
    (began : Began (propagate_once width height connectivity mask) n image image' begun) where
  -- the image after the first ones is of 0 and 1
  pub began-binary : Binary width height image'
  began-binary = rw began.pictured (run-binary width height connectivity mask image binary begun.used)

  -- and where fewer than m changed something, none behind them does
  pub all-when-fewer : (m : ℕ) {image'' : List ℕ} → begun.used + m ≤ n →
      image'' ≡ iterate (propagate_once width height connectivity mask) m image' →
      least_iterations (propagate_once width height connectivity mask) m image' < m →
      image'' ≡ iterate (propagate_once width height connectivity mask) n image
  all-when-fewer m room e fewer =
      let g = propagate_once width height connectivity mask in
      let more = least_iterations g m image' in
      let reached = least_iterations-reaches g m image' in
      let rest = rests width height connectivity mask image' began-binary more m fewer reached in
      e ∙ sym reached ∙ sym (iterate-stays g image' more (n - begun.used) (omega (arith, fewer, room)) rest)
      ∙ sym (began-rest g n began)

  -- if they are all, their number is the least
  pub began-ended : begun.ended ≡ true →
      least_iterations (propagate_once width height connectivity mask) n image ≡ begun.used
  began-ended e =
      sym
      (count-is width height connectivity mask image binary n begun.used began.within
      (sym began.pictured ∙ began.ended e) began.moving)

  -- in any case the number of the others comes on top
  pub began-least : least_iterations (propagate_once width height connectivity mask) n image
      ≡ begun.used + least_iterations (propagate_once width height connectivity mask) (n - begun.used) image'
  began-least =
      let g = propagate_once width height connectivity mask in
      let first = begun.used in
      let m = least_iterations g (n - first) image' in
      least_iterations-is g n image (first + m)
      (omega (arith, began.within, least_iterations-le g (n - first) image'))
      (sym (after_first g first m (first + m) image image' refl began.pictured)
      ∙ least_iterations-reaches g (n - first) image'
      ∙ sym (began-rest g n began))
      (λ k l e.
      by-lt k first
      (λ h.
      began.moving k h (rests width height connectivity mask image binary k n (omega (arith, began.within)) e))
      (λ h.
      least_iterations-least g (n - first) image' (k - first) (omega arith)
      (after_first g first (k - first) k image image' (omega arith) began.pictured ∙ e
      ∙ began-rest g n began)))

-- ---- a stretch of iterations on packed rows

-- no more change anything than there are
pub counted-le : (f : List ℕ → List ℕ) (image : List ℕ) {m more : ℕ} → more ≡ least_iterations f m image → more ≤ m
counted-le f image {m} count = omega (arith, count, least_iterations-le f m image)

module _ (width height connectivity m : ℕ) (mask words : List ℕ) {words' : List ℕ} (valid : ValidSize width height)
    (rows : words'
    ≡ packed_words width height
    (iterate (propagate_once width height connectivity (unpacked_words width height mask)) m
    (unpacked_words width height words))) where
  -- an iteration
  abbrev once : List ℕ → List ℕ
  once = propagate_once width height connectivity (unpacked_words width height mask)

  binary-ran : Binary width height (iterate once m (unpacked_words width height words))
  binary-ran = run-binary width height connectivity _ _ (unpacked-binary word_bits width height words) m

  unpacked-ran : unpacked_words width height words' ≡ iterate once m (unpacked_words width height words)
  unpacked-ran = unpacked-clean valid binary-ran rows

  -- the rows behind it are clean
  pub stretch-clean : Clean width height words'
  stretch-clean = clean-packed valid binary-ran rows

  module _ (words₀ : List ℕ) {n used more : ℕ}
      (began : Began (propagate_once width height connectivity (unpacked_words width height mask)) n
      (unpacked_words width height words₀) (unpacked_words width height words) (doing used))
      (count : more
      ≡ least_iterations (propagate_once width height connectivity (unpacked_words width height mask)) m
      (unpacked_words width height words)) where
    -- so many iterations are done then
    pub stretch-open : used + m ≤ n →
        Began (propagate_once width height connectivity (unpacked_words width height mask)) n
        (unpacked_words width height words₀) (unpacked_words width height words') (doing (used + more))
    stretch-open room = began-more once n began m false room unpacked-ran count (λ e. absurd (false≢true e))

    -- which are all where fewer than m changed something
    pub stretch-fewer : used + m ≤ n → more < m →
        Began (propagate_once width height connectivity (unpacked_words width height mask)) n
        (unpacked_words width height words₀) (unpacked_words width height words')
        (record { used = used + more; ended = true })
    stretch-fewer room fewer =
        began-more once n began m true room unpacked-ran count
        (λ e.
        all-when-fewer width height connectivity _ n (unpacked-binary word_bits width height words₀) began m room
        unpacked-ran (omega (arith, fewer, count)))

    -- and where no more than m were left
    pub stretch-whole : used + m ≡ n →
        Began (propagate_once width height connectivity (unpacked_words width height mask)) n
        (unpacked_words width height words₀) (unpacked_words width height words')
        (record { used = used + more; ended = true })
    stretch-whole sum =
        began-more once n began m true (omega (arith, sum)) unpacked-ran count
        (λ e. all-when-whole once n began m sum unpacked-ran)
