-- Laws of the positions of a unit's ones (`specs/Ones.antt`). Assumes nothing.
--   select-agree                       tests that agree select the same
--   ones_of-append                     the ones of a number are those of its upper bits and those of its lower
--   ones_of-moved                      they are moved on with the first pixel
--   length-ones_of-le                  there are no more than the unit has bits
--   ones_from-zero, length-ones_from   a word without ones has none; there are as many as are counted
--   ones_from-last, trailing_lt        the last of a word's ones, and those before it; it is one of the word's bits
--   ones_from-single, single_fits      a word with one; its position fits an entry, and there is room for it
--   Taken                              of a word's ones those of a number are still to be listed
--   taken_none .. taken-all            all are; the last of them, and whether one is left; it is written; none is left
--   extended-before                    the first of two stretches that are written
--   left_all, left_next, taken_left    entries that are left: all are; the last is taken, and so is one of the ones
--   compared-all, compared-long        positions that stand in a queue; positions that are too many
--   taken-same, taken-other            the next entry is the position of a word's last one, or is not
use Rattle.std.proofs.Common.{◌≡◌, ℕ, zero, suc, ◌+◌, ◌-◌, ◌*◌, ◌/◌, ◌%◌, ◌^◌, ◌<◌, ◌≤◌, Bool, eqb, List, [], ◌∷◌, ◌++◌}
use Rattle.std.proofs.Common.{length, get_or, take, drop, set, sym, refl, ap, ◌∙◌, ap₂, append_assoc, append-nil}
use Rattle.std.proofs.Common.{add-zero, pow-suc, add-one, arith, length-append, length-set, take-append-drop}
use Rattle.std.proofs.Common.{length-take-le, get_or-set_same, take-take, take_at, drop-set-lt, eqb-true}
use Rattle.std.proofs.lemmas.List.{drop-take, length-drop}
use Rattle.std.specs.Prelude.{Some, None}
use lib.Bits.{bit_and, and_step, and_self, and_le_r}
use lib.Count.{ones, ones_step, count_trailing_zeros}
use lib.Seq.{slice, slice_empty, slice-cons, take-set-le, take-set-lt}
use lib.Seq.{get_or-append_seam, set-get_or, append_snoc}
use Rattle.lists.specs.Lists.{select, count_from, Each}
use Rattle.lists.proofs.BoolLaws.{by-eq}
use Rattle.lists.proofs.ListLaws.{select-same, any-count_from-some, select-count_from-none, count_from-append}
use Rattle.lists.proofs.ListLaws.{select-append, select-count_from-moved, length-select-count_from-le, get_or-slice}
use Rattle.neighbours.specs.Crop.{Extended, moved}
use Rattle.neighbours.specs.Limits.{max_pixels}
use Rattle.neighbours.specs.Packed.{bit_at}
use Rattle.neighbours.specs.Words.{word_bits}
use Rattle.neighbours.proofs.BitLaws.{digit-above, digit-shr, digit-mod}
use Rattle.neighbours.proofs.ExtendedLaws.{slice-extended}
use Rattle.word_ones.specs.Ones.{ones_of, ones_from, ListableWord, Compared}

-- ---- selections

-- tests that agree on the numbers counted up select the same
pub select-agree : (f g : ℕ → Bool) (a n : ℕ) → ((k : ℕ) → k < n → f (a + k) ≡ g (a + k)) →
    select f (count_from a n) ≡ select g (count_from a n)
select-agree f g a n agree =
    select-same f g (count_from a n)
    (λ x m.
    let found = any-count_from-some (eqb x) a n m in
    let e : a + (x - a) ≡ x = omega (arith, eqb-true x found.0 found.3, found.1) in
    rw e at (agree (x - a) (omega (arith, eqb-true x found.0 found.3, found.1, found.2))))

-- ---- the ones of a unit

ones_of-zero : (unit at : ℕ) → ones_of unit at 0 ≡ []
unfolding ones_of
ones_of-zero unit at =
    select-count_from-none _ at unit
    (λ k l h. rw (digit-above 0 0 (unit - 1 - (k - at)) (omega arith) (omega arith)) refl)

-- the ones of a number are those of its upper bits and, behind them, those of its lower ones
pub ones_of-append : (upper lower at n : ℕ) →
    ones_of (upper + lower) at n ≡ ones_of upper at (n / 2 ^ lower) ++ ones_of lower (at + upper) (n % 2 ^ lower)
unfolding ones_of
ones_of-append upper lower at n =
    rw (count_from-append at upper lower, select-append)
    (ap₂ ◌++◌
    (select-agree _ _ at upper
    (λ k l.
    let e : at + k - at ≡ k = omega arith in
    let place : lower + (upper - 1 - k) ≡ upper + lower - 1 - k = omega arith in
    rw e (ap (λ (v : ℕ). eqb v 1) (sym (rw place at (digit-shr n lower (upper - 1 - k)))))))
    (select-agree _ _ (at + upper) lower
    (λ k l.
    let e : at + upper + k - at ≡ upper + k = omega arith in
    let f : at + upper + k - (at + upper) ≡ k = omega arith in
    let place : upper + lower - 1 - (upper + k) ≡ lower - 1 - k = omega arith in
    let whole : suc k + (lower - 1 - k) ≡ lower = omega arith in
    rw (e, f, place) (ap (λ (v : ℕ). eqb v 1) (sym (rw whole at (digit-mod n k (lower - 1 - k))))))))

-- so they are those of half the number and, where it is odd, the last bit's position
ones_of-odd : (unit at n : ℕ) → n % 2 ≡ 1 →
    ones_of (suc unit) at n ≡ ones_of unit at (n / 2) ++ (at + unit) ∷ []
unfolding ones_of select count_from
ones_of-odd unit at n odd =
    let first : at + unit - (at + unit) ≡ 0 = omega arith in
    rw add-one at (ones_of-append unit 1 at n) ∙ rw (odd, first) refl

ones_of-even : (unit at n : ℕ) → n % 2 ≡ 0 → ones_of (suc unit) at n ≡ ones_of unit at (n / 2)
ones_of-even unit at n even =
    rw add-one at (ones_of-append unit 1 at n) ∙ rw (even, ones_of-zero 1 (at + unit), append-nil) refl

-- they are moved on with the first pixel
pub ones_of-moved : (unit at n : ℕ) → ones_of unit at n ≡ moved at (ones_of unit 0 n)
unfolding ones_of
ones_of-moved unit at n =
    rw add-zero at
    (select-count_from-moved (λ i. eqb (bit_at unit n (i - at)) 1) (λ i. eqb (bit_at unit n (i - 0)) 1) at 0 unit
    (λ k _ l. let e : at + k - at ≡ k - 0 = omega arith in rw e refl))

-- no more than it has bits
pub length-ones_of-le : (unit at n : ℕ) → length (ones_of unit at n) ≤ unit
unfolding ones_of
length-ones_of-le unit at n = length-select-count_from-le _ at unit

-- as many as are counted
length-ones_of : (unit at n : ℕ) → n < 2 ^ unit → length (ones_of unit at n) ≡ ones n
unfolding ones_of ones
length-ones_of zero at n l = let e : n ≡ 0 = omega arith in rw (e, ones_of-zero 0 at) refl
length-ones_of (suc unit) at n l =
    let rest = length-ones_of unit at (n / 2) (omega (arith, pow-suc 2 unit)) in
    by-eq (n % 2) 1
    (λ odd. rw (ones_of-odd unit at n odd, length-append) (omega (arith, ones_step n, rest)))
    (λ other.
    let even : n % 2 ≡ 0 = omega arith in
    rw (ones_of-even unit at n even) (omega (arith, ones_step n, rest)))

-- a number and the one below it have the bits above its last one in common: that one is the last of the list
ones_of-last : (unit at n : ℕ) → n < 2 ^ unit → 0 < n →
    (count_trailing_zeros unit n < unit)
    × (ones_of unit at n ≡ ones_of unit at (bit_and n (n - 1)) ++ (at + (unit - 1 - count_trailing_zeros unit n)) ∷ [])
unfolding count_trailing_zeros
ones_of-last zero at n l pos = absurd (omega arith)
ones_of-last (suc unit) at n l pos =
    by-eq (n % 2) 1
    (λ odd.
    let half : (n - 1) / 2 ≡ n / 2 = omega arith in
    let even : (n - 1) % 2 ≡ 0 = omega arith in
    let less : bit_and n (n - 1) ≡ n - 1 =
    and_step n (n - 1) ∙ rw (half, odd, even, and_self (n / 2)) (omega arith) in
    let last : suc unit - 1 - 0 ≡ unit = omega arith in
    rw (odd, less, ones_of-odd unit at n odd, ones_of-even unit at (n - 1) even, half, last) (omega arith, refl))
    (λ other.
    let even : n % 2 ≡ 0 = omega arith in
    let half : (n - 1) / 2 ≡ n / 2 - 1 = omega arith in
    let odd : (n - 1) % 2 ≡ 1 = omega arith in
    let rest = ones_of-last unit at (n / 2) (omega (arith, pow-suc 2 unit)) (omega arith) in
    let less : bit_and n (n - 1) ≡ bit_and (n / 2) (n / 2 - 1) * 2 =
    and_step n (n - 1) ∙ rw (half, odd, even) (omega arith) in
    let halved : bit_and (n / 2) (n / 2 - 1) * 2 / 2 ≡ bit_and (n / 2) (n / 2 - 1) = omega arith in
    let zeros = count_trailing_zeros unit (n / 2) in
    let next : suc unit - 1 - suc zeros ≡ unit - 1 - zeros = omega arith in
    rw (even, less, ones_of-even unit at n even, ones_of-even unit at (bit_and (n / 2) (n / 2 - 1) * 2) (omega arith))
    (rw (halved, next) (omega (arith, rest.0), rest.1)))

-- ---- the ones of a word

ones_from-is : (at word : ℕ) → ones_from at word ≡ ones_of word_bits at word
unfolding ones_from ones_of
ones_from-is at word = refl

-- a word without ones has none
pub ones_from-zero : (at : ℕ) → ones_from at 0 ≡ []
ones_from-zero at = ones_from-is at 0 ∙ ones_of-zero word_bits at

-- as many as are counted
pub length-ones_from : (at word : ℕ) → word < 2 ^ word_bits → length (ones_from at word) ≡ ones word
length-ones_from at word l = rw (ones_from-is at word) (length-ones_of word_bits at word l)

-- the last of them, and those before it
pub ones_from-last : (at word : ℕ) → word < 2 ^ word_bits → 0 < word →
    (count_trailing_zeros word_bits word < word_bits)
    × (ones_from at word
    ≡ ones_from at (bit_and word (word - 1)) ++ (at + (word_bits - 1 - count_trailing_zeros word_bits word)) ∷ [])
ones_from-last at word l pos =
    rw (ones_from-is at word, ones_from-is at (bit_and word (word - 1))) (ones_of-last word_bits at word l pos)

-- it is one of the word's bits
pub trailing_lt : (word : ℕ) → word < 2 ^ word_bits → 0 < word → count_trailing_zeros word_bits word < word_bits
trailing_lt word l pos = (ones_from-last 0 word l pos).0

-- a word that has none without its last one has that one alone
pub ones_from-single : (at word : ℕ) {at' : ℕ} → word < 2 ^ word_bits → 0 < word →
    bit_and word (word - 1) ≡ 0 → at' ≡ at + (word_bits - 1 - count_trailing_zeros word_bits word) →
    ones_from at word ≡ at' ∷ []
ones_from-single at word l pos none e = (ones_from-last at word l pos).1 ∙ rw (none, ones_from-zero at, e) refl

-- its position fits an entry, and there is room for it
pub single_fits : {at word len : ℕ} {queue : List ℕ} → ListableWord at word queue len → word < 2 ^ word_bits →
    0 < word → bit_and word (word - 1) ≡ 0 →
    (at + (word_bits - 1 - count_trailing_zeros word_bits word) < max_pixels) × (len < length queue)
single_fits {at} {word} listable bound pos none =
    let single = ones_from-single at word bound pos none refl in
    let room = rw single at listable.room in
    ((rw single at listable.small).0, omega (arith, room))

-- of numbers that all have a property the last has it, and so have those before it
each_snoc : (P : ℕ → Type 0) (xs : List ℕ) (x : ℕ) → Each P (xs ++ x ∷ []) → Each P xs × P x
each_snoc P [] x h = (tt, h.0)
each_snoc P (y ∷ ys) x h = let rest = each_snoc P ys x h.1 in ((h.0, rest.0), rest.1)

-- Of the ones of a word those of b are still to be listed: the others stand in the queue from `slot` up to `end`,
-- and what stands before `len` is as it was
pub record Taken (at word len end : ℕ) (queue₀ : List ℕ) (b : ℕ) (queue : List ℕ) (slot : ℕ) : Type 0 where
  pub bound : b < 2 ^ word_bits
  pub small : Each (λ i. i < max_pixels) (ones_from at b)
  pub whole : ones_from at word ≡ ones_from at b ++ slice slot end queue
  pub ends : end ≡ len + length (ones_from at word)
  pub place : slot ≡ len + length (ones_from at b)
  pub before : slot ≤ end
  pub size : length queue ≡ length queue₀
  pub front : take len queue ≡ take len queue₀

-- all are
pub taken_none : {at word len end : ℕ} {queue₀ : List ℕ} → word < 2 ^ word_bits →
    Each (λ i. i < max_pixels) (ones_from at word) → end ≡ len + length (ones_from at word) →
    Taken at word len end queue₀ word queue₀ end
taken_none {end = end} {queue₀ = queue₀} bound small e =
    record {
      bound = bound;
      small = small;
      whole = rw (slice_empty end queue₀, append-nil) refl;
      ends = e;
      place = e;
      before = omega arith;
      size = refl;
      front = refl;
    }

module _ {at word len end : ℕ} {queue₀ : List ℕ} {b : ℕ} {queue : List ℕ} {slot : ℕ}
    (t : Taken at word len end queue₀ b queue slot) where
  -- the last one's position fits an entry, and there is room for it
  pub taken_next : 0 < b → (at + (word_bits - 1 - count_trailing_zeros word_bits b) < max_pixels) × (len < slot)
  taken_next pos =
      let last = ones_from-last at b t.bound pos in
      let size = ap length last.1 ∙ length-append (ones_from at (bit_and b (b - 1))) _ in
      ((each_snoc _ (ones_from at (bit_and b (b - 1))) _ (rw last.1 at t.small)).1, omega (arith, t.place, size))

  -- where there is no room, none is left
  pub taken-over : slot ≤ len → b ≡ 0
  taken-over full = by-eq b 0 (λ none. none) (λ some. absurd (omega (arith, (taken_next (omega arith)).1)))

  -- where there is room, one is
  pub taken_some : len < slot → 0 < b
  taken_some left =
      by-eq b 0
      (λ none.
      let empty : ones_from at b ≡ [] = rw none (ones_from-zero at) in
      absurd (omega (arith, t.place, ap length empty)))
      (λ some. omega arith)

  -- one more is written
  pub taken_more : {at' : ℕ} → 0 < b → end ≤ length queue₀ →
      at' ≡ at + (word_bits - 1 - count_trailing_zeros word_bits b) →
      Taken at word len end queue₀ (bit_and b (b - 1)) (set queue (slot - 1) at') (slot - 1)
  taken_more {at'} pos room e =
      let last = ones_from-last at b t.bound pos in
      let before = ones_from at (bit_and b (b - 1)) in
      let count = ap length last.1 ∙ length-append before _ in
      let next : suc (slot - 1) ≡ slot = omega (arith, t.place, count) in
      let behind : slice slot end (set queue (slot - 1) at') ≡ slice slot end queue =
      ap (drop slot) (take-set-lt end queue (slot - 1) at' (omega (arith, t.before, t.place, count)))
      ∙ drop-set-lt slot (take end queue) (slot - 1) at' (omega arith) in
      let written : slice (slot - 1) end (set queue (slot - 1) at') ≡ at' ∷ slice slot end queue =
      slice-cons (slot - 1) end (set queue (slot - 1) at') 0 (omega (arith, t.before))
      (omega (arith, t.size, length-set queue (slot - 1) at'))
      ∙ rw (get_or-set_same queue (slot - 1) at' 0 (omega (arith, t.before, t.size)), next, behind) refl in
      record {
        bound = omega (arith, t.bound, and_le_r b (b - 1));
        small = (each_snoc _ before _ (rw last.1 at t.small)).0;
        whole =
            t.whole ∙ ap (λ (l : List ℕ). l ++ slice slot end queue) last.1
            ∙ rw (written, e) (append_snoc before _ (slice slot end queue));
        ends = t.ends;
        place = omega (arith, t.place, count);
        before = omega (arith, t.before);
        size = length-set queue (slot - 1) at' ∙ t.size;
        front = take-set-le len queue (slot - 1) at' (omega (arith, t.place, count)) ∙ t.front;
      }

  -- none is left
  pub taken-all : b ≡ 0 → Extended queue₀ len (ones_from at word) queue end
  taken-all none =
      let empty : ones_from at b ≡ [] = rw none (ones_from-zero at) in
      let first : slot ≡ len = t.place ∙ rw empty (omega arith) in
      let written : ones_from at word ≡ slice len end queue = t.whole ∙ rw (empty, first) refl in
      record {
        counted = t.ends;
        size = t.size;
        front =
            sym (take-append-drop len (take end queue))
            ∙ rw (take-take len end queue (omega (arith, t.ends)), ← written, t.front) refl;
      }

-- ---- stretches that are written

-- the first of two stretches, with anything behind it
pub extended-before : (xs ys : List ℕ) {queue queue' : List ℕ} {len end : ℕ} →
    Extended queue len (xs ++ ys) queue' end → end ≤ length queue →
    Extended queue len xs queue' (len + length xs)
extended-before xs ys {queue} {queue'} {len} {end} e room =
    let size = length-append xs ys in
    record {
      counted = refl;
      size = e.size;
      front =
          sym (take-take (len + length xs) end queue' (omega (arith, e.counted, size)))
          ∙ ap (take (len + length xs)) (e.front ∙ sym (append_assoc (take len queue) xs ys))
          ∙ take_at (take len queue ++ xs) ys (len + length xs)
          (length-append (take len queue) xs
          ∙ rw (length-take-le len queue (omega (arith, e.counted))) refl);
    }

-- ---- comparing

-- of the entries from `len` up to `end` all are left
pub left_all : (queue : List ℕ) {left : List ℕ} (len end : ℕ) → len ≤ end → end ≤ length queue →
    left ≡ take (end - len) (drop len queue) →
    (len + length left ≡ end) × (left ≡ take (length left) (drop len queue))
left_all queue {left} len end before room is =
    let size : length left ≡ end - len =
    ap length is ∙ length-take-le (end - len) (drop len queue) (omega (arith, length-drop len queue)) in
    (omega arith, rw size is)

-- the last of those that are left is taken
pub left_next : (queue : List ℕ) {left left' : List ℕ} {x : ℕ} (len : ℕ) {end : ℕ} → left ≡ left' ++ x ∷ [] →
    len + length left ≤ end → end ≤ length queue → left ≡ take (length left) (drop len queue) →
    (left' ≡ take (length left') (drop len queue)) × (len + length left' ≡ len + length left - 1)
    × (x ≡ get_or queue (len + length left - 1) 0)
left_next queue {left} {left'} {x} len e before room is =
    let m = length left' in
    let size : length left ≡ suc m = ap length e ∙ length-append left' (x ∷ []) ∙ omega arith in
    let front : left' ++ x ∷ [] ≡ take (suc m) (drop len queue) = sym e ∙ rw size at is in
    let last : len + length left - 1 ≡ len + m = omega arith in
    let place : len + m - len ≡ m = omega arith in
    let entry = get_or-slice len (len + suc m) (len + m) queue (omega arith) (omega arith) in (
      sym (take_at left' (x ∷ []) m refl) ∙ ap (take m) front ∙ take-take m (suc m) (drop len queue) (omega arith),
      omega arith,
      sym (get_or-append_seam left' x [] 0)
          ∙ ap (λ (l : List ℕ). get_or l m 0) front
          ∙ rw last (rw (place, drop-take len (suc m) queue) at entry),
    )

-- so one of the ones is, and its position fits an entry
pub taken_left : {at word len end : ℕ} {queue : List ℕ} {b : ℕ} {left : List ℕ} (left' : List ℕ) (x : ℕ) →
    Taken at word len end queue b queue (len + length left) → left ≡ left' ++ x ∷ [] →
    (0 < b) × (at + (word_bits - 1 - count_trailing_zeros word_bits b) < max_pixels)
taken_left left' x t e =
    let some = taken_some t (omega (arith, ap length e, length-append left' (x ∷ []))) in
    (some, (taken_next t some).0)

-- all of the positions stand there
pub compared-all : {queue positions : List ℕ} {n len end : ℕ} → Extended queue len positions queue end →
    end ≤ n → Compared queue n len positions (Some end)
unfolding Compared
compared-all e l = (e, l)

-- they are too many
pub compared-long : (queue positions : List ℕ) (len : ℕ) {n end : ℕ} → end ≡ len + length positions → n < end →
    Compared queue n len positions None
unfolding Compared
compared-long queue positions len counted l e le whole = omega (arith, counted, whole.counted)

module _ {at word len end : ℕ} {queue : List ℕ} {b slot : ℕ} (t : Taken at word len end queue b queue slot)
    (pos : 0 < b) (room : end ≤ length queue) where
  -- the next entry is the last one's position
  pub taken-same : get_or queue (slot - 1) 0 ≡ at + (word_bits - 1 - count_trailing_zeros word_bits b) →
      Taken at word len end queue (bit_and b (b - 1)) queue (slot - 1)
  taken-same e = rw (set-get_or queue (slot - 1) 0) at (taken_more t pos room e)

  -- it is not
  pub taken-other : {n : ℕ} → n ≤ length queue →
      (get_or queue (slot - 1) 0 ≡ at + (word_bits - 1 - count_trailing_zeros word_bits b) → ⊥) →
      Compared queue n len (ones_from at word) None
  unfolding Compared
  taken-other {n} within other e le whole =
      let last = ones_from-last at b t.bound pos in
      let before = ones_from at (bit_and b (b - 1)) in
      let behind = slice slot end queue in
      let count = ap length last.1 ∙ length-append before _ in
      let inside : slot - 1 < e = omega (arith, t.before, t.place, t.ends, whole.counted, count) in
      let index : slot - 1 - len ≡ length before = omega (arith, t.place, count) in
      other
      (sym (get_or-slice len e (slot - 1) queue (omega (arith, t.place, count)) inside)
      ∙ rw (slice-extended whole (omega arith), index, t.whole, last.1, append_snoc before _ behind)
      (get_or-append_seam before _ behind 0))
