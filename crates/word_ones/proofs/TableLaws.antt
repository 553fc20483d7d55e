-- Laws of the table of a byte's ones (`specs/Table.antt`). Assumes nothing.
--   computed                   what is unfolded where an entry is computed
--   Others, others-last        a byte that is none of the first 255 is the last
--   entry-low .. entry-count   an entry's first four offsets, the four others, and how many there are
--   lane-more                  one lane more is written
--   byte-listed                the positions of a byte's ones are written, with others behind them
--   BytesListed                of a word the ones of the first bytes are listed
--   bytes-none .. bytes-all    none are; those of one byte more; all
use Rattle.std.proofs.Common.{◌≡◌, ℕ, zero, suc, ◌+◌, ◌-◌, ◌*◌, ◌/◌, ◌%◌, ◌^◌, ◌<◌, ◌≤◌, Bool, true, eqb, ltb, List, []}
use Rattle.std.proofs.Common.{◌∷◌, ◌++◌, length, get_or, drop, set, sym, refl, ap, ◌∙◌, add-one, arith, shr-shr}
use Rattle.std.proofs.Common.{eqb-true, ltb-true}
use lib.Bits.{bit_and, and_mask}
use lib.ListN.{length-map}
use Rattle.lists.specs.Lists.{select, count_from, range, tabulate, all}
use Rattle.lists.proofs.BoolLaws.{by-eq}
use Rattle.lists.proofs.ListLaws.{all-member, all-get_or, lt-member-range, tabulate-is, tabulate-same, tabulate-suc}
use Rattle.lists.proofs.ListLaws.{get_or-tabulate, length-tabulate, tabulate-append-drop}
use Rattle.neighbours.specs.Crop.{Extended, moved}
use Rattle.neighbours.specs.Limits.{max_pixels}
use Rattle.neighbours.proofs.ExtendedLaws.{extended_none, extended-one, extended-append}
use Rattle.word_ones.specs.Ones.{ones_of, ones_from}
use Rattle.word_ones.specs.Table.{offset, four_offsets, entry_of, lanes}
use Rattle.word_ones.proofs.OnesLaws.{ones_of-append, ones_of-moved, length-ones_of-le, extended-before}

-- ---- the table

-- what is unfolded where an entry is computed
unfoldable pub computed : Unit {0}
unfolding ones_of offset four_offsets entry_of select count_from
computed = tt

-- a byte that is none of the first n
abbrev pub Others : ℕ → ℕ → Type 0
Others byte zero = Unit {0}
Others byte (suc n) = Others byte n × (byte ≡ n → ⊥)

others-le : (byte n : ℕ) → Others byte n → n ≤ byte
others-le byte zero others = omega arith
others-le byte (suc n) others =
    let le = others-le byte n others.0 in
    by-eq byte n (λ e. absurd (others.1 e)) (λ other. omega arith)

-- and of the first 255, is the last
pub others-last : (byte : ℕ) → byte < 256 → Others byte 255 → byte ≡ 255
others-last byte small others = omega (arith, small, others-le byte 255 others)

-- ---- what an entry tells

-- what holds of all bytes holds of each
each-byte : (f : ℕ → Bool) → all f (range 256) ≡ true → (byte : ℕ) → byte < 256 → f byte ≡ true
each-byte f holds byte small = all-member f (range 256) holds byte (lt-member-range byte 256 small)

module _ (byte : ℕ) (small : byte < 256) where
  -- the first four offsets
  pub entry-low : (x : ℕ) → x ≡ entry_of byte → bit_and x 0x0007000700070007 ≡ four_offsets byte 0
  unfolding computed all
  entry-low x e =
      ap (λ (n : ℕ). bit_and n 0x0007000700070007) e
      ∙ eqb-true _ _ (each-byte (λ b. eqb (bit_and (entry_of b) 0x0007000700070007) (four_offsets b 0)) refl byte small)

  -- the four others
  pub entry-high : (x : ℕ) → x ≡ entry_of byte → bit_and (x / 2 ^ 8) 0x0007000700070007 ≡ four_offsets byte 4
  unfolding computed all
  entry-high x e =
      ap (λ (n : ℕ). bit_and (n / 2 ^ 8) 0x0007000700070007) e
      ∙ eqb-true _ _
      (each-byte (λ b. eqb (bit_and (entry_of b / 2 ^ 8) 0x0007000700070007) (four_offsets b 4)) refl byte small)

  -- how many there are
  pub entry-count : (x : ℕ) → x ≡ entry_of byte → x / 2 ^ 59 ≡ length (ones_of 8 0 byte)
  unfolding computed all
  entry-count x e =
      ap (λ (n : ℕ). n / 2 ^ 59) e
      ∙ eqb-true _ _ (each-byte (λ b. eqb (entry_of b / 2 ^ 59) (length (ones_of 8 0 b))) refl byte small)

  offset-lt : (j : ℕ) → offset byte j < 8
  unfolding computed all
  offset-lt j =
      ltb-true _ _
      (all-get_or (λ i. ltb i 8) (ones_of 8 0 byte) refl
      (each-byte (λ b. all (λ i. ltb i 8) (ones_of 8 0 b)) refl byte small) j)

-- ---- lanes

-- the lowest 16 bits, and those above
parts : (x a y : ℕ) → x ≡ a + y * 2 ^ 16 → a < 2 ^ 16 → (x % 2 ^ 16 ≡ a) × (x / 2 ^ 16 ≡ y)
parts x a y e l = (omega arith, omega arith)

-- four numbers below 2 ^ 16 make four lanes
lanes-four : (x a b c d : ℕ) → x ≡ a + (b + (c + d * 2 ^ 16) * 2 ^ 16) * 2 ^ 16 →
    a < 2 ^ 16 → b < 2 ^ 16 → c < 2 ^ 16 → d < 2 ^ 16 → lanes x ≡ a ∷ b ∷ c ∷ d ∷ []
unfolding lanes tabulate count_from
lanes-four x a b c d e la lb lc ld =
    let one = parts x a _ e la in
    let two = parts (x / 2 ^ 16) b _ one.1 lb in
    let three = parts (x / 2 ^ 16 / 2 ^ 16) c _ two.1 lc in
    let first : x / 1 % 2 ^ 16 ≡ a = omega (arith, one.0) in
    let lower = sym (shr-shr x 16 16) in
    let third : x / 2 ^ 32 % 2 ^ 16 ≡ c = ap (λ (n : ℕ). n % 2 ^ 16) lower ∙ three.0 in
    let upper : x / 2 ^ 48 ≡ d = sym (shr-shr x 32 16) ∙ ap (λ (n : ℕ). n / 2 ^ 16) lower ∙ three.1 in
    let fourth : x / 2 ^ 48 % 2 ^ 16 ≡ d = rw upper (omega arith) in
    rw (first, two.0, third, fourth) refl

-- one more entry is written
extended-more : {queue xs queue' : List ℕ} {len end : ℕ} (a next : ℕ) → Extended queue len xs queue' end →
    end < length queue → next ≡ end + 1 → Extended queue len (xs ++ a ∷ []) (set queue' end a) next
extended-more {queue' = queue'} {end = end} a next e l n =
    rw n (extended-append e (extended-one queue' end a (omega (arith, e.size))))

-- one lane more is written
pub lane-more : {queue queue' : List ℕ} {len : ℕ} (f : ℕ → ℕ) (k : ℕ) →
    Extended queue len (tabulate k f) queue' (len + k) → len + k < length queue →
    Extended queue len (tabulate (k + 1) f) (set queue' (len + k) (f k)) (len + (k + 1))
lane-more f k e l = rw (add-one, tabulate-suc) (extended-more (f k) _ e l (omega arith))

-- ---- a byte's ones

get_or-moved : (at : ℕ) (xs : List ℕ) (k : ℕ) → k < length xs → get_or (moved at xs) k 0 ≡ at + get_or xs k 0
get_or-moved at [] k l = absurd (omega arith)
get_or-moved at (x ∷ xs) zero l = refl
get_or-moved at (x ∷ xs) (suc k) l = get_or-moved at xs k (omega arith)

module _ (byte at : ℕ) (small : byte < 256) (room : at + 8 ≤ max_pixels) where
  -- four offsets, moved on, in four lanes
  lanes-moved : (from : ℕ) →
      lanes (four_offsets byte from + at * 0x0001000100010001)
      ≡ (at + offset byte from) ∷ (at + offset byte (from + 1)) ∷ (at + offset byte (from + 2))
      ∷ (at + offset byte (from + 3)) ∷ []
  unfolding four_offsets
  lanes-moved from =
      let lt = offset-lt byte small in
      let a = lt from in
      let b = lt (from + 1) in
      let c = lt (from + 2) in
      let d = lt (from + 3) in
      lanes-four _ _ _ _ _ (omega arith) (omega arith) (omega arith) (omega arith) (omega arith)

  -- the positions of a byte's ones are its offsets, moved on
  ones_of-offsets : ones_of 8 at byte ≡ tabulate (length (ones_of 8 0 byte)) (λ j. at + offset byte j)
  unfolding offset
  ones_of-offsets =
      ones_of-moved 8 at byte
      ∙ sym (tabulate-is _ _ (moved at (ones_of 8 0 byte)) (length-map (ones_of 8 0 byte) (λ i. at + i))
      (λ k l. sym (get_or-moved at (ones_of 8 0 byte) k l)))

  -- all eight lanes are these and others
  lanes-ones : (x y : ℕ) → x ≡ four_offsets byte 0 → y ≡ four_offsets byte 4 →
      lanes (x + at * 0x0001000100010001) ++ lanes (y + at * 0x0001000100010001)
      ≡ ones_of 8 at byte ++ drop (length (ones_of 8 0 byte)) (tabulate 8 (λ j. at + offset byte j))
  unfolding tabulate count_from
  lanes-ones x y low high =
      let n = length (ones_of 8 0 byte) in
      let few = length-ones_of-le 8 0 byte in
      let each : ℕ → ℕ = λ j. at + offset byte j in
      let front : tabulate n (λ k. get_or (tabulate 8 each) k 0) ≡ ones_of 8 at byte =
      tabulate-same n _ _ (λ k l. get_or-tabulate 8 each k (omega (arith, few))) ∙ sym ones_of-offsets in
      let room = length-tabulate 8 each in
      rw (low, high, lanes-moved 0, lanes-moved 4)
      (sym (tabulate-append-drop n (tabulate 8 each) (omega (arith, few, room)))
      ∙ ap (λ (l : List ℕ). l ++ drop n (tabulate 8 each)) front)

  -- so they are written, with others behind them
  pub byte-listed : {queue queue₁ queue₂ : List ℕ} {len : ℕ} (x y n : ℕ) →
      x ≡ four_offsets byte 0 → y ≡ four_offsets byte 4 → n ≡ length (ones_of 8 0 byte) →
      len + 8 ≤ length queue →
      Extended queue len (lanes (x + at * 0x0001000100010001)) queue₁ (len + 4) →
      Extended queue₁ (len + 4) (lanes (y + at * 0x0001000100010001)) queue₂ (len + 4 + 4) →
      Extended queue len (ones_of 8 at byte) queue₂ (len + n)
  byte-listed {len} x y n low high count room first second =
      let whole = rw (lanes-ones x y low high) at (extended-append first second) in
      let end : len + length (ones_of 8 at byte) ≡ len + n =
      omega (arith, count, ap length (ones_of-moved 8 at byte) ∙ length-map (ones_of 8 0 byte) (λ i. at + i)) in
      rw end at (extended-before (ones_of 8 at byte) _ whole (omega arith))

-- ---- a word's ones

-- Of a word the ones of the first k bytes are listed
pub record BytesListed (word at : ℕ) (queue₀ : List ℕ) (len : ℕ) (queue : List ℕ) (end k : ℕ) : Type 0 where
  pub some : k ≤ 8
  pub listed : Extended queue₀ len (ones_of (8 * k) at (word / 2 ^ (64 - 8 * k))) queue end
  pub few : end ≤ len + 8 * k

-- none are
pub bytes-none : (word at : ℕ) (queue₀ : List ℕ) (len : ℕ) → BytesListed word at queue₀ len queue₀ len 0
unfolding ones_of select count_from
bytes-none word at queue₀ len =
    record { some = omega arith; listed = extended_none queue₀ len; few = omega arith }

module _ {word at : ℕ} {queue₀ : List ℕ} {len : ℕ} {queue : List ℕ} {end k : ℕ}
    (b : BytesListed word at queue₀ len queue end k) where
  -- one byte more
  pub bytes-more : {queue' : List ℕ} {end' : ℕ} → k < 8 →
      Extended queue end (ones_of 8 (at + 8 * k) (bit_and (word / 2 ^ (56 - 8 * k)) 255)) queue' end' →
      BytesListed word at queue₀ len queue' end' (k + 1)
  bytes-more {queue'} {end'} l more =
      let n = word / 2 ^ (56 - 8 * k) in
      let size : 8 * k + 8 ≡ 8 * (k + 1) = omega arith in
      let place : 56 - 8 * k ≡ 64 - 8 * (k + 1) = omega arith in
      let above : 56 - 8 * k + 8 ≡ 64 - 8 * k = omega arith in
      let upper : word / 2 ^ (64 - 8 * k) ≡ n / 2 ^ 8 = sym (rw above at (shr-shr word (56 - 8 * k) 8)) in
      let listed : Extended queue₀ len (ones_of (8 * k + 8) at n) queue' end' =
      rw (ones_of-append (8 * k) 8 at n)
      (extended-append (rw upper at b.listed) (rw (and_mask n 8) at more)) in
      record {
        some = omega arith;
        listed = rw (size, place) at listed;
        few = omega (arith, b.few, more.counted, length-ones_of-le 8 (at + 8 * k) (bit_and n 255));
      }

  -- all are
  pub bytes-all : 8 ≤ k → Extended queue₀ len (ones_from at word) queue end
  unfolding ones_from
  bytes-all l =
      let e : k ≡ 8 = omega (arith, b.some) in
      let whole : word / 1 ≡ word = omega arith in
      rw (e, whole) at b.listed
