-- Laws of columns that a loop writes one after the other.
--   Columns                                the first so many columns are written
--   columns-more                           one more is written
--   frame_apart, rows_apart                columns of a frame, and of packed rows, have no entry in common
--   frame-more, rows_more                  so one more is written
--   column-le, column-next, column-first   where a frame's columns begin and end
--   moved_more                             one column more is compared
-- Assumes nothing.
use Prim.Native.Nat.{ℕ, suc, ◌+◌, ◌*◌, ◌%◌, ◌≤◌, ◌<◌}
use mathlib.Core.Path.{◌≡◌, refl, sym, ap, ◌∙◌}
use mathlib.Core.List.{List}
use mathlib.Core.Logic.{◌↔◌}
use native.Mathlib.Omega.{arith}
use native.Mathlib.Nat.{mul-le-mul_right, suc-mul}
use lib.Arith.{digits_mod}
use lib.Bits.{bit_or}
use lib.ListN.{length, get_or}
use Rattle.lists.proofs.BoolLaws.{by-eq}
use Rattle.words.specs.Frame.{Written, Same}
use Rattle.words.proofs.WrittenLaws.{written-before}
use Rattle.words.proofs.FrameLaws.{or-zero}

-- From entries to entries': the first k columns of n entries have the property, and the others are as they were.
-- Entry y of column i stands at `place i y`
pub record Columns (P : ℕ → ℕ → ℕ → Type 0) (place : ℕ → ℕ → ℕ) (k n : ℕ)
    (entries entries' : List ℕ) : Type 0 where
  pub size : length entries' ≡ length entries
  pub each : (i y : ℕ) → i < k → y < n → P i y (get_or entries' (place i y) 0)
  pub others : (at : ℕ) → ((i y : ℕ) → i < k → y < n → at ≡ place i y → ⊥) →
      get_or entries' at 0 ≡ get_or entries at 0

-- one column more, which has no entry in common with those before it
pub columns-more : {P : ℕ → ℕ → ℕ → Type 0} (place : ℕ → ℕ → ℕ) {k n from step : ℕ}
    {entries entries' entries'' : List ℕ} →
    Columns P place k n entries entries' → Written (P k) from step n entries' entries'' →
    ((y : ℕ) → place k y ≡ from + y * step) →
    ((i y y' : ℕ) → i < k → y < n → y' < n → place i y ≡ place k y' → ⊥) →
    Columns P place (k + 1) n entries entries''
columns-more {P} place {k} {n} {from} {step} {entries} {entries'} {entries''} c w there apart =
    record {
      size = w.size ∙ c.size;
      each =
          λ i y l h.
          by-eq i k (λ q. rw (q, there y) (w.written y h))
          (λ d.
          rw (w.others (place i y) (λ y' m q. apart i y y' (omega arith) h m (q ∙ sym (there y'))))
          (c.each i y (omega arith) h));
      others =
          λ at h.
          w.others at (λ y l q. h k y (omega arith) l (q ∙ sym (there y)))
          ∙ c.others at (λ i y l m q. h i y (omega arith) m q);
    }

-- ---- the columns of a frame

-- a column more
pub mul_next : (apart k : ℕ) → (k + 1) * apart ≡ k * apart + apart
mul_next apart k = let e : k + 1 ≡ suc k = omega arith in rw e (suc-mul k apart)

-- a column ends where the next begins, or before
pub column-le : (apart k n : ℕ) → k < n → (k + 1) * apart + apart ≤ (n + 1) * apart
column-le apart k n l =
    let more = mul-le-mul_right apart l in
    omega (arith, more, suc-mul k apart, mul_next apart k, mul_next apart n)

-- the entry behind a column's end is the next column's first
pub column-next : (apart k : ℕ) → (k + 1) * apart + apart ≡ (k + 2) * apart
column-next apart k = let e : k + 1 + 1 ≡ k + 2 = omega arith in rw e at (sym (mul_next apart (k + 1)))

-- every column but the first begins behind the first
pub column-first : (apart k : ℕ) → apart ≤ (k + 1) * apart
column-first apart k = omega (arith, mul_next apart k)

-- columns have no entry in common
pub frame_apart : (apart first n : ℕ) → first + n ≤ apart → (k i y y' : ℕ) → i < k → y < n →
    y' < n →
    (i + 1) * apart + first + y ≡ (k + 1) * apart + first + y' → ⊥
frame_apart apart first n fits k i y y' l h h' e = omega (arith, e, column-le apart i k l)

-- one column of a frame more
pub frame-more : {P : ℕ → ℕ → ℕ → Type 0} {entries entries' entries'' : List ℕ}
    (apart first n k from : ℕ) →
    first + n ≤ apart → from ≡ (k + 1) * apart + first →
    Columns P (λ i y. (i + 1) * apart + first + y) k n entries entries' →
    Written (P k) from 1 n entries' entries'' →
    Columns P (λ i y. (i + 1) * apart + first + y) (k + 1) n entries entries''
frame-more apart first n k from fits e c w =
    columns-more (λ i y. (i + 1) * apart + first + y) c w (λ y. omega (arith, e)) (frame_apart apart first n fits k)

-- nor have the columns of packed rows
pub rows_apart : (columns k i y y' : ℕ) → i < k → k < columns → i + y * columns ≡ k + y' * columns → ⊥
rows_apart columns k i y y' l h e =
    let left : (y * columns + i) % columns ≡ i = digits_mod y (omega arith) in
    let right : (y' * columns + k) % columns ≡ k = digits_mod y' h in
    let there : y * columns + i ≡ y' * columns + k = omega (arith, e) in
    let same : i ≡ k = sym left ∙ ap (λ (v : ℕ). v % columns) there ∙ right in
    omega arith

pub rows_more : {P : ℕ → ℕ → ℕ → Type 0} {words words' words'' : List ℕ} (columns n k : ℕ) →
    k < columns →
    Columns P (λ i y. i + y * columns) k n words words' → Written (P k) k columns n words' words'' →
    Columns P (λ i y. i + y * columns) (k + 1) n words words''
rows_more columns n k l c w =
    columns-more (λ i y. i + y * columns) c w (λ y. refl) (λ i y y' h m m'. rows_apart columns k i y y' h l)

-- ---- words that changed

-- one column more of a frame is compared
pub moved_more : {P : ℕ → ℕ → ℕ → Type 0} {Q : ℕ → ℕ → Type 0}
    {entries entries' entries'' : List ℕ} {moved r : ℕ}
    (apart n k : ℕ) → 1 + n ≤ apart →
    Columns P (λ i y. (i + 1) * apart + 1 + y) k n entries entries' →
    Written Q ((k + 1) * apart + 1) 1 n entries' entries'' →
    ((moved ≡ 0) ↔ ((i : ℕ) → i < k → Same ((i + 1) * apart + 1) n entries entries')) →
    ((r ≡ 0) ↔ Same ((k + 1) * apart + 1) n entries' entries'') →
    (bit_or moved r ≡ 0) ↔ ((i : ℕ) → i < k + 1 → Same ((i + 1) * apart + 1) n entries entries'')
moved_more {P} {Q} {entries} {entries'} {entries''} {moved} {r} apart n k fits c w before here = (
  λ z i l y h.
      let parts = or-zero moved r z in
      by-eq i k (λ q. rw q (here.0 parts.1 y h ∙ fresh y h))
      (λ d. kept i y (omega arith) h ∙ before.0 parts.0 i (omega arith) y h),
  λ same.
      let none : moved ≡ 0 =
      before.1 (λ i l y h. sym (kept i y l h) ∙ same i (omega arith) y h) in
      let nothing : r ≡ 0 = here.1 (λ y h. same k (omega arith) y h ∙ sym (fresh y h)) in
      rw (none, nothing) refl,
)
  where
    -- the column was as it had been
    fresh : (y : ℕ) → y < n →
        get_or entries' ((k + 1) * apart + 1 + y) 0 ≡ get_or entries ((k + 1) * apart + 1 + y) 0
    fresh y h =
        c.others ((k + 1) * apart + 1 + y)
        (λ i z l m q. frame_apart apart 1 n fits k i z y l m h (sym q))

    -- and those before it stay
    kept : (i y : ℕ) → i < k → y < n →
        get_or entries'' ((i + 1) * apart + 1 + y) 0 ≡ get_or entries' ((i + 1) * apart + 1 + y) 0
    kept i y l h = written-before w ((i + 1) * apart + 1 + y) (omega (arith, column-le apart i k l))
