-- Laws of rows that are grown, word by word and row by row (`specs/Propagation.antt`). What they make of an image
-- stands in `PropagationLaws`. Assumes nothing.
--   mul-before, row_next              where a row's words stand
--   row_copied                        a row that is copied to the front of a list
--   level_at-same                     words that agree count the same
--   level_at-front, -behind           all bits are set in front of a row and behind it
--   RowGrown                          the first words of a row are grown
--   row-none, row_more                none, and one more
--   RowsFrom, Saved                   the rows of a set from a row on are grown; a row as it was
--   rows_none, saved-none             none are
--   rows-skip, saved-kept             rows that are not in the set; the row behind them is saved
--   rows_more, saved-more             one row more
--   rows_all                          all are
use Prim.Native.Nat.{ℕ, zero, suc, ◌+◌, ◌-◌, ◌*◌, ◌≤◌, ◌<◌, max}
use mathlib.Core.Path.{◌≡◌, refl, sym, ◌∙◌}
use mathlib.Core.Bool.{◌&&◌, not}
use mathlib.Core.List.{List, ◌++◌}
use mathlib.Core.Logic.{◌⊎◌, inl, inr, ◌↔◌}
use native.Mathlib.Omega.{arith}
use native.Mathlib.Nat.{mul-le-mul_right, suc-mul}
use lib.Bits.{bit_or, bit_xor}
use lib.Dec.{eqb, leb}
use lib.ListN.{length, get_or, set, take, drop, length-append, length-drop, get_or-append}
use lib.Seq.{length-take-le, get_or-take, get_or-drop, get_or-append_right}
use borrow.Author.Tests.{le-leb, lt-ltb, le-ltb, eq-eqb, ne_eqb}
use Rattle.lists.proofs.BoolLaws.{by-lt, by-eq, bit_le}
use Rattle.neighbours.specs.Words.{full_word}
use Rattle.neighbours.proofs.WordLaws.{flat-full}
use Rattle.words.specs.Frame.{Written, Same}
use Rattle.words.proofs.WrittenLaws.{written_none, written-more, written_at, written_behind, written-before}
use Rattle.words.proofs.ColumnLaws.{mul_next}
use Rattle.words.proofs.FrameLaws.{or-zero, same_more}
use Rattle.propagation.specs.RowSet.{row_bit, RowsAdded}
use Rattle.propagation.specs.Propagation.{above_at, here_at, row_at, LevelAt, GrownWord, GrownAt, RowsGrown}
use Rattle.propagation.specs.Propagation.{SameRow, SameRows, Noted, GrowableRow}
use Rattle.propagation.proofs.RowSetLaws.{row_bit-le}

-- ---- one row

-- a row less
pub mul-before : (columns y : ℕ) → (y ≡ 0 → ⊥) → (y - 1) * columns + columns ≡ y * columns
mul-before columns zero some = absurd (some refl)
mul-before columns (suc y) some = let e : suc y - 1 ≡ y = omega arith in rw (e, suc-mul y columns) refl

-- a row ends where the next begins, or before
pub row_next : (columns y z : ℕ) → y < z → y * columns + columns ≤ z * columns
row_next columns y z l = let more = mul-le-mul_right columns l in omega (arith, more, suc-mul y columns)

-- a row that is copied to the front of a list
pub row_copied : (columns y : ℕ) (words below : List ℕ) {row : List ℕ} → y * columns + columns ≤ length words →
    columns ≤ length below → row ≡ take (y * columns + columns - y * columns) (drop (y * columns) words) →
    Written (λ k w. w ≡ here_at columns words y k) 0 1 columns below (row ++ drop columns below)
row_copied columns y words below {row} inside room e =
    let n : y * columns + columns - y * columns ≡ columns = omega arith in
    let from = drop (y * columns) words in
    let behind = drop columns below in
    let is : row ≡ take columns from = rw n at e in
    let front = length-take-le columns from (omega (arith, length-drop (y * columns) words)) in
    let size : length row ≡ columns = rw is front in
    record {
      size = omega (arith, length-append row behind, length-drop columns below, size);
      written =
          λ i l.
          let first : 0 + i * 1 ≡ i = omega arith in
          let here : get_or row i 0 ≡ get_or from i 0 = rw is (get_or-take columns from i 0 l) in
          rw first
          (get_or-append row behind 0 i (omega (arith, size)) ∙ here ∙ get_or-drop (y * columns) words i 0);
      others =
          λ at h.
          by-lt at columns (λ l. absurd (h at l (omega arith)))
          (λ l.
          let back : columns + (at - columns) ≡ at = omega arith in
          get_or-append_right row behind at 0 (omega (arith, size))
          ∙ rw size (rw back at (get_or-drop columns below (at - columns) 0)));
    }

-- words that agree count the same for those beside them
pub level_at-same : {columns : ℕ} {above here below above' here' below' : ℕ → ℕ} {four i level : ℕ} →
    ((k : ℕ) → i ≡ k + 1 → k < columns →
    (above k ≡ above' k) × (here k ≡ here' k) × (below k ≡ below' k)) →
    LevelAt columns above here below four i level → LevelAt columns above' here' below' four i level
level_at-same same l =
    record {
      outside = l.outside;
      inside = λ k e h j.
          let s = same k e h in
          rw (← s.0, ← s.1, ← s.2) (l.inside k e h j);
    }

-- all bits set in front of a row
pub level_at-front : (columns : ℕ) (above here below : ℕ → ℕ) (four : ℕ) →
    LevelAt columns above here below four 0 full_word
level_at-front columns above here below four =
    record { outside = λ o. flat-full; inside = λ k e. absurd (omega arith) }

-- and behind it
pub level_at-behind : (columns : ℕ) (above here below : ℕ → ℕ) (four : ℕ) {i : ℕ} → columns < i →
    LevelAt columns above here below four i full_word
level_at-behind columns above here below four l =
    record { outside = λ o. flat-full; inside = λ k e h. absurd (omega arith) }

-- The first k words of row y are grown. `below` was the row below, and holds the words of row y as they were; `left`
-- and `level` are what the last of them and the next word count
pub record RowGrown (columns y : ℕ) (words mask below : List ℕ) (four eight k : ℕ)
    (words' below' : List ℕ) (moved left level : ℕ) : Type 0 where
  pub grown : Written
      (GrownAt columns (above_at columns words y) (here_at columns words y) (λ i. get_or below i 0)
      (here_at columns mask y) four eight) (y * columns) 1 k words words'
  pub saved : Written (λ i w. w ≡ here_at columns words y i) 0 1 k below below'
  pub is_left : LevelAt columns (above_at columns words y) (here_at columns words y) (λ i. get_or below i 0) four k left
  pub is_level : LevelAt columns (above_at columns words y) (here_at columns words y) (λ i. get_or below i 0) four
      (k + 1)
      level
  pub is_moved : (moved ≡ 0) ↔ Same (y * columns) k words words'

-- none are
pub row-none : {columns y : ℕ} {words : List ℕ} (mask : List ℕ) {below : List ℕ} {four : ℕ} (eight : ℕ)
    {level : ℕ} →
    LevelAt columns (above_at columns words y) (here_at columns words y) (λ i. get_or below i 0) four (0 + 1) level →
    RowGrown columns y words mask below four eight 0 words below 0 full_word level
row-none mask eight is_level =
    record {
      grown = written_none _ _ _ _;
      saved = written_none _ _ _ _;
      is_left = level_at-front _ _ _ _ _;
      is_level = is_level;
      is_moved = (λ z i l. absurd (omega arith), λ s. refl);
    }

module _ {columns y : ℕ} {words mask below : List ℕ} {four eight k : ℕ}
    {words' below' : List ℕ} {moved left level : ℕ}
    (r : RowGrown columns y words mask below four eight k words' below' moved left level) where
  -- the words from k on are as they were
  row_old : (i : ℕ) → k ≤ i → i < columns →
      (above_at columns words' y i ≡ above_at columns words y i)
      × (here_at columns words' y i ≡ here_at columns words y i) × (get_or below' i 0 ≡ get_or below i 0)
  unfolding above_at
  row_old i l h = (
    by-eq y 0 (λ e. rw (eq-eqb y 0 e))
        (λ d.
        rw (ne_eqb y 0 d)
        (written-before r.grown ((y - 1) * columns + i) (omega (arith, mul-before columns y d)))),
    written_behind r.grown (y * columns + i) (omega arith),
    written_behind r.saved i (omega arith),
  )

  -- one more is
  pub row_more : {right above word : ℕ} → GrowableRow columns y words mask below → k < columns →
      LevelAt columns (above_at columns words' y) (here_at columns words' y) (λ i. get_or below' i 0) four
      (k + 1 + 1) right →
      above ≡ above_at columns words' y k →
      GrownWord left above level (get_or below' k 0) right eight (here_at columns mask y k) word →
      RowGrown columns y words mask below four eight (k + 1) (set words' (y * columns + k) word)
      (set below' k (here_at columns words' y k)) (bit_or moved (bit_xor (here_at columns words' y k) word))
      level right
  row_more {right} {above} {word} ready l is_right is_above made =
      let old = row_old k (omega arith) l in
      let inside : y * columns + k < length words = omega (arith, ready.row.within) in
      let is_right' = level_at-same (λ i e h. row_old i (omega arith) h) is_right in
      let two : k + 1 + 1 ≡ k + 2 = omega arith in
      let one = is_above ∙ old.0 in
      record {
        grown =
            written-more (y * columns + k) word (omega arith) r.grown (omega arith) inside
            (record {
              left = left;
              level = level;
              right = right;
              is_left = r.is_left;
              is_level = r.is_level;
              is_right = rw two at is_right';
              grown = rw (one, old.2) at made;
            });
        saved =
            written-more k (here_at columns words' y k) (omega arith) r.saved (omega arith)
            (omega (arith, ready.room)) old.1;
        is_left = r.is_level;
        is_level = is_right';
        is_moved = same_more (y * columns + k) word r.grown (omega arith) inside r.is_moved;
      }

-- ---- row after row, from the last to the first

-- words that agree are grown alike
grown_at-same : {columns : ℕ} {above here below above' here' below' mask : ℕ → ℕ}
    {four eight k word : ℕ} → k < columns →
    ((i : ℕ) → i < columns → (above i ≡ above' i) × (here i ≡ here' i) × (below i ≡ below' i)) →
    GrownAt columns above here below mask four eight k word →
    GrownAt columns above' here' below' mask four eight k word
grown_at-same {k = k} l same g =
    let s = same k l in
    record {
      left = g.left;
      level = g.level;
      right = g.right;
      is_left = level_at-same (λ i e. same i) g.is_left;
      is_level = level_at-same (λ i e. same i) g.is_level;
      is_right = level_at-same (λ i e. same i) g.is_right;
      grown = rw (s.0, s.2) at g.grown;
    }

-- The rows of the set from row y on are grown, and the others are as they were. `moved` tells whether any changed, and
-- the rows next to those that did are in the next set
pub record RowsFrom (set : List ℕ) (columns rows : ℕ) (words mask : List ℕ) (four eight y : ℕ)
    (words' next : List ℕ) (moved : ℕ) : Type 0 where
  pub size : length words' ≡ length words
  pub grown : (z k : ℕ) → y ≤ z → z < rows → k < columns → row_bit set (z + 1) ≡ 1 →
      GrownAt columns (above_at columns words z) (here_at columns words z) (row_at columns rows words (z + 1))
      (here_at columns mask z) four eight k (here_at columns words' z k)
  pub kept : (z k : ℕ) → y ≤ z → z < rows → k < columns → row_bit set (z + 1) ≡ 0 →
      here_at columns words' z k ≡ here_at columns words z k
  pub before : (at : ℕ) → at < y * columns → get_or words' at 0 ≡ get_or words at 0
  pub is_moved : (moved ≡ 0) ↔ ((z : ℕ) → y ≤ z → z < rows → SameRow columns words words' z)
  pub noted : (z : ℕ) → y ≤ z → z < rows →
      SameRow columns words words' z ⊎ ((n : ℕ) → z ≤ n → n ≤ z + 2 → row_bit next n ≡ 1)

-- a row as it was
pub record Saved (columns rows : ℕ) (words : List ℕ) (y : ℕ) (below : List ℕ) : Type 0 where
  pub each : (k : ℕ) → k < columns → get_or below k 0 ≡ row_at columns rows words y k

-- none are, and the row below the last has all bits set
pub rows_none : (set : List ℕ) (columns rows : ℕ) (words mask : List ℕ) (four eight : ℕ) (next : List ℕ) →
    RowsFrom set columns rows words mask four eight rows words next 0
rows_none set columns rows words mask four eight next =
    record {
      size = refl;
      grown = λ z k l h. absurd (omega arith);
      kept = λ z k l h. absurd (omega arith);
      before = λ at l. refl;
      is_moved = (λ e z l h. absurd (omega arith), λ same. refl);
      noted = λ z l h. absurd (omega arith);
    }

pub saved-none : (columns rows : ℕ) (words below : List ℕ) →
    ((k : ℕ) → k < columns → get_or below k 0 ≡ full_word) → Saved columns rows words rows below
unfolding row_at
saved-none columns rows words below full =
    record { each = λ k l. rw (le-ltb rows rows (omega arith)) (full k l) }

module _ {set : List ℕ} {columns rows : ℕ} {words mask : List ℕ} {four eight y : ℕ} {words' next : List ℕ}
    {moved : ℕ} (r : RowsFrom set columns rows words mask four eight y words' next moved) where
  -- a row before row y is as it was
  rows_before : (z : ℕ) → z < y → SameRow columns words words' z
  rows_before z l k lk = r.before (z * columns + k) (omega (arith, row_next columns z y l))

  -- rows that are not in the set
  pub rows-skip : (end : ℕ) → end ≤ y → ((z : ℕ) → end < z → z ≤ y → row_bit set z ≡ 0) →
      RowsFrom set columns rows words mask four eight end words' next moved
  rows-skip end le none =
      record {
        size = r.size;
        grown =
            λ z k l h lk e.
            by-lt z y (λ m. absurd (omega (arith, e, none (z + 1) (omega arith) (omega arith))))
            (λ m. r.grown z k m h lk e);
        kept = λ z k l h lk e. by-lt z y (λ m. rows_before z m k lk) (λ m. r.kept z k m h lk e);
        before =
            λ at l.
            let more = mul-le-mul_right columns le in
            r.before at (omega (arith, more));
        is_moved = (
          λ e z l h. by-lt z y (λ m. rows_before z m) (λ m. r.is_moved.0 e z m h),
          λ same. r.is_moved.1 (λ z l h. same z (omega arith) h),
        );
        noted = λ z l h. by-lt z y (λ m. inl (rows_before z m)) (λ m. r.noted z m h);
      }

  -- a row that is not behind row y is saved: it is there, or it is copied
  pub saved-kept : {below below' : List ℕ} (end : ℕ) → end ≤ y → y ≤ rows →
      Saved columns rows words y below →
      (end ≡ y → below' ≡ below) →
      ((end ≡ y → ⊥) → Written (λ k w. w ≡ here_at columns words' end k) 0 1 columns below below') →
      Saved columns rows words end below'
  unfolding row_at
  saved-kept end le most saved stays copied =
      record {
        each =
            λ k lk.
            by-eq end y (λ e. rw (stays e, e) (saved.each k lk))
            (λ d.
            let first : 0 + k ≡ k = omega arith in
            rw (lt-ltb end rows (omega arith))
            (rw first at (written_at (copied d) k lk) ∙ rows_before end (omega arith) k lk));
      }

-- all are
pub rows_all : {set : List ℕ} {columns rows : ℕ} {words mask : List ℕ} {four eight : ℕ}
    {words' next : List ℕ} {moved : ℕ} →
    RowsFrom set columns rows words mask four eight 0 words' next moved →
    RowsGrown set columns rows words mask four eight words'
    × (((moved ≡ 0) ↔ SameRows columns rows words words') × Noted columns rows words words' next)
rows_all r = (
  record {
    size = r.size;
    grown = λ y k. r.grown y k (omega arith);
    kept = λ y k. r.kept y k (omega arith);
  },
  (
    (λ e y l. r.is_moved.0 e y (omega arith) l, λ same. r.is_moved.1 (λ z h l. same z l)),
    λ y l. r.noted y (omega arith) l,
  ),
)

module _ {set : List ℕ} {columns rows : ℕ} {words mask : List ℕ} {four eight end : ℕ} (y : ℕ)
    {words' next : List ℕ} {moved : ℕ} (is_end : end ≡ y + 1)
    (done : RowsFrom set columns rows words mask four eight end words' next moved) where
  -- the rows below row y
  r : RowsFrom set columns rows words mask four eight (y + 1) words' next moved
  r = rw is_end at done

  -- the row and the one above it are as they were
  rows-old : (k : ℕ) → k < columns →
      (above_at columns words' y k ≡ above_at columns words y k)
      × (here_at columns words' y k ≡ here_at columns words y k)
  unfolding above_at
  rows-old k l = (
    by-eq y 0 (λ e. rw (eq-eqb y 0 e))
        (λ d.
        rw (ne_eqb y 0 d)
        (r.before ((y - 1) * columns + k) (omega (arith, mul-before columns y d, mul_next columns y)))),
    r.before (y * columns + k) (omega (arith, mul_next columns y)),
  )

  module _ {below words'' : List ℕ} (saved : Saved columns rows words end below)
      (w : Written
      (GrownAt columns (above_at columns words' y) (here_at columns words' y) (λ i. get_or below i 0)
      (here_at columns mask y) four eight) (y * columns) 1 columns words' words'') where
    -- the rows below it stay
    rows-later : (z k : ℕ) → y < z → here_at columns words'' z k ≡ here_at columns words' z k
    rows-later z k l = written_behind w (z * columns + k) (omega (arith, row_next columns y z l))

    -- the row changed exactly if it did now
    row_moved : SameRow columns words words'' y ↔ Same (y * columns) columns words' words''
    row_moved = (
      λ same k l. same k l ∙ sym (rows-old k l).1,
      λ same k l. same k l ∙ (rows-old k l).1,
    )

    -- then it is the one that is saved
    pub saved-more : {below'' : List ℕ} →
        Written (λ k w. w ≡ here_at columns words' y k) 0 1 columns below below'' → y < rows →
        Saved columns rows words y below''
    unfolding row_at
    saved-more s ly =
        record {
          each =
              λ k l.
              let first : 0 + k ≡ k = omega arith in
              rw (lt-ltb y rows ly) (rw first at (written_at s k l) ∙ (rows-old k l).1);
        }

    -- one row more, with the row below it as it was
    pub rows_more : {changed : ℕ} {next' : List ℕ} → y < rows → row_bit set end ≡ 1 →
        ((changed ≡ 0) ↔ Same (y * columns) columns words' words'') →
        RowsAdded (λ z. not (eqb changed 0) && leb y z && leb z (y + 2)) next next' →
        RowsFrom set columns rows words mask four eight y words'' next' (bit_or moved changed)
    rows_more {changed} {next'} ly among here added =
        record {
          size = w.size ∙ r.size;
          grown =
              λ z k l h lk e.
              by-eq z y
              (λ q.
              rw q
              (grown_at-same lk (λ i li. let old = rows-old i li in (old.0, old.1, saved-below i li))
              (written_at w k lk)))
              (λ d. rw (rows-later z k (omega arith)) (r.grown z k (omega arith) h lk e));
          kept =
              λ z k l h lk e.
              by-eq z y (λ q. absurd (omega (arith, rw is_end at among, rw q at e)))
              (λ d. rows-later z k (omega arith) ∙ r.kept z k (omega arith) h lk e);
          before = λ at l. written-before w at l ∙ r.before at (omega (arith, mul_next columns y));
          is_moved = (
            λ e z l h.
                let parts = or-zero moved changed e in
                by-eq z y (λ q. rw q (row_moved.1 (here.0 parts.1)))
                (λ d k lk. rows-later z k (omega arith) ∙ r.is_moved.0 parts.0 z (omega arith) h k lk),
            λ same.
                let none : moved ≡ 0 =
                r.is_moved.1 (λ z l h k lk. sym (rows-later z k (omega arith)) ∙ same z (omega arith) h k lk) in
                let nothing : changed ≡ 0 = here.1 (row_moved.0 (same y (omega arith) ly)) in
                rw (none, nothing) refl,
          );
          noted =
              λ z l h.
              by-eq z y (λ q. rw q now-noted)
              (λ d. later-noted z (omega arith) (r.noted z (omega arith) h));
        }
      where
        saved-below : (i : ℕ) → i < columns → get_or below i 0 ≡ row_at columns rows words (y + 1) i
        saved-below = (rw is_end at saved).each

        -- the row itself
        now-noted : SameRow columns words words'' y
            ⊎ ((n : ℕ) → y ≤ n → n ≤ y + 2 → row_bit next' n ≡ 1)
        now-noted =
            by-eq changed 0 (λ e. inl (row_moved.1 (here.0 e)))
            (λ d.
            inr
            (λ n l h.
            let some : row_bit next' n ≡ max (row_bit next n) 1 =
            added.bits n ∙ rw (ne_eqb changed 0 d, le-leb y n l, le-leb n (y + 2) h) refl in
            omega (arith, some, row_bit-le next n)))

        -- one below it
        later-noted : (z : ℕ) → y < z →
            SameRow columns words words' z ⊎ ((n : ℕ) → z ≤ n → n ≤ z + 2 → row_bit next n ≡ 1) →
            SameRow columns words words'' z ⊎ ((n : ℕ) → z ≤ n → n ≤ z + 2 → row_bit next' n ≡ 1)
        later-noted z l (inl same) = inl (λ k lk. rows-later z k l ∙ same k lk)
        later-noted z l (inr some) =
            inr
            (λ n m h.
            let b = bit_le (not (eqb changed 0) && leb y n && leb n (y + 2)) in
            omega (arith, added.bits n, some n m h, b))
