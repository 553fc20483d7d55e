-- Laws of entries written one behind the other (`Appended`, of the crate `neighbours`), for loops that
-- read on and write at the same time. Assumes nothing.
--   appended-snoc             one entry more is written
--   get_or-appended-behind    what stands behind is as it was
--   slice-range               a stretch, as a range of the queue gives it
--   stretch-front             a stretch is copied to the front
--   stretch-lt                the next entry of a stretch is a position
--   stretch-none              by a test: no entry of a stretch is moved yet
--   stretch-yes, stretch-no   the next entry passes and is moved, or is left out
use Prim.Native.Nat.{ℕ, ◌+◌, ◌-◌, ◌≤◌, ◌<◌}
use mathlib.Core.Path.{◌≡◌, sym, ap, ◌∙◌}
use mathlib.Core.Bool.{Bool, true, false}
use mathlib.Core.List.{List, [], ◌∷◌, ◌++◌, append-nil}
use native.Mathlib.Omega.{arith}
use native.Mathlib.Nat.{add-zero, zero-add}
use native.Mathlib.Numerals.{add-one}
use lib.ListN.{length, get_or, set, take, drop, length-drop}
use lib.Seq.{slice, slice_empty, get_or-drop, paste, length-take-le}
use Rattle.std.proofs.lemmas.List.{drop-take}
use Rattle.lists.specs.Lists.{select}
use Rattle.lists.proofs.ListLaws.{select-append, slice_snoc}
use Rattle.neighbours.specs.Crop.{Appended}
use Rattle.engine.specs.Leaves.{Positions}
use Rattle.neighbours.proofs.AppendedLaws.{appended-none, appended_one, appended-append, length-appended, drop-appended}

module _ {list entries list' : List ℕ} {len end : ℕ} (a : Appended list len entries list' end) where
  -- one entry more is written behind those
  pub appended-snoc : (entry : ℕ) → end < length list →
      Appended list len (entries ++ entry ∷ []) (set list' end entry) (end + 1)
  appended-snoc entry lt =
      let room : end ≤ length list = omega arith in
      appended-append a room (appended_one list' end entry (omega (arith, length-appended a room)))

  -- an entry behind those is as it was
  pub get_or-appended-behind : (k : ℕ) → end ≤ k → k < length list → get_or list' k 0 ≡ get_or list k 0
  get_or-appended-behind k le lt =
      let e : end + (k - end) ≡ k = omega arith in
      ap (λ (n : ℕ). get_or list' n 0) (sym (add-zero k))
      ∙ sym (get_or-drop k list' 0 0)
      ∙ ap (λ (l : List ℕ). get_or l 0 0) (rw e at (drop-appended a (omega arith) (k - end)))
      ∙ get_or-drop k list 0 0
      ∙ ap (λ (n : ℕ). get_or list n 0) (add-zero k)

-- a stretch, as a range of the queue gives it
pub slice-range : (from to : ℕ) (list : List ℕ) → from ≤ to → slice from to list ≡ take (to - from) (drop from list)
slice-range from to list ordered =
    let e : from + (to - from) ≡ to = omega arith in
    rw e at (drop-take from (to - from) list)

-- a stretch is copied to the front
pub stretch-front : (list : List ℕ) (from to : ℕ) → from ≤ to → to ≤ length list →
    Appended list 0 (slice from to list) (paste list 0 (drop from list) (to - from)) (to - from)
stretch-front list from to ordered within =
    let e = slice-range from to list ordered in
    record {
      counted = omega (arith, ap length e, length-take-le (to - from) (drop from list), length-drop from list);
      written = rw (e, zero-add);
    }

-- its next entry is a position where no more is moved than was read
pub stretch-lt : {list list' entries : List ℕ} {from to pixels len : ℕ} (slot : ℕ) → Positions list from to pixels →
    Appended list 0 entries list' len → len ≤ slot → from ≤ slot → slot < to → get_or list' slot 0 < pixels
stretch-lt slot p a le begun lt =
    omega (arith, get_or-appended-behind a slot le (omega (arith, p.within)), p.entries slot begun lt)

-- an empty stretch, by a test: nothing is moved
pub stretch-none : (f : ℕ → Bool) (list : List ℕ) (from : ℕ) → Appended list 0 (select f (slice from from list)) list 0
unfolding select
stretch-none f list from = rw (ap (select f) (slice_empty from list)) (appended-none list 0)

module _ {list list' : List ℕ} {from len slot : ℕ}
    (begun : from ≤ slot) (le : len ≤ slot) (lt : slot < length list) where
  -- the next entry of the stretch is not overwritten yet
  slice-next : {entries : List ℕ} → Appended list 0 entries list' len →
      slice from (slot + 1) list ≡ slice from slot list ++ get_or list' slot 0 ∷ []
  slice-next a =
      ap (λ (n : ℕ). slice from n list) (add-one slot)
      ∙ slice_snoc from slot list begun lt
      ∙ ap (λ (entry : ℕ). slice from slot list ++ entry ∷ []) (sym (get_or-appended-behind a slot le lt))

  module _ (f : ℕ → Bool) {entry : ℕ} (next : entry ≡ get_or list' slot 0)
      (a : Appended list 0 (select f (slice from slot list)) list' len) where
    -- what is selected up to it
    select-next : select f (slice from (slot + 1) list) ≡ select f (slice from slot list) ++ select f (entry ∷ [])
    select-next = rw (slice-next a, next) (select-append f (slice from slot list) (get_or list' slot 0 ∷ []))

    -- it is moved where it passes the test
    pub stretch-yes : f entry ≡ true →
        Appended list 0 (select f (slice from (slot + 1) list)) (set list' len entry) (len + 1)
    unfolding select
    stretch-yes e = rw (select-next, e) (appended-snoc a entry (omega arith))

    -- and is left out where it does not
    pub stretch-no : f entry ≡ false → Appended list 0 (select f (slice from (slot + 1) list)) list' len
    unfolding select
    stretch-no e = rw (select-next, e, append-nil) a
