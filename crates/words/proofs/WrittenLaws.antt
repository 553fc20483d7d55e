-- Laws of entries that a loop writes (`Written`, specs/Frame.antt).
--   written_none, written-more       none, and one more
--   written-before, written_behind   entries in front of a stretch and behind it stay
--   written_at                       each entry of it is one that was written
--   written_filled                   a stretch that is filled with one word
-- Assumes nothing.
use Prim.Native.Nat.{ℕ, ◌+◌, ◌-◌, ◌*◌, ◌≤◌, ◌<◌}
use mathlib.Core.Path.{◌≡◌, refl, sym, ap, ◌∙◌}
use mathlib.Core.List.{List}
use native.Mathlib.Omega.{arith}
use native.Mathlib.Nat.{mul-le-mul_right, suc-mul}
use lib.ListN.{length, get_or, set, length-set, replicate}
use borrow.Rule.Slice.PartMut.{mid_of, put_mid}
use Rattle.std.proofs.lemmas.List.{places}
use lib.Seq.{get_or-set_same, get_or-set_other}
use Rattle.lists.proofs.BoolLaws.{by-eq, by-lt}
use Rattle.words.specs.Frame.{Written}

-- none are written
pub written_none : (P : ℕ → ℕ → Type 0) (from step : ℕ) (entries : List ℕ) →
    Written P from step 0 entries entries
written_none P from step entries =
    record { size = refl; written = λ i l. absurd (omega arith); others = λ at h. refl }

-- places apart are not the same
apart : (step i n : ℕ) → 1 ≤ step → i < n → i * step < n * step
apart step i n pos l =
    let more = mul-le-mul_right step l in
    omega (arith, more, suc-mul i step)

-- one more is written
pub written-more : {P : ℕ → ℕ → Type 0} {from step n : ℕ} {entries entries' : List ℕ} (at v : ℕ) →
    1 ≤ step →
    Written P from step n entries entries' → at ≡ from + n * step → at < length entries → P n v →
    Written P from step (n + 1) entries (set entries' at v)
written-more {P} {from} {step} {n} {entries} {entries'} at v pos w e l p =
    let inside : at < length entries' = omega (arith, w.size) in
    record {
      size = length-set entries' at v ∙ w.size;
      written =
          λ i h.
          by-eq i n
          (λ q.
          let same : get_or (set entries' at v) (from + i * step) 0 ≡ v =
          ap (λ (j : ℕ). get_or (set entries' at v) j 0) (ap (λ (j : ℕ). from + j * step) q ∙ sym e)
          ∙ get_or-set_same entries' at v 0 inside in
          rw (same, q) p)
          (λ d.
          let less = apart step i n pos (omega arith) in
          rw (get_or-set_other entries' at (from + i * step) v 0 (λ q. omega (arith, less, q, e)))
          (w.written i (omega arith)));
      others =
          λ j h.
          get_or-set_other entries' at j v 0 (λ q. h n (omega arith) (q ∙ e))
          ∙ w.others j (λ i m q. h i (omega arith) q);
    }

-- of a stretch, entries in front of it stay, and entries behind it
pub written-before : {P : ℕ → ℕ → Type 0} {from n : ℕ} {entries entries' : List ℕ} →
    Written P from 1 n entries entries' → (at : ℕ) → at < from → get_or entries' at 0 ≡ get_or entries at 0
written-before w at l = w.others at (λ i h q. omega (arith, q))

pub written_behind : {P : ℕ → ℕ → Type 0} {from n : ℕ} {entries entries' : List ℕ} →
    Written P from 1 n entries entries' → (at : ℕ) → from + n ≤ at →
    get_or entries' at 0 ≡ get_or entries at 0
written_behind w at l = w.others at (λ i h q. omega (arith, q))

-- and each entry of it is one that was written
pub written_at : {P : ℕ → ℕ → Type 0} {from n : ℕ} {entries entries' : List ℕ} →
    Written P from 1 n entries entries' → (i : ℕ) → i < n → P i (get_or entries' (from + i) 0)
written_at {P} {from} {n} {entries} {entries'} w i l =
    let e : from + i * 1 ≡ from + i = omega arith in
    rw e at (w.written i l)

-- a stretch that is filled with one word
pub written_filled : {from n word : ℕ} {entries part : List ℕ} → from + n ≤ length entries →
    part ≡ replicate (length (mid_of from (from + n - from) entries)) word →
    Written (λ i w. w ≡ word) from 1 n entries (put_mid from (from + n - from) entries part)
written_filled {from} {n} {word} {entries} {part} within e =
    let many : from + n - from ≡ n = omega arith in
    let size : length part ≡ n = rw e (grind (arith, places)) in
    record {
      size = grind (arith, places);
      written = λ i l. rw e (grind (arith, places));
      others =
          λ at h.
          by-lt at from (λ l. grind (arith, places))
          (λ l.
          by-lt at (from + n) (λ m. absurd (h (at - from) (omega arith) (omega arith))) (λ m. grind (arith, places)));
    }
