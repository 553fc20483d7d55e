-- Laws of `ListedColumns` (`specs/Regions.antt`): the flagged columns of a row are listed, column by column.
-- Assumes nothing.
--   ListedTo         those below a column are listed
--   listed_to-none   behind the first column none is looked at
--   listed_to-next   one more is
--   listed-all       all are
use Prim.Native.Nat.{ℕ, ◌+◌, ◌-◌, ◌≤◌, ◌<◌}
use mathlib.Core.Path.{◌≡◌, refl, ◌∙◌}
use mathlib.Core.List.{List}
use native.Mathlib.Omega.{arith}
use lib.ListN.{length, get_or, set, length-set}
use lib.Seq.{get_or-set_same, get_or-set_other}
use Rattle.lists.proofs.BoolLaws.{by-eq}
use Rattle.union_find.specs.Regions.{ListedColumns}

-- of the columns behind the first and below column x those whose flags are 1 stand at the front of found'
pub record ListedTo (x : ℕ) (flags : List ℕ) (start : ℕ) (found found' : List ℕ) (count : ℕ) : Type 0 where
  pub size : length found' ≡ length found
  pub few : count < x
  pub inside : (i : ℕ) → i < count → (1 ≤ get_or found' i 0) × (get_or found' i 0 < x)
  pub each : (z : ℕ) → 1 ≤ z → z < x → get_or flags (start + z) 0 ≡ 1 → (i : ℕ) × (i < count) × (get_or found' i 0 ≡ z)

-- behind the first column none is looked at
pub listed_to-none : {flags : List ℕ} {start : ℕ} {found : List ℕ} → ListedTo 1 flags start found found 0
listed_to-none =
    record {
      size = refl;
      few = omega arith;
      inside = λ i l. absurd (omega arith);
      each = λ z a b f. absurd (omega arith);
    }

-- the next column is written, and counts by its flag
pub listed_to-next : {x : ℕ} {flags : List ℕ} {start : ℕ} {found found' : List ℕ} {count : ℕ} →
    ListedTo x flags start found found' count → 1 ≤ x → x ≤ length found → get_or flags (start + x) 0 ≤ 1 →
    ListedTo (x + 1) flags start found (set found' count x) (count + get_or flags (start + x) 0)
listed_to-next {x} {flags} {start} {found} {found'} {count} g pos room bit =
    record {
      size = length-set found' count x ∙ g.size;
      few = omega (arith, g.few);
      inside =
          λ i l.
          by-eq i count (λ e. rw (e, new) (omega arith, omega arith))
          (λ d.
          let (a, b) = g.inside i (omega arith) in
          rw (old i d) (omega arith, omega arith));
      each =
          λ z a b f.
          by-eq z x
          (λ e. let flag : get_or flags (start + x) 0 ≡ 1 = rw (← e) f in (count, omega arith, rw e new))
          (λ d.
          let (i, l, q) = g.each z a (omega arith) f in
          (i, omega arith, old i (λ e. omega arith) ∙ q));
    }
  where
    new : get_or (set found' count x) count 0 ≡ x
    new = get_or-set_same found' count x 0 (omega (arith, g.few, g.size))

    old : (i : ℕ) → (i ≡ count → ⊥) → get_or (set found' count x) i 0 ≡ get_or found' i 0
    old i d = get_or-set_other found' count i x 0 d

-- all columns are looked at. A row that has none has none behind the first either
pub listed-all : {x width : ℕ} {flags : List ℕ} {start : ℕ} {found found' : List ℕ} {count : ℕ} →
    ListedTo x flags start found found' count → width ≤ x → x - 1 ≤ width - 1 →
    ListedColumns width flags start found found' count
listed-all g reached inside =
    let few = g.few in
    record {
      size = g.size;
      few = omega arith;
      inside = λ i l. let (a, b) = g.inside i l in (a, omega arith);
      each = λ z a b f. g.each z a (omega arith) f;
    }
