-- Laws of places in packed rows and in a frame. Assumes nothing.
--   word-inside     a word of a row is inside the rows
--   or-zero         none of two words has a bit set
--   same_more       one more entry is compared
use Prim.Native.Nat.{ℕ, ◌+◌, ◌*◌, ◌≤◌, ◌<◌}
use mathlib.Core.Path.{◌≡◌, sym, ◌∙◌}
use mathlib.Core.List.{List}
use mathlib.Core.Logic.{◌↔◌}
use native.Mathlib.Omega.{arith}
use native.Mathlib.Nat.{mul_comm, mul-le-mul_right, mul-le-mul_left, suc-mul}
use lib.Bits.{bit_or, bit_xor, or_add_and, xor_add_and, and_le_l, and_le_r, xor_self}
use lib.ListN.{length, get_or, set}
use lib.Seq.{get_or-set_same, get_or-set_other}
use Rattle.lists.proofs.BoolLaws.{by-eq}
use Rattle.neighbours.specs.Limits.{max_side}
use Rattle.neighbours.specs.Words.{max_row_words, max_words}
use Rattle.words.specs.Frame.{Written, Same}

-- a word of a row is inside, and there are few
pub word-inside : (columns rows k y : ℕ) → k < columns → y < rows → columns ≤ max_row_words →
    rows ≤ max_side →
    (y * columns + k < columns * rows) × (y * columns ≤ max_words)
word-inside columns rows k y lk ly narrow low =
    let row = rw (mul_comm rows columns) at (mul-le-mul_right columns ly) in
    let most = mul-le-mul_left y narrow in
    (omega (arith, row, suc-mul y columns), omega (arith, most))

-- ---- words that changed

pub or-zero : (a b : ℕ) → bit_or a b ≡ 0 → (a ≡ 0) × (b ≡ 0)
or-zero a b e =
    let s = or_add_and a b in
    let l = and_le_l a b in
    let r = and_le_r a b in
    (omega arith, omega arith)

xor-zero : (a b : ℕ) → bit_xor a b ≡ 0 → a ≡ b
xor-zero a b e = let s = xor_add_and a b in let l = and_le_l a b in let r = and_le_r a b in omega arith

-- one more entry is written and compared with what stood there
pub same_more : {P : ℕ → ℕ → Type 0} {from n moved : ℕ} {entries entries' : List ℕ} (at v : ℕ) →
    Written P from 1 n entries entries' → at ≡ from + n → at < length entries →
    ((moved ≡ 0) ↔ Same from n entries entries') →
    (bit_or moved (bit_xor (get_or entries' at 0) v) ≡ 0) ↔ Same from (n + 1) entries (set entries' at v)
same_more {P} {from} {n} {moved} {entries} {entries'} at v w e l iff =
    let old : get_or entries' at 0 ≡ get_or entries at 0 = w.others at (λ i h q. omega (arith, q, e)) in
    let inside : at < length entries' = omega (arith, w.size) in
    let new : get_or (set entries' at v) at 0 ≡ v = get_or-set_same entries' at v 0 inside in (
      λ z y h.
          let parts = or-zero moved (bit_xor (get_or entries' at 0) v) z in
          by-eq y n
          (λ q. rw (q, ← e) (new ∙ sym (xor-zero (get_or entries' at 0) v parts.1) ∙ old))
          (λ d.
          get_or-set_other entries' at (from + y) v 0 (λ q. omega (arith, q, e))
          ∙ iff.0 parts.0 y (omega arith)),
      λ same.
          let none : moved ≡ 0 =
          iff.1
          (λ y h. sym (get_or-set_other entries' at (from + y) v 0 (λ q. omega (arith, q, e)))
          ∙ same y (omega arith)) in
          let last : get_or entries' at 0 ≡ v = old ∙ sym (rw (← e) at (same n (omega arith))) ∙ new in
          rw (none, last) (xor_self v),
    )
