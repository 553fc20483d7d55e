-- Laws of `Extended` (`specs/Crop.antt`): what is written behind a queue's front, where anything may stand
-- behind that. Assumes nothing.
--   extended_none                     nothing is written
--   extended-one                      one position is
--   extended-over                     a position is written behind that does not count
--   extended-append                   two stretches, one behind the other
--   get_or-extended, front-extended   an entry at the front, and all of the front, is as it was
--   slice-extended                    what stands behind the front
use Prim.Native.Nat.{ℕ, ◌+◌, ◌≤◌, ◌<◌}
use mathlib.Core.Path.{◌≡◌, refl, sym, ap, ◌∙◌}
use mathlib.Core.List.{List, [], ◌∷◌, ◌++◌, append-nil, append_assoc}
use native.Mathlib.Omega.{arith}
use native.Mathlib.Nat.{add-zero}
use native.Mathlib.Numerals.{add-one}
use lib.ListN.{length, get_or, take, drop, set, length-set, length-append, get_or-append}
use lib.Seq.{slice, length-take-le, get_or-take, take-take, take_at, drop_at, take-set-le, take-suc-set}
use Rattle.neighbours.specs.Crop.{Extended}

-- nothing is written
pub extended_none : (queue : List ℕ) (len : ℕ) → Extended queue len [] queue len
extended_none queue len = record { counted = omega arith; size = refl; front = sym (append-nil (take len queue)) }

-- one position is written
pub extended-one : (queue : List ℕ) (len at : ℕ) → len < length queue →
    Extended queue len (at ∷ []) (set queue len at) (len + 1)
extended-one queue len at l =
    record { counted = refl; size = length-set queue len at; front = rw add-one (take-suc-set queue len at l) }

-- a position is written behind that does not count
pub extended-over : {queue positions queue' : List ℕ} {len len' : ℕ} (at : ℕ) →
    Extended queue len positions queue' len' →
    Extended queue len positions (set queue' len' at) (len' + 0)
extended-over {queue} {positions} {queue'} {len} {len'} at a =
    rw add-zero
    (record {
      counted = a.counted;
      size = length-set queue' len' at ∙ a.size;
      front = take-set-le len' queue' len' at (omega arith) ∙ a.front;
    })

module _ {queue positions queue' : List ℕ} {len len' : ℕ} (a : Extended queue len positions queue' len') where
  -- one stretch behind the other
  pub extended-append : {more queue'' : List ℕ} {len'' : ℕ} → Extended queue' len' more queue'' len'' →
      Extended queue len (positions ++ more) queue'' len''
  extended-append {more} {queue''} {len''} b =
      record {
        counted = omega (arith, a.counted, b.counted, length-append positions more);
        size = b.size ∙ a.size;
        front = b.front ∙ ap (λ (l : List ℕ). l ++ more) a.front ∙ append_assoc (take len queue) positions more;
      }

  module _ (room : len' ≤ length queue) where
    -- an entry at the front is as it was
    pub get_or-extended : (k : ℕ) → k < len → get_or queue' k 0 ≡ get_or queue k 0
    get_or-extended k l =
        let front = length-take-le len queue (omega (arith, a.counted)) in
        sym (get_or-take len' queue' k 0 (omega (arith, a.counted))) ∙ ap (λ (l : List ℕ). get_or l k 0) a.front
        ∙ get_or-append (take len queue) positions 0 k (omega arith)
        ∙ get_or-take len queue k 0 l

    -- and so is all of the front
    pub front-extended : take len queue' ≡ take len queue
    front-extended =
        sym (take-take len len' queue' (omega (arith, a.counted)))
        ∙ ap (take len) a.front
        ∙ take_at (take len queue) positions len (length-take-le len queue (omega (arith, a.counted)))

    -- behind the front stands what is written
    pub slice-extended : slice len len' queue' ≡ positions
    slice-extended =
        ap (drop len) a.front
        ∙ drop_at (take len queue) positions len (length-take-le len queue (omega (arith, a.counted)))
