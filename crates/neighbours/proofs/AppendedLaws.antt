-- Laws of `Appended` (`specs/Crop.antt`): what is written behind a queue's front. Assumes nothing.
--   appended-none, appended_one     nothing, or one position, is written behind the front
--   length-appended                 the queue keeps its length
--   appended-room                   one that keeps its length had room
--   take-appended, drop-appended    what stands at its front then, and behind
--   appended-append                 two stretches, one behind the other
--   appended-whole                  what is written reaches the queue's end
use Prim.Native.Nat.{ℕ, ◌+◌, ◌≤◌, ◌<◌}
use mathlib.Core.Path.{◌≡◌, refl, sym, ap, ◌∙◌}
use mathlib.Core.List.{List, [], ◌∷◌, ◌++◌, append-nil, append_assoc}
use native.Mathlib.Omega.{arith}
use native.Mathlib.Numerals.{add-one}
use lib.ListN.{length, take, drop, set, length-append, length-drop, take-append-drop}
use lib.Seq.{length-take-le, take_all, take_at, drop-append-add, drop-drop, set_split, append_snoc}
use Rattle.neighbours.specs.Crop.{Appended}

-- nothing is written
pub appended-none : (queue : List ℕ) (len : ℕ) → Appended queue len [] queue len
appended-none queue len = record { counted = omega arith; written = sym (rw append-nil (take-append-drop len queue)) }

-- one position is written
pub appended_one : (queue : List ℕ) (len at : ℕ) → len < length queue →
    Appended queue len (at ∷ []) (set queue len at) (len + 1)
appended_one queue len at l =
    record {
      counted = refl;
      written = set_split queue len at l ∙ sym (append_snoc (take len queue) at _) ∙ rw add-one;
    }

module _ {queue positions queue' : List ℕ} {len len' : ℕ}
    (a : Appended queue len positions queue' len') (room : len' ≤ length queue) where
  -- so long are the front and what is written behind it
  length_front : length (take len queue ++ positions) ≡ len'
  length_front =
      length-append (take len queue) positions
      ∙ omega (arith, a.counted, length-take-le len queue (omega (arith, a.counted)))

  -- the queue keeps its length
  pub length-appended : length queue' ≡ length queue
  length-appended =
      ap length a.written ∙ length-append (take len queue ++ positions) (drop len' queue)
      ∙ omega (arith, length_front, length-drop len' queue)

  -- at its front stands what stood there, and what is written
  pub take-appended : take len' queue' ≡ take len queue ++ positions
  take-appended = ap (take len') a.written
      ∙ take_at (take len queue ++ positions) (drop len' queue) len' length_front

  -- behind that stands what stood there
  pub drop-appended : (n : ℕ) → drop (len' + n) queue' ≡ drop (len' + n) queue
  drop-appended n =
      let front = take len queue ++ positions in
      ap (drop (len' + n)) a.written
      ∙ ap (λ (m : ℕ). drop (m + n) (front ++ drop len' queue)) (sym length_front)
      ∙ drop-append-add front (drop len' queue) n
      ∙ drop-drop n len' queue

  -- one stretch behind the other
  pub appended-append : {more queue'' : List ℕ} {len'' : ℕ} → Appended queue' len' more queue'' len'' →
      Appended queue len (positions ++ more) queue'' len''
  appended-append {more} {queue''} {len''} b =
      record {
        counted = omega (arith, a.counted, b.counted, length-append positions more);
        written = b.written ∙ rw (
          b.counted,
          take-appended,
          drop-appended,
          append_assoc (take len queue) positions more,
        );
      }

-- a queue that keeps its length had room
pub appended-room : {queue positions queue' : List ℕ} {len len' : ℕ} → Appended queue len positions queue' len' →
    len ≤ length queue →
    length queue' ≡ length queue → len' ≤ length queue
appended-room {queue} {positions} {queue'} {len} {len'} a front kept =
    let whole = ap length a.written ∙ length-append (take len queue ++ positions) (drop len' queue) in
    let written = length-append (take len queue) positions in
    omega (arith, whole, written, a.counted, length-take-le len queue front, length-drop len' queue)

-- where what is written ends with the queue, nothing stands behind
pub appended-whole : {queue positions queue' : List ℕ} {len len' : ℕ} → Appended queue len positions queue' len' →
    len' ≡ length queue →
    queue' ≡ take len queue ++ positions
appended-whole {queue} {positions} {queue'} {len} {len'} a e =
    let room : len' ≤ length queue = omega arith in
    sym (take_all len' queue' (omega (arith, length-appended a room))) ∙ take-appended a room
