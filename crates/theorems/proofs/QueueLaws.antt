-- Laws of the queue (`specs/Queue.antt`, and `SameQueue` of `specs/Calls.antt`).
--   front-take                  the front of a queue that is long enough
--   take-filled, drop-filled, length-filled, front-filled   a filled queue
--   holds_contour-iff            a queue holds the contour exactly if it may be handed in and has zeros behind
--   is_contour-length, holds_contour-length   it has as many positions as the contour
--   same_queue-refl, same_queue-lent   a queue against itself, and against a state that holds no contour
--   same_queue-with_contour-iff   a queue is one with the contour put into it, but for the order, exactly if
--                               it holds the contour
-- Assumes nothing.
use Prim.Native.Nat.{ℕ, ◌-◌, ◌*◌, ◌≤◌}
use mathlib.Core.Path.{◌≡◌, refl, sym, ap, ◌∙◌}
use mathlib.Core.Bool.{true}
use mathlib.Core.Logic.{◌↔◌}
use mathlib.Core.List.{List, []}
use native.Mathlib.Omega.{arith}
use lib.ListN.{length, take, drop, replicate, length-append, length-replicate}
use lib.Seq.{take-append_seam, drop-append_seam, length-take-le}
use borrow.Author.Tests.{le-leb}
use Rattle.lists.specs.Lists.{occurrences}
use Rattle.lists.proofs.BoolLaws.{by-lt, cond-true}
use Rattle.lists.proofs.ListLaws.{length-same-occurrences}
use Rattle.neighbours.specs.Contour.{contour}
use Rattle.neighbours.proofs.ContourLaws.{occurrences-contour, occurrences-contour-out, length-contour-le}
use Rattle.model.specs.Refusals.{is_contour}
use Rattle.model.specs.Queue.{front, filled, HoldsContour}
use Rattle.model.specs.Calls.{State, lent, with_contour, SameQueue}
use Rattle.theorems.proofs.RefusalLaws.{is_contour-iff}

-- the front of a queue that is long enough
pub front-take : (n : ℕ) (queue : List ℕ) → n ≤ length queue → front n queue ≡ take n queue
unfolding front
front-take n queue h = cond-true (take n queue) [] (le-leb n (length queue) h)

-- ---- a filled queue

module _ (positions queue : List ℕ) where
  -- the positions stand at its front
  pub take-filled : take (length positions) (filled positions queue) ≡ positions
  unfolding filled
  take-filled = take-append_seam positions (replicate (length queue - length positions) 0)

  -- zeros stand behind
  pub drop-filled : drop (length positions) (filled positions queue) ≡ replicate (length queue - length positions) 0
  unfolding filled
  drop-filled = drop-append_seam positions (replicate (length queue - length positions) 0)

  -- it is as long as it was, if they fit
  pub length-filled : length positions ≤ length queue → length (filled positions queue) ≡ length queue
  unfolding filled
  length-filled h = simp (length-append, length-replicate) (omega arith)

  -- and then they are its front
  pub front-filled : length positions ≤ length queue → front (length positions) (filled positions queue) ≡ positions
  front-filled h =
      front-take (length positions) (filled positions queue) (omega (arith, length-filled h)) ∙ take-filled

-- ---- a queue that holds the contour

module _ (width height : ℕ) (image queue : List ℕ) (n : ℕ) where
  -- a queue holds the contour exactly if it may be handed in and has zeros behind
  pub holds_contour-iff :
      HoldsContour width height image queue n
      ↔ ((is_contour width height image queue n ≡ true) × (drop n queue ≡ replicate (length queue - n) 0))
  holds_contour-iff =
      let handed = is_contour-iff width height image queue n in (
        λ h. (
          handed.1 (
            h.within,
            λ i.
                ap (occurrences i) (sym (front-take n queue h.within))
                ∙ by-lt i (width * height)
                (λ l. h.once i l ∙ sym (occurrences-contour width height image i l))
                (λ l. h.no_other i l ∙ sym (occurrences-contour-out width height image i l)),
          ),
          h.zeros,
        ),
        λ h.
            let same = handed.0 h.0 in
            let at = front-take n queue same.0 in
            record {
              within = same.0;
              once = λ i l. ap (occurrences i) at ∙ same.1 i ∙ occurrences-contour width height image i l;
              no_other = λ i l. ap (occurrences i) at ∙ same.1 i ∙ occurrences-contour-out width height image i l;
              zeros = h.1;
            },
      )

  -- a contour handed in has as many positions as the image's
  pub is_contour-length : is_contour width height image queue n ≡ true → n ≡ length (contour width height image)
  is_contour-length e =
      let h = (is_contour-iff width height image queue n).0 e in
      sym (length-take-le n queue h.0) ∙ length-same-occurrences (take n queue) (contour width height image) h.1

  -- and so has a queue that holds it
  pub holds_contour-length : HoldsContour width height image queue n → n ≡ length (contour width height image)
  holds_contour-length h = is_contour-length (holds_contour-iff.0 h).0

-- ---- a queue against what the model keeps

-- the model's queue against itself
pub same_queue-refl : (state : State) → SameQueue state.queue state
same_queue-refl state = record { size = refl; front = λ i. refl; behind = refl }

-- against a state that holds no contour it is the same queue
pub same_queue-lent : {image queue queue' : List ℕ} → SameQueue queue' (lent image queue) → queue' ≡ queue
same_queue-lent s = s.behind

-- a queue is the contour put into a queue with room, but for the order, exactly if it holds the contour
pub same_queue-with_contour-iff : (width height : ℕ) (image queue queue' : List ℕ) → width * height ≤ length queue →
    SameQueue queue' (with_contour width height image queue)
    ↔ ((length queue' ≡ length queue) × HoldsContour width height image queue' (length (contour width height image)))
unfolding with_contour
same_queue-with_contour-iff width height image queue queue' room =
    let positions = contour width height image in
    let n = length positions in
    let fits : n ≤ length queue = omega (arith, length-contour-le width height image) in
    let handed = is_contour-iff width height image queue' n in
    let holds = holds_contour-iff width height image queue' n in (
      λ s.
          let size : length queue' ≡ length queue = s.size ∙ length-filled positions queue fits in (
            size,
            holds.1 (
              handed.1 (omega arith, λ i. s.front i ∙ ap (occurrences i) (take-filled positions queue)),
              s.behind ∙ drop-filled positions queue ∙ ap (λ (k : ℕ). replicate (k - n) 0) (sym size),
            ),
          ),
      λ h.
          let k = holds.0 h.1 in
          record {
            size = h.0 ∙ sym (length-filled positions queue fits);
            front = λ i. (handed.0 k.0).1 i ∙ ap (occurrences i) (sym (take-filled positions queue));
            behind = k.1 ∙ ap (λ (m : ℕ). replicate (m - n) 0) h.0 ∙ sym (drop-filled positions queue);
          },
    )
