-- Laws of answers, and of the table's row "buffers" (`buffer_checks`, of the crate `model`) over any buffers.
-- Assumes nothing.
--   verdict-refused, verdict-accepted   what an answer tells of the refusal that it is judged by
--   check-last                          a last check is a row
--   row-refused, row-accepted           what an answer on a row tells of it and the checks behind it
--   check-refused, check-accepted       and one on a single check
--   entry-refused, entry-accepted       the checks of each entry of a list, in turn
--   check_passed                        a condition on which nothing is refused does not hold
--   size-good                           the product of sides that are not bad is a small number
--   SameLengths                         three lengths stand for the buffers'
--   same_lengths-one                    that of one buffer does, given three times
--   buffer_checks-append                then the row's checks are those by lengths (`length_checks`), and the pixels'
use Prim.Native.Nat.{ℕ, suc, ◌*◌, ◌≤◌, ◌<◌}
use mathlib.Core.Path.{◌≡◌, refl, sym, ap, ◌∙◌}
use mathlib.Core.Bool.{Bool, true, false, not, ◌||◌, or-false, or_self}
use mathlib.Core.List.{List, [], ◌∷◌, ◌++◌, flat_map}
use mathlib.Core.Option.{Option, none, some}
use lib.Dec.{eqb}
use lib.ListN.{length, get_or, take, drop, take-append-drop}
use lib.Seq.{drop-cons}
use Rattle.lists.proofs.ListLaws.{flat_map-append, flat_map-take-suc}
use Rattle.neighbours.specs.Limits.{max_pixels, max_side}
use Rattle.lists.specs.Lists.{any}
use Rattle.neighbours.proofs.PositionLaws.{size-le}
use Rattle.model.specs.declared.Refusal.{Refusal}
use Rattle.model.specs.declared.Refusal.TheVariants.{BadPixel}
use Rattle.model.specs.Refusals.{bad_side, bad_pixel, wrong_length, refuse_if, first_refusal, buffer_checks}
use Rattle.theorems.proofs.CheckLaws.{first_refusal-append, first_refusal-append-some}
use Rattle.theorems.proofs.RefusalLaws.{sides-iff}
use Rattle.model.specs.Refusals.{refusal}
use Rattle.judging.specs.Lengths.{size_checks, length_checks}
use Rattle.std.specs.Prelude.{Result, Ok, Err}

-- ---- answers

-- what an answer tells of the refusal that it is judged by: it is that one, or none
pub verdict-refused : {A : Type 0} {v : Result A Refusal} {row : Option Refusal} {r : Refusal} →
    refusal v ≡ row → v ≡ Err r → row ≡ some r
unfolding refusal
verdict-refused judged e = sym judged ∙ rw e

pub verdict-accepted : {A : Type 0} {v : Result A Refusal} {row : Option Refusal} {x : A} →
    refusal v ≡ row → v ≡ Ok x → row ≡ none
unfolding refusal
verdict-accepted judged e = sym judged ∙ rw e

-- a last check is a row
pub check-last : {A : Type 0} (v : Result A Refusal) (check : Option Refusal) → refusal v ≡ check →
    refusal v ≡ first_refusal (check ∷ [])
unfolding first_refusal
check-last v none judged = judged
check-last v (some r) judged = judged

-- where a row refuses, so it and any checks behind it do
pub row-refused : {A B : Type 0} {v : Result A Refusal} {w : Result B Refusal} {r : Refusal}
    (row behind : List (Option Refusal)) →
    refusal v ≡ first_refusal row → v ≡ Err r → w ≡ Err r → refusal w ≡ first_refusal (row ++ behind)
unfolding refusal
row-refused {r = r} row behind judged e f =
    rw f (sym (first_refusal-append-some row behind r (sym judged ∙ rw e)))

-- where it accepts, the checks behind it answer
pub row-accepted : {A : Type 0} {v : Result A Refusal} {x : A} {answer : Option Refusal}
    (row behind : List (Option Refusal)) →
    refusal v ≡ first_refusal row → v ≡ Ok x → answer ≡ first_refusal behind → answer ≡ first_refusal (row ++ behind)
unfolding refusal
row-accepted row behind judged e rest = rest ∙ sym (first_refusal-append row behind (sym judged ∙ rw e))

-- the same of a single check before the others
pub check-refused : {A B : Type 0} {v : Result A Refusal} {w : Result B Refusal} {r : Refusal}
    (check : Option Refusal) (behind : List (Option Refusal)) →
    refusal v ≡ check → v ≡ Err r → w ≡ Err r → refusal w ≡ first_refusal (check ∷ behind)
check-refused {v = v} check behind judged e f = row-refused (check ∷ []) behind (check-last v check judged) e f

pub check-accepted : {A : Type 0} {v : Result A Refusal} {x : A} {answer : Option Refusal}
    (check : Option Refusal) (behind : List (Option Refusal)) →
    refusal v ≡ check → v ≡ Ok x → answer ≡ first_refusal behind → answer ≡ first_refusal (check ∷ behind)
check-accepted {v = v} check behind judged e rest = row-accepted (check ∷ []) behind (check-last v check judged) e rest

-- ---- the checks of each entry of a list, in turn

module _ {E A : Type 0} (checks : E → List (Option Refusal)) (xs : List E) (k : ℕ) (d : E) (l : k < length xs)
    (passed : first_refusal (flat_map checks (take k xs)) ≡ none) {v : Result A Refusal}
    (judged : refusal v ≡ first_refusal (checks (get_or xs k d))) where
  -- where those before it pass and an entry is refused, so is the list
  pub entry-refused : {B : Type 0} {w : Result B Refusal} {r : Refusal} → v ≡ Err r → w ≡ Err r →
      refusal w ≡ first_refusal (flat_map checks xs)
  unfolding flat_map
  entry-refused e f =
      let behind = flat_map checks (drop (suc k) xs) in
      row-refused (checks (get_or xs k d)) behind judged e f
      ∙ sym (first_refusal-append (flat_map checks (take k xs)) (checks (get_or xs k d) ++ behind) passed)
      ∙ sym (ap (λ (l : List E). first_refusal (flat_map checks l)) (sym (take-append-drop k xs))
      ∙ rw (flat_map-append, drop-cons xs k d l))

  -- where it is accepted, the entries up to it pass
  pub entry-accepted : {x : A} → v ≡ Ok x → first_refusal (flat_map checks (take (suc k) xs)) ≡ none
  unfolding refusal
  entry-accepted e =
      rw (flat_map-take-suc checks k xs d l)
      (first_refusal-append _ _ passed ∙ sym judged ∙ rw e)

-- ---- what passed

refuse_if-none : (reason : Refusal) (t : Bool) → refuse_if t reason ≡ none → t ≡ false
unfolding refuse_if
refuse_if-none reason true e = cc
refuse_if-none reason false e = refl

-- a condition on which nothing is refused does not hold
pub check_passed : {A : Type 0} {v : Result A Refusal} {x : A} (reason : Refusal) (t : Bool) →
    refusal v ≡ refuse_if t reason → v ≡ Ok x → t ≡ false
unfolding refusal
check_passed reason t judged e = refuse_if-none reason t (sym judged ∙ rw e)

-- ---- the size

-- the product of sides that are not bad is a small number
pub size-good : (width height : ℕ) → bad_side max_side width || bad_side max_side height ≡ false →
    width * height ≤ max_pixels
size-good width height good = size-le ((sides-iff width height).0 good)

-- ---- the row

-- one of three lengths is wrong exactly if a buffer's is
abbrev pub SameLengths : ℕ → List (List ℕ) → ℕ → ℕ → ℕ → Type 0
SameLengths needed buffers first second third =
    any (wrong_length needed) buffers ≡ (not (eqb first needed) || not (eqb second needed) || not (eqb third needed))

-- the length of one buffer, given three times
pub same_lengths-one : (needed : ℕ) (image : List ℕ) →
    SameLengths needed (image ∷ []) (length image) (length image) (length image)
unfolding any wrong_length
same_lengths-one needed image = simp (or_self, or-false)

module _ (width height : ℕ) (buffers : List (List ℕ)) (queue : List ℕ)
    (pixels : List (List ℕ)) (first second third : ℕ) where
  -- then the row's checks are those by lengths, and the pixels' behind them
  pub buffer_checks-append : SameLengths (width * height) buffers first second third →
      buffer_checks width height buffers queue pixels
      ≡ length_checks width height first second third
      (length queue) ++ (refuse_if (any (any bad_pixel) pixels) BadPixel ∷ [])
  unfolding buffer_checks size_checks length_checks
  buffer_checks-append same = rw same

  -- so what answers these answers the row
  pub buffer_checks-lengths : SameLengths (width * height) buffers first second third → {answer : Option Refusal} →
      answer ≡ first_refusal (length_checks width height first second third (length queue)
      ++ (refuse_if (any (any bad_pixel) pixels) BadPixel ∷ [])) →
      answer ≡ first_refusal (buffer_checks width height buffers queue pixels)
  buffer_checks-lengths same e = e ∙ sym (ap first_refusal (buffer_checks-append same))
