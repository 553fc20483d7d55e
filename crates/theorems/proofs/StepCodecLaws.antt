-- Laws of step records, written and read (`specs/Codec.antt`). Assumes nothing.
--   u16-value, u16_bytes-u16_at, u16_at-lt   a number of 16 bits against its two bytes
--   step_at-step_bytes                       the step of a written record
--   step_refusal-step_bytes                  a written record is refused only by the checks of its step
--   read_steps-step_bytes                    written records are read as their steps
--   ReadBack, read_steps-accepted            what records that are read tell: the bytes are theirs
use Prim.Native.Nat.{ℕ, zero, suc, ◌+◌, ◌*◌, ◌/◌, ◌%◌, ◌<◌}
use mathlib.Core.Path.{◌≡◌, refl, sym, ap, ap₂, ◌∙◌}
use mathlib.Core.Bool.{false, ◌||◌, not}
use mathlib.Core.List.{List, [], ◌∷◌, ◌++◌, flat_map, append_assoc}
use mathlib.Core.Option.{none}
use native.Mathlib.Omega.{arith}
use native.Mathlib.Nat.{div-add-mod'}
use lib.Dec.{eqb}
use lib.ListN.{length, get_or, drop}
use lib.Seq.{get_or-drop}
use borrow.Author.Tests.{lt-leb, leb-false, not-false, eqb-true, eqb-false}
use Rattle.neighbours.proofs.PackedLaws.{Units}
use Rattle.model.specs.Limits.{u16_limit}
use Rattle.lists.specs.Lists.{Each, tabulate, count_from}
use Rattle.lists.proofs.BoolLaws.{or-false-left, or-false-right}
use Rattle.lists.proofs.ListLaws.{tabulate-append-drop}
use Rattle.model.specs.Refusals.{first_refusal, step_checks}
use Rattle.model.specs.Codec.{u16_bytes, u16_at, field_bytes, step_bytes, kind_length, step_at, step_refusal}
use Rattle.model.specs.Codec.{read_steps}
use Rattle.model.specs.Codec.{byte_bits, cons_step, StepsRead, refused_steps}
use Rattle.model.specs.Codec.{accepted_steps, StepFits}
use Rattle.theorems.proofs.CheckLaws.{by-refusal, first_refusal-cons, first_refusal-none-cons}
use Rattle.model.specs.declared.Step.{Step}
use Rattle.model.specs.declared.Step.TheVariants.{Erode, Dilate, Propagate, FloodFill, ClearBorder, ErodeBySides}

-- ---- a number of 16 bits

-- a number's two bytes read as the number
pub u16-value : (n : ℕ) → n / 256 * 256 + n % 256 ≡ n
u16-value n = div-add-mod' n 256

-- the two bytes at i are those of the number that stands there
pub u16_bytes-u16_at : (bytes : List ℕ) (i : ℕ) → Units byte_bits bytes →
    u16_bytes (u16_at bytes i) ≡ get_or bytes i 0 ∷ get_or bytes (i + 1) 0 ∷ []
unfolding u16_bytes u16_at
u16_bytes-u16_at bytes i small =
    let high : (get_or bytes i 0 * 256 + get_or bytes (i + 1) 0) / 256 ≡ get_or bytes i 0 = omega
    (arith, small (i + 1)) in
    let low : (get_or bytes i 0 * 256 + get_or bytes (i + 1) 0) % 256 ≡ get_or bytes (i + 1) 0 =
    omega (arith, small (i + 1)) in
    rw (high, low)

-- which fits 16 bits
pub u16_at-lt : (bytes : List ℕ) (i : ℕ) → Units byte_bits bytes → u16_at bytes i < u16_limit
unfolding u16_at
u16_at-lt bytes i small = omega (arith, small i, small (i + 1))

-- ---- one record, written and read

module _ (rest : List ℕ) where
  -- the step of a written record
  pub step_at-step_bytes : (step : Step) → step_at (step_bytes step ++ rest) ≡ step
  unfolding step_at step_bytes field_bytes kind_length u16_bytes u16_at
  step_at-step_bytes (Erode connectivity border_value n) = ap (Erode connectivity border_value) (u16-value n)
  step_at-step_bytes (Dilate connectivity n) = ap (Dilate connectivity) (u16-value n)
  step_at-step_bytes (Propagate connectivity n) = ap (Propagate connectivity) (u16-value n)
  step_at-step_bytes (FloodFill connectivity x y) = ap₂ (FloodFill connectivity) (u16-value x) (u16-value y)
  step_at-step_bytes (ClearBorder connectivity) = refl
  step_at-step_bytes (ErodeBySides connectivity sides n) = ap (ErodeBySides connectivity sides) (u16-value n)

  -- what stands behind a written record, by its length byte
  pub drop-step_bytes : (step : Step) → drop (1 + get_or (step_bytes step ++ rest) 0 0) (step_bytes step ++ rest) ≡ rest
  unfolding step_bytes field_bytes kind_length u16_bytes
  drop-step_bytes (Erode connectivity border_value n) = refl
  drop-step_bytes (Dilate connectivity n) = refl
  drop-step_bytes (Propagate connectivity n) = refl
  drop-step_bytes (FloodFill connectivity x y) = refl
  drop-step_bytes (ClearBorder connectivity) = refl
  drop-step_bytes (ErodeBySides connectivity sides n) = refl

  -- a written record is as long as its length byte says
  length_byte-step_bytes : (step : Step) → get_or (step_bytes step ++ rest) 0 0 < length (step_bytes step ++ rest)
  unfolding step_bytes field_bytes kind_length u16_bytes
  length_byte-step_bytes (Erode connectivity border_value n) = omega arith
  length_byte-step_bytes (Dilate connectivity n) = omega arith
  length_byte-step_bytes (Propagate connectivity n) = omega arith
  length_byte-step_bytes (FloodFill connectivity x y) = omega arith
  length_byte-step_bytes (ClearBorder connectivity) = omega arith
  length_byte-step_bytes (ErodeBySides connectivity sides n) = omega arith

  -- which is not 0, and that of its kind
  kind_length-step_bytes : (step : Step) →
      let bytes = step_bytes step ++ rest in
      eqb (get_or bytes 0 0) 0 || not (eqb (get_or bytes 0 0) (kind_length (get_or bytes 1 0))) ≡ false
  unfolding step_bytes field_bytes kind_length u16_bytes
  kind_length-step_bytes (Erode connectivity border_value n) = refl
  kind_length-step_bytes (Dilate connectivity n) = refl
  kind_length-step_bytes (Propagate connectivity n) = refl
  kind_length-step_bytes (FloodFill connectivity x y) = refl
  kind_length-step_bytes (ClearBorder connectivity) = refl
  kind_length-step_bytes (ErodeBySides connectivity sides n) = refl

  -- a written record is refused only by the checks of its step
  pub step_refusal-step_bytes : (width height : ℕ) (step : Step) →
      step_refusal width height (step_bytes step ++ rest) ≡ first_refusal (step_checks width height step)
  unfolding step_refusal
  step_refusal-step_bytes width height step =
      first_refusal-cons _ _ _ (lt-leb _ _ (length_byte-step_bytes step))
      ∙ first_refusal-cons _ _ _ (kind_length-step_bytes step)
      ∙ ap (λ (s : Step). first_refusal (step_checks width height s)) (step_at-step_bytes step)

-- ---- one record, read and written

module _ (bytes : List ℕ) (small : Units byte_bits bytes) where
  -- a record of a known kind, with its kind's length and all its bytes, is that of the step there, which fits
  step_bytes-step_at : (kind : ℕ) → get_or bytes 1 0 ≡ kind → get_or bytes 0 0 ≡ kind_length kind →
      (get_or bytes 0 0 ≡ 0 → ⊥) →
      get_or bytes 0 0 < length bytes →
      (step_bytes (step_at bytes) ++ drop (1 + get_or bytes 0 0) bytes ≡ bytes) × StepFits (step_at bytes)
  unfolding step_bytes field_bytes kind_length step_at StepFits tabulate count_from
  step_bytes-step_at zero k l follows inside = absurd (follows l)
  step_bytes-step_at (suc zero) k l follows inside =
      rw (k, l, step_at, u16_bytes-u16_at bytes 4 small)
      (rw (k, l) at (tabulate-append-drop 6 bytes (omega arith)), u16_at-lt bytes 4 small)
  step_bytes-step_at (suc (suc zero)) k l follows inside =
      rw (k, l, step_at, u16_bytes-u16_at bytes 3 small)
      (rw (k, l) at (tabulate-append-drop 5 bytes (omega arith)), u16_at-lt bytes 3 small)
  step_bytes-step_at (suc (suc (suc zero))) k l follows inside =
      rw (k, l, step_at, u16_bytes-u16_at bytes 3 small)
      (rw (k, l) at (tabulate-append-drop 5 bytes (omega arith)), u16_at-lt bytes 3 small)
  step_bytes-step_at (suc (suc (suc (suc zero)))) k l follows inside =
      rw (k, l, step_at, u16_bytes-u16_at bytes 3 small, u16_bytes-u16_at bytes 5 small)
      (rw (k, l) at (tabulate-append-drop 7 bytes (omega arith)), (u16_at-lt bytes 3 small, u16_at-lt bytes 5 small))
  step_bytes-step_at (suc (suc (suc (suc (suc zero))))) k l follows inside =
      rw (k, l, step_at) (rw (k, l) at (tabulate-append-drop 3 bytes (omega arith)), tt)
  step_bytes-step_at (suc (suc (suc (suc (suc (suc zero)))))) k l follows inside = absurd (follows l)
  step_bytes-step_at (suc (suc (suc (suc (suc (suc (suc zero))))))) k l follows inside =
      rw (k, l, step_at, u16_bytes-u16_at bytes 4 small)
      (rw (k, l) at (tabulate-append-drop 6 bytes (omega arith)), u16_at-lt bytes 4 small)
  step_bytes-step_at (suc (suc (suc (suc (suc (suc (suc (suc kind)))))))) k l follows inside = absurd (follows l)

  -- a record that is not refused is that of the step there, which passes its checks and fits
  step_refusal-none : (width height : ℕ) → step_refusal width height bytes ≡ none →
      (step_bytes (step_at bytes) ++ drop (1 + get_or bytes 0 0) bytes ≡ bytes) × StepFits (step_at bytes)
      × (first_refusal (step_checks width height (step_at bytes)) ≡ none)
  unfolding step_refusal
  step_refusal-none width height e =
      let whole = first_refusal-none-cons _ _ _ e in
      let known = first_refusal-none-cons _ _ _ whole.1 in
      let follows = eqb-false _ _ (or-false-left (eqb (get_or bytes 0 0) 0) _ known.0) in
      let long = eqb-true _ _ (not-false _ (or-false-right (eqb (get_or bytes 0 0) 0) _ known.0)) in
      let read = step_bytes-step_at (get_or bytes 1 0) refl long follows (leb-false _ _ whole.0) in
      (read.0, read.1, known.1)

-- ---- a list of records, written and read

module _ (width height : ℕ) where
  -- a record that is not refused, and those behind it
  read_steps-suc : (n : ℕ) (bytes : List ℕ) → step_refusal width height bytes ≡ none →
      read_steps width height (suc n) bytes
      ≡ cons_step (step_at bytes) (read_steps width height n (drop (1 + get_or bytes 0 0) bytes))
  unfolding read_steps
  read_steps-suc n bytes e = rw (e, read_steps)

  -- written records are read as their steps
  pub read_steps-step_bytes : (steps : List Step) (rest : List ℕ) →
      Each (λ step. first_refusal (step_checks width height step) ≡ none) steps →
      read_steps width height (length steps) (flat_map step_bytes steps ++ rest) ≡ accepted_steps steps rest
  unfolding read_steps flat_map cons_step
  read_steps-step_bytes [] rest pass = refl
  read_steps-step_bytes (step ∷ steps) rest pass =
      let behind = flat_map step_bytes steps ++ rest in
      let accepted : step_refusal width height (step_bytes step ++ behind) ≡ none =
      step_refusal-step_bytes behind width height step ∙ pass.0 in
      rw (
        append_assoc (step_bytes step) (flat_map step_bytes steps) rest,
        read_steps-suc (length steps) (step_bytes step ++ behind) accepted,
        step_at-step_bytes behind step,
        drop-step_bytes behind step,
        read_steps-step_bytes steps rest pass.1,
      )

-- ---- a list of records, read and written

-- what records that are read tell: the bytes are theirs, they are as many as asked for, and each step
-- passes its checks and fits
pub record ReadBack (width height n : ℕ) (bytes : List ℕ) (steps : List Step) (behind : List ℕ) : Type 0 where
  pub written : flat_map step_bytes steps ++ behind ≡ bytes
  pub count : length steps ≡ n
  pub pass : Each (λ step. first_refusal (step_checks width height step) ≡ none) steps
  pub fit : Each StepFits steps

module _ (width height : ℕ) where
  -- one record and those behind it
  read_back-cons : (n : ℕ) (bytes : List ℕ) (steps : List Step) (behind : List ℕ) → Units byte_bits bytes →
      step_refusal width height bytes ≡ none → (read : StepsRead) →
      ((steps' : List Step) (behind' : List ℕ) → read ≡ accepted_steps steps' behind' →
      ReadBack width height n (drop (1 + get_or bytes 0 0) bytes) steps' behind') →
      cons_step (step_at bytes) read ≡ accepted_steps steps behind → ReadBack width height (suc n) bytes steps behind
  unfolding cons_step flat_map
  read_back-cons n bytes steps behind small accepted (refused_steps refusal) others e =
      let z : ◌≡◌ {A = ℕ} 0 1 = cc in absurd (omega arith)
  read_back-cons n bytes steps behind small accepted (accepted_steps steps' behind') others e =
      let first : step_at bytes ∷ steps' ≡ steps = cc in
      let last : behind' ≡ behind = cc in
      let here = step_refusal-none bytes small width height accepted in
      let there = others steps' behind' refl in
      rw (← first, ← last)
      (record {
        written = append_assoc (step_bytes (step_at bytes)) (flat_map step_bytes steps') behind'
            ∙ rw there.written here.0;
        count = ap suc there.count;
        pass = (here.2, there.pass);
        fit = (here.1, there.fit);
      })

  -- what records that are read tell
  pub read_steps-accepted : (n : ℕ) (bytes : List ℕ) (steps : List Step) (behind : List ℕ) →
      Units byte_bits bytes → read_steps width height n bytes ≡ accepted_steps steps behind →
      ReadBack width height n bytes steps behind
  unfolding read_steps flat_map
  read_steps-accepted zero bytes steps behind small e =
      let first : [] ≡ steps = cc in
      let last : bytes ≡ behind = cc in
      rw (← first, ← last) (record { written = refl; count = refl; pass = tt; fit = tt })
  read_steps-accepted (suc n) bytes steps behind small e =
      let rest = drop (1 + get_or bytes 0 0) bytes in
      by-refusal (step_refusal width height bytes)
      (λ accepted.
      read_back-cons n bytes steps behind small accepted (read_steps width height n rest)
      (λ steps' behind'. read_steps-accepted n rest steps' behind'
      (λ k. rw get_or-drop (small (1 + get_or bytes 0 0 + k))))
      (sym (read_steps-suc width height n bytes accepted) ∙ e))
      (λ refusal refused.
      let read : read_steps width height (suc n) bytes ≡ refused_steps refusal = rw (refused, read_steps) in
      let z : ◌≡◌ {A = ℕ} 0 1 = cc in absurd (omega arith))
