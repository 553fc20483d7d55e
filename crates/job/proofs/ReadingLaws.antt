-- Laws of what reading a job answers (`specs/Reading.antt`), against what the model reads (`Codec`, of the
-- crate `model`). Assumes nothing.
--   answer-refused, answer-accepted              what an answer tells of the check that it answers
--   check-same                                   a check on a condition is one on any that is the same
--   number-not-zero                              no refusal has number 0
--   head_refusal-fields                          behind the version and the length the fields of a head answer
--   HeadRead, head-read                          a head that is not refused, with its fields
--   head-long, head-sides, head-few              it is whole, its sides and its steps are within the limits
--   kind_length-out                              no kind behind the last has a record
--   record-kind, record-two                      the bytes of a record that is whole and as long as its kind are there
--   step_at-rest                                 the step of a record of any kind but 1 to 4 and 7
--   step_refusal-record, -step                   the model's refusal of a record: by the record, then by its step
--   none-step_read, some-step_read               a record that is not refused is read, and any other is not
--   step_read-done, -inside, -refused            and the other way round
--   step_read-record, -step, -checked            what reading a record answers, by what is judged
--   prepend                                      steps before those that are read
--   read_steps-done, -refused                    the next record is read, or ends the reading
--   ReadTo, read_to-none, -suc, -refused, -all   the loop over the step records, turn by turn
--   records-nothing                              the answer where a record is refused
--   records-accepted, -refused, -slots           what an answer tells of what the model reads
--   read_job-head, -steps, -images, -done        the model's answer for a job, by its head, a step record, its images
--   heading-nothing, heading-done                the heading of an answer is the model's
--   heading-head, -steps, -images, -read         the same by what is read and judged
--   steps-inside                                 the step records end inside the bytes
use Prim.Native.Nat.{ℕ, zero, suc, ◌+◌, ◌-◌, ◌*◌, ◌≤◌, ◌<◌}
use mathlib.Core.Path.{◌≡◌, refl, sym, ap, ◌∙◌}
use mathlib.Core.Logic.{⊎_elim}
use mathlib.Core.Bool.{Bool, false, not, ◌||◌}
use mathlib.Core.List.{List, [], ◌∷◌, ◌++◌}
use mathlib.Core.Option.{Option, none, some}
use native.Mathlib.Nat.{sub-zero}
use native.Mathlib.Numerals.{add-one}
use native.Mathlib.Omega.{arith}
use lib.Dec.{eqb, leb}
use lib.ListN.{length, get_or, take, drop, set, replicate, length-drop, length-set, get_or-eq_default}
use lib.Seq.{drop-drop, take_all, length-take-le}
use borrow.Author.Tests.{le-ltb, eq-eqb, ne_eqb, leb-true, leb-false, eqb-true, eqb-false, not-false}
use Rattle.std.specs.Prelude.{Result, Ok, Err}
use Rattle.std.proofs.lemmas.List.{take_more_set, take_at, drop-replicate, length-replicate}
use Rattle.lists.specs.Lists.{all}
use Rattle.lists.proofs.BoolLaws.{or-false-left, or-false-right, or-false-both, or-true-cases}
use Rattle.lists.proofs.ListLaws.{all-get_or}
use Rattle.neighbours.specs.Crop.{ValidSize}
use Rattle.model.specs.Limits.{max_steps}
use Rattle.model.specs.Refusals.{number, refusal, refuse_if, first_refusal, step_checks}
use Rattle.model.specs.Codec.{head_length, length_field, width_field, height_field, total_field, packed_length}
use Rattle.model.specs.Codec.{kind_lengths, kind_length, step_at, step_refusal, head_refusal}
use Rattle.model.specs.Codec.{StepsRead as ModelStepsRead, refused_steps, accepted_steps, cons_step, read_steps}
use Rattle.model.specs.Codec.{images_refusal, read_images, refused_job, accepted_job, read_job}
use Rattle.model.specs.declared.Refusal.{Refusal}
use Rattle.model.specs.declared.Step.{Step}
use Rattle.model.specs.declared.Step.TheVariants.{ClearBorder}
use Rattle.theorems.proofs.CheckLaws.{by-refusal, first_refusal-cons, first_refusal-none-cons, first_refusal-append}
use Rattle.theorems.proofs.CheckLaws.{first_refusal-append-some}
use Rattle.theorems.proofs.RefusalLaws.{number-positive}
use Rattle.theorems.proofs.CodecLaws.{head_refusal-none, step_refusal-inside, read_steps-behind, images_refusal-none}
use Rattle.theorems.proofs.CodecLaws.{job_of}
use Rattle.model.specs.declared.JobHead.{JobHead}
use Rattle.model.specs.StepList.{steps_in, unused_step, slotted}
use Rattle.model.specs.Answers.{no_heading, heading_in, heading}
use Rattle.job.specs.declared.inner.read.StepsRead.{StepsRead}
use Rattle.job.specs.Reading.{field_checks, record_checks, step_read, Records, no_records, records_in, records}

-- ---- answers

-- an answer that refuses tells that its check does, and one that accepts that it does not
pub answer-refused : {A : Type 0} {v : Result A Refusal} {check : Option Refusal} {r : Refusal} →
    refusal v ≡ check → v ≡ Err r → check ≡ some r
unfolding refusal
answer-refused judged e = sym judged ∙ rw e

pub answer-accepted : {A : Type 0} {v : Result A Refusal} {check : Option Refusal} {x : A} →
    refusal v ≡ check → v ≡ Ok x → check ≡ none
unfolding refusal
answer-accepted judged e = sym judged ∙ rw e

-- a check on a condition is one on any that is the same
pub check-same : {answer : Option Refusal} {t u : Bool} (reason : Refusal) → answer ≡ refuse_if t reason → t ≡ u →
    answer ≡ refuse_if u reason
check-same reason judged e = rw (← e) judged

-- no refusal has number 0
pub number-not-zero {ℓ} : {C : Type ℓ} (r : Refusal) → number r ≡ 0 → C
number-not-zero r e = absurd (omega (arith, number-positive r))

-- ---- the head

-- behind the version and the length the fields of a head answer
pub head_refusal-fields : (limit : ℕ) (bytes : List ℕ) → get_or bytes 0 0 ≡ 1 → head_length ≤ length bytes →
    length_field bytes ≡ length bytes →
    first_refusal (field_checks limit (width_field bytes) (height_field bytes) (total_field bytes)) ≡ head_refusal limit
    bytes
unfolding head_refusal field_checks
head_refusal-fields limit bytes version long size =
    let filled : eqb (length bytes) 0 ≡ false = ne_eqb (length bytes) 0 (λ e. omega arith) in
    sym
    (first_refusal-cons _ _ _ (or-false-both _ _ filled (ap not (eq-eqb _ _ version)))
    ∙ first_refusal-cons _ _ _ (or-false-both _ _ (le-ltb (length bytes) head_length long) (ap not (eq-eqb _ _ size))))

-- a head that is not refused, with the sides and the number of steps in it
pub record HeadRead (limit : ℕ) (bytes : List ℕ) (width height total : ℕ) : Type 0 where
  pub passes : head_refusal limit bytes ≡ none
  pub across : width ≡ width_field bytes
  pub down : height ≡ height_field bytes
  pub counted : total ≡ total_field bytes

-- ---- one step record

-- no kind behind the last has a record
pub kind_length-out : (kind : ℕ) → 7 < kind → kind_length kind ≡ 0
unfolding kind_length
kind_length-out kind h = get_or-eq_default kind_lengths 0 h

-- where bytes follow the length byte, there are at least two
kind_length-two : (kind : ℕ) → (kind_length kind ≡ 0 → ⊥) → 2 ≤ kind_length kind
unfolding kind_length all
kind_length-two kind follows =
    ⊎_elim (λ e. absurd (follows (eqb-true _ _ e))) (λ h. leb-true _ _ h)
    (or-true-cases _ _ (all-get_or (λ n. eqb n 0 || leb 2 n) kind_lengths refl refl kind))

-- a record that is whole, and as long as its kind
pub record Whole (bytes : List ℕ) : Type 0 where
  pub inside : get_or bytes 0 0 < length bytes
  pub follows : get_or bytes 0 0 ≡ 0 → ⊥
  pub long : get_or bytes 0 0 ≡ kind_length (get_or bytes 1 0)

module _ (bytes : List ℕ) where
  -- the first two conditions of a record ask that
  pub record_checks-none : first_refusal (record_checks bytes) ≡ none → Whole bytes
  unfolding record_checks
  record_checks-none e =
      let whole = first_refusal-none-cons _ _ _ e in
      let known = (first_refusal-none-cons _ _ _ whole.1).0 in
      record {
        inside = leb-false _ _ whole.0;
        follows = eqb-false _ _ (or-false-left (eqb (get_or bytes 0 0) 0) _ known);
        long = eqb-true _ _ (not-false _ (or-false-right (eqb (get_or bytes 0 0) 0) _ known));
      }

  -- the bytes of its kind are there
  pub record-kind : first_refusal (record_checks bytes) ≡ none → (kind : ℕ) → get_or bytes 1 0 ≡ kind →
      kind_length kind < length bytes
  record-kind passes kind e =
      let whole = record_checks-none passes in
      let long : get_or bytes 0 0 ≡ kind_length kind = whole.long ∙ ap kind_length e in
      omega (arith, whole.inside)

  -- the kind and the connectivity at least
  pub record-two : first_refusal (record_checks bytes) ≡ none → 2 < length bytes
  record-two passes =
      let whole = record_checks-none passes in
      let two = kind_length-two (get_or bytes 1 0) (λ e. whole.follows (whole.long ∙ e)) in
      omega (arith, whole.inside, whole.long, two)

  -- the step of a record of any kind but 1 to 4 and 7
  pub step_at-rest : (kind : ℕ) → get_or bytes 1 0 ≡ kind → (kind ≡ 1 → ⊥) → (kind ≡ 2 → ⊥) → (kind ≡ 3 → ⊥) →
      (kind ≡ 4 → ⊥) → (kind ≡ 7 → ⊥) → step_at bytes ≡ ClearBorder (get_or bytes 2 0)
  unfolding step_at
  step_at-rest zero e one two three four seven = rw (e, step_at)
  step_at-rest (suc zero) e one two three four seven = absurd (one refl)
  step_at-rest (suc (suc zero)) e one two three four seven = absurd (two refl)
  step_at-rest (suc (suc (suc zero))) e one two three four seven = absurd (three refl)
  step_at-rest (suc (suc (suc (suc zero)))) e one two three four seven = absurd (four refl)
  step_at-rest (suc (suc (suc (suc (suc zero))))) e one two three four seven = rw (e, step_at)
  step_at-rest (suc (suc (suc (suc (suc (suc zero)))))) e one two three four seven = rw (e, step_at)
  step_at-rest (suc (suc (suc (suc (suc (suc (suc zero))))))) e one two three four seven = absurd (seven refl)
  step_at-rest (suc (suc (suc (suc (suc (suc (suc (suc kind)))))))) e one two three four seven = rw (e, step_at)

module _ (width height : ℕ) (bytes : List ℕ) where
  -- the model's refusal of a record: by its first two conditions, then by the checks of its step
  step_refusal-append : step_refusal width height bytes
      ≡ first_refusal (record_checks bytes ++ step_checks width height (step_at bytes))
  unfolding step_refusal record_checks
  step_refusal-append = refl

  pub step_refusal-record : (r : Refusal) → first_refusal (record_checks bytes) ≡ some r →
      step_refusal width height bytes ≡ some r
  step_refusal-record r e = step_refusal-append ∙ first_refusal-append-some _ _ r e

  pub step_refusal-step : first_refusal (record_checks bytes) ≡ none →
      step_refusal width height bytes ≡ first_refusal (step_checks width height (step_at bytes))
  step_refusal-step e = step_refusal-append ∙ first_refusal-append (record_checks bytes) _ e

  -- a record that is not refused is read, and any other is not
  pub none-step_read : step_refusal width height bytes ≡ none → step_read width height bytes ≡ Ok (step_at bytes)
  unfolding step_read
  none-step_read e = rw (e, step_read)

  pub some-step_read : (r : Refusal) → step_refusal width height bytes ≡ some r →
      step_read width height bytes ≡ Err r
  unfolding step_read
  some-step_read r e = rw (e, step_read)

  -- a record that is read is not refused, and has this step
  pub step_read-done : (s : Step) → step_read width height bytes ≡ Ok s →
      (step_refusal width height bytes ≡ none) × (step_at bytes ≡ s)
  step_read-done s e =
      by-refusal (step_refusal width height bytes)
      (λ passes. let read = none-step_read passes in (passes, cc))
      (λ r refused. let read = some-step_read r refused in cc)

  -- and its bytes stand there
  pub step_read-inside : (s : Step) → step_read width height bytes ≡ Ok s → get_or bytes 0 0 < length bytes
  step_read-inside s e = step_refusal-inside width height bytes (step_read-done s e).0

  -- one that is not read is refused by the model
  pub step_read-refused : (r : Refusal) → step_read width height bytes ≡ Err r →
      step_refusal width height bytes ≡ some r
  step_read-refused r e =
      by-refusal (step_refusal width height bytes)
      (λ passes. let read = none-step_read passes in cc)
      (λ other refused. let read = some-step_read other refused in cc)

  -- one that is judged as not whole is refused
  pub step_read-record : {v : Result Unit Refusal} {w : Result Step Refusal} {r : Refusal} →
      refusal v ≡ first_refusal (record_checks bytes) → v ≡ Err r → w ≡ Err r → w ≡ step_read width height bytes
  step_read-record {r = r} judged e f =
      f ∙ sym (some-step_read r (step_refusal-record r (answer-refused judged e)))

  -- behind that its step is judged
  module _ (whole : first_refusal (record_checks bytes) ≡ none) {s : Step} (same : s ≡ step_at bytes) where
    step_refusal-judged : {answer : Option Refusal} → answer ≡ first_refusal (step_checks width height s) →
        step_refusal width height bytes ≡ answer
    step_refusal-judged judged = step_refusal-step whole ∙ rw (← same) (sym judged)

    module _ {v : Result Unit Refusal} (judged : refusal v ≡ first_refusal (step_checks width height s)) where
      pub step_read-step : {w : Result Step Refusal} {r : Refusal} → v ≡ Err r → w ≡ Err r →
          w ≡ step_read width height bytes
      step_read-step {r = r} e f =
          f ∙ sym (some-step_read r (step_refusal-judged judged ∙ answer-refused refl e))

      pub step_read-checked : {x : Unit} → v ≡ Ok x → Ok s ≡ step_read width height bytes
      step_read-checked e =
          ap Ok same ∙ sym (none-step_read (step_refusal-judged judged ∙ answer-accepted refl e))

-- ---- step records, one after another

-- steps before those that are read
unfoldable pub prepend : List Step → ModelStepsRead → ModelStepsRead
prepend [] read = read
prepend (s ∷ steps) read = cons_step s (prepend steps read)

-- one step more between them
prepend-snoc : (steps : List Step) (s : Step) (read : ModelStepsRead) →
    prepend (steps ++ s ∷ []) read ≡ prepend steps (cons_step s read)
unfolding prepend
prepend-snoc [] s read = refl
prepend-snoc (first ∷ steps) s read = ap (cons_step first) (prepend-snoc steps s read)

-- before a refusal, and before no steps
prepend-refused : (steps : List Step) (r : Refusal) → prepend steps (refused_steps r) ≡ refused_steps r
unfolding prepend cons_step
prepend-refused [] r = refl
prepend-refused (s ∷ steps) r = rw (prepend-refused steps r)

prepend-accepted : (steps : List Step) (behind : List ℕ) →
    prepend steps (accepted_steps [] behind) ≡ accepted_steps steps behind
unfolding prepend cons_step
prepend-accepted [] behind = refl
prepend-accepted (s ∷ steps) behind = rw (prepend-accepted steps behind)

module _ (width height n : ℕ) (bytes : List ℕ) where
  -- the next record is read, and those behind it
  pub read_steps-done : (s : Step) → step_read width height bytes ≡ Ok s →
      read_steps width height (suc n) bytes ≡ cons_step s
      (read_steps width height n (drop (1 + get_or bytes 0 0) bytes))
  unfolding read_steps
  read_steps-done s e =
      let done = step_read-done width height bytes s e in
      rw (done.0, read_steps, done.1)

  -- or it ends the reading
  pub read_steps-refused : (r : Refusal) → step_read width height bytes ≡ Err r →
      read_steps width height (suc n) bytes ≡ refused_steps r
  unfolding read_steps
  read_steps-refused r e = rw (step_read-refused width height bytes r e, read_steps)

-- the first `count` records are read, into a slot for each, and the others stand from `at` on
pub record ReadTo (width height total : ℕ) (bytes : List ℕ) (items : List Step) (at count : ℕ) : Type 0 where
  pub few : count ≤ total
  pub inside : at ≤ length bytes
  pub sized : length items ≡ total
  pub read : read_steps width height total bytes
      ≡ prepend (take count items) (read_steps width height (total - count) (drop at bytes))

module _ (width height total : ℕ) (bytes : List ℕ) where
  -- none so far
  pub read_to-none : total ≤ max_steps → {slots : List Step} → slots ≡ replicate max_steps unused_step →
      ReadTo width height total bytes (take total slots) 0 0
  unfolding prepend
  read_to-none most {slots} e =
      record {
        few = omega arith;
        inside = omega arith;
        sized = length-take-le total slots (omega (arith, ap length e, length-replicate max_steps unused_step));
        read = rw sub-zero;
      }

  module _ (items : List Step) (at count : ℕ) (to : ReadTo width height total bytes items at count) where
    -- all; the slots behind them are unused
    pub read_to-all : {slots : List Step} → slots ≡ replicate max_steps unused_step →
        total ≤ count → (within : total ≤ max_steps) →
        records_in
        (Ok
        (record { steps = record { slots = items ++ drop total slots; count = total; within = within }; end = at }))
        ≡ records bytes (read_steps width height total bytes)
    unfolding read_steps records_in records slotted
    read_to-all unused every within =
        let left : total - count ≡ 0 = omega arith in
        let rest = drop at bytes in
        let end : length bytes - length rest ≡ at = omega (arith, length-drop at bytes, to.inside) in
        rw (
          to.read,
          left,
          prepend-accepted (take count items) rest,
          end,
          take_all count items (omega (arith, to.sized)),
          take_at items (drop total _) total to.sized,
          unused,
          drop-replicate,
          to.sized,
        )

    module _ (more : count < total) where
      -- the next one ends the reading
      pub read_to-refused : (r : Refusal) → step_read width height (drop at bytes) ≡ Err r →
          read_steps width height total bytes ≡ refused_steps r
      read_to-refused r e =
          let left : total - count ≡ suc (total - suc count) = omega arith in
          to.read
          ∙ rw (left, read_steps-refused width height (total - suc count) (drop at bytes) r e)
          (prepend-refused (take count items) r)

      -- or is read too
      pub read_to-suc : (s : Step) → step_read width height (drop at bytes) ≡ Ok s →
          ReadTo width height total bytes (set items count s) (at + (1 + get_or (drop at bytes) 0 0)) (count + 1)
      read_to-suc s e =
          let rest = drop at bytes in
          let left : total - count ≡ suc (total - suc count) = omega arith in
          let follows = step_read-inside width height rest s e in
          record {
            few = omega arith;
            inside = omega (arith, follows, length-drop at bytes, to.inside);
            sized = length-set items count s ∙ to.sized;
            read =
                to.read
                ∙ rw (
                  left,
                  read_steps-done width height (total - suc count) rest s e,
                  drop-drop (1 + get_or rest 0 0) at bytes,
                  take_more_set items count s (omega (arith, to.sized)),
                  add-one count,
                  prepend-snoc (take count items) s _,
                );
          }

-- ---- what is told of step records

-- the answer where a record is refused
pub records-nothing : (bytes : List ℕ) {v : Result StepsRead Refusal} {r : Refusal} {found : ModelStepsRead} →
    v ≡ Err r → found ≡ refused_steps r → records_in v ≡ records bytes found
unfolding records_in records
records-nothing bytes e refused = rw (e, refused)

module _ (bytes : List ℕ) (read : Result StepsRead Refusal) where
  -- a refusal has the number of the model's
  pub records-refused : {r : Refusal} (found : ModelStepsRead) → records_in read ≡ records bytes found →
      read ≡ Err r → (o : Refusal) × (found ≡ refused_steps o) × (number o ≡ number r)
  unfolding records_in records no_records
  records-refused {r} (refused_steps o) told e =
      let same = ap (λ (l : Records). l.number) (rw e at told) in (o, refl, sym same)
  records-refused {r} (accepted_steps steps behind) told e =
      number-not-zero r (ap (λ (l : Records). l.number) (rw e at told))

  module _ {head : StepsRead} (e : read ≡ Ok head) where
    -- all slots are told
    pub records-slots : (found : ModelStepsRead) → records_in read ≡ records bytes found →
        head.steps.slots ≡ slotted (steps_in head.steps)
    unfolding records_in records no_records
    records-slots (refused_steps r) told = number-not-zero r (sym (ap (λ (l : Records). l.number) (rw e at told)))
    records-slots (accepted_steps steps behind) told =
        let same = rw e at told in
        ap (λ (l : Records). l.slots) same ∙ ap slotted (sym (ap (λ (l : Records). l.steps) same))

    -- where the answer accepts, the model reads these steps
    pub records-found : (found : ModelStepsRead) → records_in read ≡ records bytes found →
        (behind : List ℕ) × (found ≡ accepted_steps (steps_in head.steps) behind)
        × (head.end ≡ length bytes - length behind)
    unfolding records_in records no_records
    records-found (refused_steps r) told = number-not-zero r (sym (ap (λ (l : Records). l.number) (rw e at told)))
    records-found (accepted_steps steps behind) told =
        let same = rw e at told in
        let list = ap (λ (l : Records). l.steps) same in
        (behind, ap (λ (l : List Step). accepted_steps l behind) (sym list), ap (λ (l : Records). l.end) same)

    -- and behind them stand the bytes from the end of the records on
    pub records-accepted : (width height n : ℕ) →
        records_in read ≡ records bytes (read_steps width height n bytes) →
        (read_steps width height n bytes ≡ accepted_steps (steps_in head.steps) (drop head.end bytes))
        × (head.end ≤ length bytes)
    records-accepted width height n told =
        let (behind, found, end) = records-found (read_steps width height n bytes) told in
        let rest = read_steps-behind width height n bytes _ behind found in
        (found ∙ ap (accepted_steps (steps_in head.steps)) (rest.1 ∙ rw (← end)), omega arith)

-- ---- the job

-- a refusal tells nothing but its number
pub heading-nothing : (limit : ℕ) (bytes : List ℕ) {v : Result JobHead Refusal} {r o : Refusal} → v ≡ Err r →
    read_job limit bytes ≡ refused_job o → number o ≡ number r →
    heading_in v ≡ heading bytes (read_job limit bytes)
unfolding heading_in heading no_heading
heading-nothing limit bytes e refused numbered = rw (e, refused, numbered)

-- and for one that is read
pub heading-done : (limit : ℕ) (bytes : List ℕ) (head : JobHead) →
    head.steps.slots ≡ slotted (steps_in head.steps) → head.at ≤ length bytes →
    images_refusal head.width head.height (drop head.at bytes) ≡ none →
    read_job limit bytes
    ≡ accepted_job (job_of head.width head.height (steps_in head.steps) (drop head.at bytes)) →
    heading_in (Ok head) ≡ heading bytes (read_job limit bytes)
unfolding heading_in heading
heading-done limit bytes head slots inside passes found =
    let size = (images_refusal-none head.width head.height (drop head.at bytes) passes).size in
    let at : length bytes - 2 * packed_length head.width head.height ≡ head.at =
    omega (arith, length-drop head.at bytes) in
    rw (found, ← slots, at)

-- a job that is refused by its head
pub read_job-head : (limit : ℕ) (bytes : List ℕ) {r : Refusal} → head_refusal limit bytes ≡ some r →
    read_job limit bytes ≡ refused_job r
unfolding read_job
read_job-head limit bytes e = rw (e, read_job)

pub heading-head : (limit : ℕ) (bytes : List ℕ) {judged : Result Unit Refusal} {v : Result JobHead Refusal}
    {r : Refusal} → refusal judged ≡ head_refusal limit bytes → judged ≡ Err r → v ≡ Err r →
    heading_in v ≡ heading bytes (read_job limit bytes)
heading-head limit bytes judged e f =
    heading-nothing limit bytes f (read_job-head limit bytes (answer-refused judged e)) refl

-- one whose head is read
module _ (limit : ℕ) (bytes : List ℕ) {judged : Result Unit Refusal} {x : Unit}
    (answers : refusal judged ≡ head_refusal limit bytes) (e : judged ≡ Ok x) where
  pub head-read : {width height total : ℕ} → width ≡ width_field bytes → height ≡ height_field bytes →
      total ≡ total_field bytes → HeadRead limit bytes width height total
  head-read across down counted =
      record { passes = answer-accepted answers e; across = across; down = down; counted = counted }

  pub head-long : head_length ≤ length bytes
  head-long = (head_refusal-none limit bytes (answer-accepted answers e)).long

module _ {limit : ℕ} {bytes : List ℕ} {width height total : ℕ} (head : HeadRead limit bytes width height total) where
  pub head-sides : ValidSize width height
  head-sides = rw (head.across, head.down) (head_refusal-none limit bytes head.passes).valid

  pub head-few : total ≤ max_steps
  head-few = rw head.counted (head_refusal-none limit bytes head.passes).few

  -- behind the head the step records are read
  read_job-behind-head : read_job limit bytes
      ≡ read_images width height (read_steps width height total (drop head_length bytes))
  unfolding read_job
  read_job-behind-head = rw (head.passes, read_job, head.across, head.down, head.counted)

  -- one that is refused by a step record
  pub read_job-steps : {r : Refusal} → read_steps width height total (drop head_length bytes) ≡ refused_steps r →
      read_job limit bytes ≡ refused_job r
  unfolding read_images
  read_job-steps refused = read_job-behind-head ∙ rw refused

  module _ {steps : List Step} (end : ℕ)
      (found : read_steps width height total (drop head_length bytes)
      ≡ accepted_steps steps (drop end (drop head_length bytes))) where
    -- behind the step records stand the images
    read_job-behind-steps : read_job limit bytes
        ≡ read_images width height (accepted_steps steps (drop (head_length + end) bytes))
    read_job-behind-steps =
        read_job-behind-head ∙ ap (read_images width height) (found ∙ rw (drop-drop end head_length bytes))

    -- one that is refused by its images
    pub read_job-images : {r : Refusal} → images_refusal width height (drop (head_length + end) bytes) ≡ some r →
        read_job limit bytes ≡ refused_job r
    unfolding read_images
    read_job-images refused = read_job-behind-steps ∙ rw (refused, read_images)

    -- one that is read
    pub read_job-done : images_refusal width height (drop (head_length + end) bytes) ≡ none →
        read_job limit bytes ≡ accepted_job (job_of width height steps (drop (head_length + end) bytes))
    unfolding read_images
    read_job-done accepted = read_job-behind-steps ∙ rw (accepted, read_images)

  -- the same by what is read and judged
  module _ {read : Result StepsRead Refusal}
      (told : records_in read
      ≡ records (drop head_length bytes) (read_steps width height total (drop head_length bytes))) where
    pub heading-steps : {v : Result JobHead Refusal} {r : Refusal} → read ≡ Err r → v ≡ Err r →
        heading_in v ≡ heading bytes (read_job limit bytes)
    heading-steps e f =
        let (o, refused, numbered) = records-refused (drop head_length bytes) read _ told e in
        heading-nothing limit bytes f (read_job-steps refused) numbered

    module _ {steps : StepsRead} (e : read ≡ Ok steps) where
      steps-found : (read_steps width height total (drop head_length bytes)
          ≡ accepted_steps (steps_in steps.steps) (drop steps.end (drop head_length bytes)))
          × (steps.end ≤ length (drop head_length bytes))
      steps-found = records-accepted (drop head_length bytes) read e width height total told

      -- the step records end inside the bytes
      pub steps-inside : head_length + steps.end ≤ length bytes
      steps-inside =
          let long = (head_refusal-none limit bytes head.passes).long in
          omega (arith, long, steps-found.1, length-drop head_length bytes)

      module _ {judged : Result Unit Refusal}
          (answers : refusal judged ≡ images_refusal width height (drop (head_length + steps.end) bytes)) where
        pub heading-images : {v : Result JobHead Refusal} {r : Refusal} → judged ≡ Err r → v ≡ Err r →
            heading_in v ≡ heading bytes (read_job limit bytes)
        heading-images f g =
            heading-nothing limit bytes g
            (read_job-images steps.end steps-found.0 (answer-refused answers f)) refl

        pub heading-read : {x : Unit} → judged ≡ Ok x →
            heading_in
            (Ok (record { width = width; height = height; steps = steps.steps; at = head_length + steps.end }))
            ≡ heading bytes (read_job limit bytes)
        heading-read f =
            let passes = answer-accepted answers f in
            heading-done limit bytes
            (record { width = width; height = height; steps = steps.steps; at = head_length + steps.end })
            (records-slots (drop head_length bytes) read e _ told)
            steps-inside passes
            (read_job-done steps.end steps-found.0 passes)
