-- Laws of the entry points: what the table's rows ask of packed rows, and what a call answers.
--   words_length-counted                  as many words as the code counts
--   size_passed, words-few                the size that a judging passed; its words are few
--   words_checks-clean                    rows that pass
--   words_refusal-passes                  rows and a step that pass
--   words-refused, words-done             the answer of a refused call, and of one that is done
--   operated-border                       an erosion by a border value is one by the sides that it names
--   repack_checks-passes                  buffers that pass, for packing and unpacking
--   pack_refusal-passes, unpack_refusal-passes   what passes, for each of them
--   pack-refused, pack-done               the answers of packing
--   unpack-refused, unpack-done           and of unpacking
-- Assumes nothing.
use Prim.Native.Nat.{ℕ, ◌*◌, ◌≤◌}
use mathlib.Core.Path.{◌≡◌, sym, ap, ◌∙◌}
use mathlib.Core.Bool.{Bool, or-false, ◌||◌}
use mathlib.Core.List.{List, []}
use mathlib.Core.Option.{none, some}
use native.Mathlib.Omega.{arith}
use lib.ListN.{length}
use Rattle.lists.specs.Lists.{any}
use Rattle.neighbours.specs.Crop.{ValidSize}
use Rattle.neighbours.specs.Packed.{row_units}
use Rattle.neighbours.specs.Words.{word_bits, max_words}
use Rattle.neighbours.specs.Limits.{max_side}
use Rattle.neighbours.proofs.PackedLaws.{packed_length-is}
use Rattle.model.specs.Operations.{border_sides, effect, applied, used_by, apply, used}
use Rattle.model.specs.Refusals.{refusal, verdict_number, first_refusal, bad_side, refuse_if}
use Rattle.model.specs.Refusals.{step_checks}
use Rattle.model.specs.Words.{words_length, packed_words, unpacked_words, words_checks, words_refusal}
use Rattle.model.specs.Words.{operate_words_unless, operate_words, repack_checks, pack_refusal, pack_unless, pack_words}
use Rattle.model.specs.Words.{unpack_refusal, unpack_words_unless, unpack_words}
use Rattle.model.specs.Answers.{words_answered, repacked_to}
use Rattle.model.specs.declared.Refusal.{Refusal}
use Rattle.model.specs.declared.Refusal.TheVariants.{BadSize}
use Rattle.model.specs.declared.Step.{Step}
use Rattle.model.specs.declared.Step.TheVariants.{Erode, ErodeBySides}
use Rattle.model.specs.declared.WordsReport.{WordsReport}
use Rattle.std.specs.Prelude.{Result, Ok, Err}
use Rattle.theorems.proofs.CheckLaws.{first_refusal-none-cons}
use Rattle.theorems.proofs.RefusalLaws.{StepPasses, sides-iff, wrong_length-iff, step_checks-iff}
use Rattle.theorems.proofs.RefusalLaws.{first_refusal-append-iff}
use Rattle.theorems.proofs.OperationLaws.{bad_pixel-none-iff}
use Rattle.packing.specs.Rows.{Packable}
use Rattle.packing.proofs.WordsLaws.{words-most}
use Rattle.judging.proofs.JudgeLaws.{check_passed}
use Rattle.words.specs.Frame.{Clean, Operated}

-- ---- lengths

-- as many words as the code counts
pub words_length-counted : (width height : ℕ) {n : ℕ} → n ≡ row_units word_bits width →
    n * height ≡ words_length width height
words_length-counted width height e = ap (λ (n : ℕ). n * height) e ∙ sym (packed_length-is word_bits width height)

-- the size that a judging passed
pub size_passed : {A : Type 0} {v : Result A Refusal} {x : A} {width height : ℕ} {bad : Bool} →
    bad ≡ (bad_side max_side width || bad_side max_side height) → refusal v ≡ refuse_if bad BadSize → v ≡ Ok x →
    ValidSize width height
size_passed told judged passed = (sides-iff _ _).0 (sym told ∙ check_passed _ _ judged passed)

-- so that its words are few
pub words-few : {width height n : ℕ} → ValidSize width height → n ≡ row_units word_bits width →
    n * height ≤ max_words
words-few {width} {height} valid e = omega (arith, words_length-counted width height e, words-most valid)

-- ---- operations

-- rows that pass
pub words_checks-clean : (width height : ℕ) (rows : List ℕ) →
    first_refusal (words_checks width height rows) ≡ none →
    Clean width height rows
unfolding words_checks
words_checks-clean width height rows e =
    let size = first_refusal-none-cons _ _ _ e in
    let counted = first_refusal-none-cons _ _ _ size.1 in
    record {
      valid = (sides-iff width height).0 size.0;
      size = (wrong_length-iff _ rows).0 counted.0;
      clear = (first_refusal-none-cons _ _ _ counted.1).0;
    }

-- rows and a step that pass
pub words_refusal-passes : (width height : ℕ) (step : Step) (rows : List ℕ) →
    words_refusal width height step rows ≡ none → Clean width height rows × StepPasses width height step
unfolding words_refusal
words_refusal-passes width height step rows e =
    let both = (first_refusal-append-iff (words_checks width height rows) (step_checks width height step)).0 e in
    (words_checks-clean width height rows both.0, (step_checks-iff width height step).0 both.1)

module _ (width height : ℕ) (step : Step) (rows : List ℕ) where
  -- a refused call keeps the rows
  pub words-refused : {w : Result WordsReport Refusal} {r : Refusal} → words_refusal width height step rows ≡ some r →
      w ≡ Err r → words_answered w rows ≡ operate_words width height step rows
  unfolding operate_words operate_words_unless words_answered
  words-refused e told = rw (e, told)

  -- one that is done answers the operation's numbers
  pub words-done : {rows' : List ℕ} {report : WordsReport} → words_refusal width height step rows ≡ none →
      Operated width height step [] rows rows' report →
      words_answered (Ok report) rows' ≡ operate_words width height step rows
  unfolding operate_words operate_words_unless words_answered
  words-done e done = rw (e, done.rows, done.is_changed, done.is_used, done.is_area)

-- an erosion by a border value is one by the sides that it names
pub operated-border : {width height connectivity border_value sides n : ℕ} {rows rows' : List ℕ}
    {report : WordsReport} →
    sides ≡ border_sides border_value →
    Operated width height (ErodeBySides connectivity sides n) [] rows rows' report →
    Operated width height (Erode connectivity border_value n) [] rows rows' report
unfolding apply applied effect used used_by
operated-border {width} {height} {connectivity} {border_value} {sides} {n} {rows} {rows'} {report} e done =
    let same : Operated width height (ErodeBySides connectivity (border_sides border_value) n) [] rows rows' report =
    rw e at done in
    record { rows = same.rows; is_changed = same.is_changed; is_used = same.is_used; is_area = same.is_area }

-- ---- packing and unpacking

module _ (width height : ℕ) (image rows : List ℕ) where
  -- buffers that pass
  pub repack_checks-passes : first_refusal (repack_checks width height image rows) ≡ none →
      ValidSize width height × (length image ≡ width * height) × (length rows ≡ words_length width height)
  unfolding repack_checks any
  repack_checks-passes e =
      let size = first_refusal-none-cons _ _ _ e in
      let pixels = first_refusal-none-cons _ _ _ size.1 in (
        (sides-iff width height).0 size.0,
        (wrong_length-iff _ image).0 (sym (or-false _) ∙ pixels.0),
        (wrong_length-iff _ rows).0 (first_refusal-none-cons _ _ _ pixels.1).0,
      )

  -- what passes is as packing and unpacking ask for it
  pub pack_refusal-passes : pack_refusal width height image rows ≡ none →
      Packable width height image × (length rows ≡ words_length width height)
  unfolding pack_refusal any
  pack_refusal-passes e =
      let both = (first_refusal-append-iff (repack_checks width height image rows) _).0 e in
      let pass = repack_checks-passes both.0 in
      let bits = (bad_pixel-none-iff image).0 (sym (or-false _) ∙ (first_refusal-none-cons _ _ _ both.1).0) in
      (record { valid = pass.0; binary = record { pixels = pass.1; bits = bits } }, pass.2)

  pub unpack_refusal-passes : unpack_refusal width height image rows ≡ none →
      ValidSize width height × (length image ≡ width * height) × (length rows ≡ words_length width height)
  unfolding unpack_refusal
  unpack_refusal-passes e =
      repack_checks-passes ((first_refusal-append-iff (repack_checks width height image rows) _).0 e).0

  -- what packing and unpacking refuse, and what they do
  pub pack-refused : {w : Result Unit Refusal} {r : Refusal} → pack_refusal width height image rows ≡ some r →
      w ≡ Err r → repacked_to w image rows ≡ pack_words width height image rows
  unfolding pack_words pack_unless repacked_to verdict_number
  pack-refused e told = rw (e, told)

  pub pack-done : {rows' : List ℕ} → pack_refusal width height image rows ≡ none →
      rows' ≡ packed_words width height image →
      repacked_to (Ok tt) image rows' ≡ pack_words width height image rows
  unfolding pack_words pack_unless repacked_to verdict_number
  pack-done e is = rw (e, is)

  pub unpack-refused : {w : Result Unit Refusal} {r : Refusal} → unpack_refusal width height image rows ≡ some r →
      w ≡ Err r → repacked_to w image rows ≡ unpack_words width height image rows
  unfolding unpack_words unpack_words_unless repacked_to verdict_number
  unpack-refused e told = rw (e, told)

  pub unpack-done : {image' : List ℕ} → unpack_refusal width height image rows ≡ none →
      image' ≡ unpacked_words width height rows →
      repacked_to (Ok tt) image' rows ≡ unpack_words width height image rows
  unfolding unpack_words unpack_words_unless repacked_to verdict_number
  unpack-done e is = rw (e, is)
