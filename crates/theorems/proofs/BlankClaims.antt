-- Point 3 of document 02: the claims of `specs/Claims.antt` on a scan's blank rows.
--   blank-rows-told   an accepted scan tells exactly the rows without an object pixel
--   none_told         a refused one tells 0
--   scan-as-before    what a scan finds is what it found
-- Assumes nothing.
use Prim.Native.Nat.{ℕ}
use mathlib.Core.Path.{◌≡◌, refl, sym, ap, subst, ◌∙◌}
use mathlib.Core.List.{List, [], ◌∷◌}
use mathlib.Core.Option.{Option, none, some}
use Rattle.lists.specs.Lists.{range, select, bit, iterate}
use Rattle.lists.proofs.BoolLaws.{by-test, by-lt}
use Rattle.lists.proofs.ListLaws.{occurrences-select, occurrences-select-out}
use Rattle.neighbours.specs.BlankRows.{is_blank_row, blank_row_count}
use Rattle.neighbours.proofs.BlankRowLaws.{is_blank_row-iff}
use Rattle.model.specs.Operations.{applied, effect, apply}
use Rattle.model.specs.Refusals.{refuse_if, first_refusal, buffer_checks, connectivity_check, step_checks, start_checks}
use Rattle.model.specs.Refusals.{reads_mask, mask_of, scan_refusal, operation_refusal}
use Rattle.model.specs.Calls.{scanned, reply_number, State, lent, operate_unless, scan_unless, call, SameQueue}
use Rattle.model.specs.Claims.{contour_length, blank_in, IsRefused, BlankOnes, BlankRowsTold, NoneTold}
use Rattle.model.specs.Claims.{ScanAsBefore}
use Rattle.model.specs.declared.Refusal.{Refusal}
use Rattle.model.specs.declared.Step.{Step}
use Rattle.model.specs.declared.Step.TheVariants.{Dilate}
use Rattle.model.specs.declared.Start.TheVariants.{Scan}
use Rattle.theorems.proofs.CheckLaws.{by-refusal, first_refusal-append, first_refusal-append-some}
use Rattle.theorems.proofs.RefusalLaws.{number_of-zero}
use Rattle.theorems.proofs.CallLaws.{reply_number-scan}

-- ---- the rows told

-- the rows that are counted are those without an object pixel, each once
counted-blank : (width height : ℕ) (image : List ℕ) →
    BlankOnes width height image (select (is_blank_row width image) (range height))
counted-blank width height image =
    let test = is_blank_row width image in
    record {
      blank = λ y l b. occurrences-select test height y l ∙ ap bit ((is_blank_row-iff width image y).1 b);
      others = λ y none.
          by-lt y height
          (λ l.
          occurrences-select test height y l
          ∙ by-test (test y) (λ e. absurd (none (l, (is_blank_row-iff width image y).0 e))) (λ e. ap bit e))
          (λ l. occurrences-select-out test height y l);
    }

-- an accepted scan tells exactly the rows without an object pixel
pub blank-rows-told : BlankRowsTold
unfolding call scan_unless blank_in blank_row_count
blank-rows-told width height image queue image' queue' r m accepted =
    let refusal = scan_refusal width height image queue in
    let passes = number_of-zero refusal
    (sym (reply_number-scan width height (lent image queue) refusal)
    ∙ ap reply_number (sym m.replied) ∙ accepted) in (
      select (is_blank_row width image) (range height),
      sym (ap blank_in (rw passes at m.replied)),
      counted-blank width height image,
    )

-- a refused scan has no counts
refused_none : (width height : ℕ) (image queue : List ℕ) (o : Option Refusal) →
    IsRefused (scan_unless width height o (lent image queue)).reply →
    let reply = (scan_unless width height o (lent image queue)).reply in
    reply ≡ scanned (reply_number reply) 0 0
unfolding scan_unless reply_number
refused_none width height image queue none refused = absurd (refused refl)
refused_none width height image queue (some refusal) refused = refl

pub none_told : NoneTold
unfolding call
none_told width height image queue image' queue' r m refused =
    rw m.replied
    (refused_none width height image queue (scan_refusal width height image queue) (rw m.replied at refused))

-- ---- the rest

-- the operation that asks for no iteration
abbrev idle : Step
idle = Dilate 4 0

-- a scan is refused as it is
idle_refusal : (width height : ℕ) (image queue : List ℕ) →
    operation_refusal width height image queue idle [] Scan ≡ scan_refusal width height image queue
unfolding operation_refusal scan_refusal step_checks start_checks mask_of reads_mask connectivity_check refuse_if
    first_refusal buffer_checks
idle_refusal width height image queue =
    let buffers = buffer_checks width height (image ∷ []) queue (image ∷ []) in
    by-refusal (first_refusal buffers) (λ e. first_refusal-append buffers (none ∷ []) e ∙ sym e)
    (λ refusal e. first_refusal-append-some buffers (none ∷ []) refusal e ∙ sym e)

-- and leaves the same
same-idle : (width height : ℕ) (state : State) (o : Option Refusal) →
    let scanning = scan_unless width height o state in
    let idling = operate_unless width height o state idle [] in
    (reply_number scanning.reply ≡ reply_number idling.reply)
    × (contour_length scanning.reply ≡ contour_length idling.reply) × (scanning.state ≡ idling.state)
unfolding scan_unless operate_unless apply applied effect iterate reply_number contour_length
same-idle width height state none = (refl, refl, refl)
same-idle width height state (some refusal) = (refl, refl, refl)

-- what a scan finds is what it found
pub scan-as-before : ScanAsBefore
unfolding call
scan-as-before width height image queue image' queue' r m =
    let refusal = scan_refusal width height image queue in
    let (numbers, lengths, left) = same-idle width height (lent image queue) refusal in
    rw (idle_refusal width height image queue) (
      ap reply_number m.replied ∙ numbers,
      ap contour_length m.replied ∙ lengths,
      m.pictured ∙ ap (λ (state : State). state.image) left,
      subst (SameQueue queue') left m.queued,
    )
