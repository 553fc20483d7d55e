-- `operate` meets its contract: it asks the table's rows in turn, and performs the call in a room that its frame fits
-- in. Assumes nothing.
use Prim.Native.Nat.{ℕ}
use mathlib.Core.Path.{◌≡◌}
use mathlib.Core.List.{List}
use mathlib.Core.Option.{none}
use borrow.Author.Rules.{rules}
use Rattle.model.specs.Refusals.{first_refusal}
use Rattle.model.specs.declared.Step.{Step}
use Rattle.judging.proofs.JudgeLaws.{verdict-refused, verdict-accepted}
use Rattle.words.proofs.RoomLaws.{frame-most}
use Rattle.performing.specs.Inner.{way_step, Accepted}
use Rattle.performing.specs.declared.Way.{Way}
use Rattle.performing.proofs.WayLaws.{Alike, alike, accepted-alike, performed-alike, chosen-accepted, chosen-performed}
use Rattle.morphology.proofs.EntryLaws.{operation_checks, checked, refused-checks, performed}
use Rattle.morphology.proofs.operate.Goals as goal

-- the call is accepted but for its contour
accepted : {width height : ℕ} {image mask queue : List ℕ} {step : Step} (way : Way) →
    first_refusal (operation_checks width height image queue step mask) ≡ none →
    Alike width height step (way_step way) → Accepted width height (way_step way) image mask queue
accepted way passes same =
    let h = checked _ _ _ _ _ _ passes in
    accepted-alike same (record { ready = h.ready; passes = h.passes; masked = h.masked })

pub returns-in_err-judge_operation : goal.returns-in_err-judge_operation
returns-in_err-judge_operation c =
    refused-checks _ _ _ _ _ _ _ (verdict-refused c.judge_operation.ensures c.in_err-judge_operation.was)
    (search rules)

pub choose_engine-engine-requires : goal.choose_engine-engine-requires
choose_engine-engine-requires c =
    (checked _ _ _ _ _ _ (verdict-accepted c.judge_operation.ensures c.in_ok-judge_operation.was)).ready.valid

pub perform_by_queue-requires : goal.perform_by_queue-requires
perform_by_queue-requires c =
    chosen-accepted _ _ _ _ c.choose_engine-engine.ensures c.in-Queue.is
    (accepted c.way_of-way.result (verdict-accepted c.judge_operation.ensures c.in_ok-judge_operation.was)
    (alike _ _ c.args.step c.way_of-way.ensures))

pub returns-in-Queue : goal.returns-in-Queue
returns-in-Queue c =
    performed _ _ _ _ _ _ _ (verdict-accepted c.judge_operation.ensures c.in_ok-judge_operation.was) _
    (performed-alike (alike _ _ c.args.step c.way_of-way.ensures) _ _ _ _ _ _ _
    (chosen-performed _ _ _ _ c.choose_engine-engine.ensures c.in-Queue.is _ _ _ _ _ _ c.perform_by_queue.ensures))

pub is_small-requires : goal.is_small-requires
is_small-requires c =
    (checked _ _ _ _ _ _ (verdict-accepted c.judge_operation.ensures c.in_ok-judge_operation.was)).ready.valid

pub perform_with-requires-clause-accepted : goal.perform_with-requires-clause-accepted
perform_with-requires-clause-accepted c =
    accepted c.way_of-way.result (verdict-accepted c.judge_operation.ensures c.in_ok-judge_operation.was)
    (alike _ _ c.args.step c.way_of-way.ensures)

pub returns-then-is_small : goal.returns-then-is_small
returns-then-is_small c =
    performed _ _ _ _ _ _ _ (verdict-accepted c.judge_operation.ensures c.in_ok-judge_operation.was) _
    (performed-alike (alike _ _ c.args.step c.way_of-way.ensures) _ _ _ _ _ _ _ c.perform_with.ensures)

pub perform_with-requires-2-clause-accepted : goal.perform_with-requires-2-clause-accepted
perform_with-requires-2-clause-accepted c =
    accepted c.way_of-way.result (verdict-accepted c.judge_operation.ensures c.in_ok-judge_operation.was)
    (alike _ _ c.args.step c.way_of-way.ensures)

pub perform_with-requires-2-clause-room : goal.perform_with-requires-2-clause-room
perform_with-requires-2-clause-room c =
    frame-most
    (checked _ _ _ _ _ _ (verdict-accepted c.judge_operation.ensures c.in_ok-judge_operation.was)).ready.valid

pub returns : goal.returns
returns c =
    performed _ _ _ _ _ _ _ (verdict-accepted c.judge_operation.ensures c.in_ok-judge_operation.was) _
    (performed-alike (alike _ _ c.args.step c.way_of-way.ensures) _ _ _ _ _ _ _ c.perform_with-2.ensures)
