-- `widen_map` meets its contract: it asks for the sizes, and copies where they pass. Assumes nothing.
use Prim.Native.Nat.{ℕ}
use mathlib.Core.Path.{◌≡◌, sym, ◌∙◌}
use mathlib.Core.List.{List, [], ◌∷◌}
use mathlib.Core.Option.{none, some}
use lib.ListN.{length}
use borrow.Author.Rules.{rules}
use Rattle.lists.proofs.ListLaws.{any-false-each}
use Rattle.model.specs.Refusals.{verdict_number, wrong_length}
use Rattle.model.specs.Widening.{widen_refusal, widen_unless, widen_map}
use Rattle.model.specs.Answers.{widened_to}
use Rattle.model.specs.declared.Refusal.{Refusal}
use Rattle.std.specs.Prelude.{Result, Ok, Err}
use Rattle.theorems.proofs.CheckLaws.{first_refusal-none-cons}
use Rattle.theorems.proofs.RefusalLaws.{wrong_length-iff}
use Rattle.judging.proofs.JudgeLaws.{verdict-refused, verdict-accepted}
use Rattle.labelling.proofs.widen_map.Goals as goal

module _ (width height : ℕ) (bytes labels : List ℕ) where
  -- a refusal leaves both maps
  refused : {w : Result Unit Refusal} {r : Refusal} → widen_refusal width height bytes labels ≡ some r → w ≡ Err r →
      widened_to w bytes labels ≡ widen_map width height bytes labels
  unfolding widen_map widen_unless widened_to verdict_number
  refused e told = rw (e, told)

  module _ (passes : widen_refusal width height bytes labels ≡ none) where
    -- maps that pass have as many entries
    sizes : length labels ≡ length bytes
    unfolding widen_refusal
    sizes =
        let right = (first_refusal-none-cons _ _ _ (first_refusal-none-cons _ _ _ passes).1).0 in
        let each = any-false-each (wrong_length _) (bytes ∷ labels ∷ []) right in
        (wrong_length-iff _ labels).0 each.1.0 ∙ sym ((wrong_length-iff _ bytes).0 each.0)

    -- and the bytes are carried over
    carried : {labels' : List ℕ} → labels' ≡ bytes →
        widened_to (Ok tt) bytes labels' ≡ widen_map width height bytes labels
    unfolding widen_map widen_unless widened_to verdict_number
    carried copied = rw (passes, copied)

pub returns-in_err-judge_widening : goal.returns-in_err-judge_widening
returns-in_err-judge_widening c =
    refused _ _ _ _ (verdict-refused c.judge_widening.ensures c.in_err-judge_widening.was) (search rules)

pub copy_bytes-requires : goal.copy_bytes-requires
copy_bytes-requires c = sizes _ _ _ _ (verdict-accepted c.judge_widening.ensures c.in_ok-judge_widening.was)

pub returns : goal.returns
returns c =
    carried _ _ _ _ (verdict-accepted c.judge_widening.ensures c.in_ok-judge_widening.was) c.copy_bytes.ensures
