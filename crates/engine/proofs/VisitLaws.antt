-- Visits of strips (`Visited`, of `specs/Spread.antt`), by a counter.
--   visited-tabulate-none, -suc   the first positions of a strip are visited: none yet, and one more
--   visited-strips-none, -suc     the first strips are: none yet, and one more
-- Assumes nothing.
use Prim.Native.Nat.{ℕ, ◌+◌}
use mathlib.Core.Path.{◌≡◌}
use mathlib.Core.List.{List, [], ◌∷◌}
use native.Mathlib.Numerals.{add-one}
use Rattle.lists.specs.Lists.{tabulate}
use Rattle.lists.proofs.ListLaws.{tabulate-zero, tabulate-suc}
use Rattle.neighbours.specs.declared.Strip.{Strip}
use Rattle.neighbours.specs.Border.{strip_positions, first_strips}
use Rattle.neighbours.proofs.BorderLaws.{first_strips-zero, first_strips-suc}
use Rattle.engine.specs.declared.Rule.{Rule}
use Rattle.engine.specs.Spread.{Visited}
use Rattle.engine.proofs.SpreadLaws.{visited-none, visited-append}

module _ (rule : Rule) (mask : List ℕ) (at : ℕ → ℕ) where
  -- no position is visited yet
  pub visited-tabulate-none : (image queue : List ℕ) (end : ℕ) →
      Visited rule mask image queue end (tabulate 0 at) image queue end
  visited-tabulate-none image queue end = rw tabulate-zero (visited-none rule mask image queue end)

  -- one position more
  pub visited-tabulate-suc : {image queue image' queue' image'' queue'' : List ℕ} {end end' end'' : ℕ} (n : ℕ) →
      Visited rule mask image queue end (tabulate n at) image' queue' end' →
      (rule.old ≡ rule.new → ⊥) → Visited rule mask image' queue' end' (at n ∷ []) image'' queue'' end'' →
      Visited rule mask image queue end (tabulate (n + 1) at) image'' queue'' end''
  visited-tabulate-suc n v differs w =
      rw (add-one n, tabulate-suc n at) (visited-append rule mask v differs w)

module _ (rule : Rule) (mask : List ℕ) (strips : ℕ → Strip) where
  -- no strip is visited yet
  pub visited-strips-none : (image queue : List ℕ) (end : ℕ) →
      Visited rule mask image queue end (first_strips strips 0) image queue end
  visited-strips-none image queue end = rw first_strips-zero (visited-none rule mask image queue end)

  -- one strip more
  pub visited-strips-suc : {image queue image' queue' image'' queue'' : List ℕ} {end end' end'' : ℕ} (n : ℕ) →
      Visited rule mask image queue end (first_strips strips n) image' queue' end' →
      (rule.old ≡ rule.new → ⊥) →
      Visited rule mask image' queue' end' (strip_positions (strips n)) image'' queue'' end'' →
      Visited rule mask image queue end (first_strips strips (n + 1)) image'' queue'' end''
  visited-strips-suc n v differs w =
      rw (add-one n, first_strips-suc strips n) (visited-append rule mask v differs w)
