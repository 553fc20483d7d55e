-- `step_column` meets its contract. The loop's invariant: the first `y` words are done. Assumes nothing.
use Prim.Native.Nat.{◌+◌}
use mathlib.Core.Path.{◌≡◌}
use mathlib.Core.Logic.{◌↔◌}
use Rattle.words.specs.Frame.{Written, ErodedAt, Same}
use Rattle.words.proofs.inner.step_column.Given as goal

abbrev pub invariant-loop-y : goal.invariant-loop-y
invariant-loop-y l = record {
  eroded : Written (ErodedAt l.levels l.from l.apart l.eight l.keep l.fill) (l.from + l.apart) 1 l.y
      l.initial.entries l.entries;
  moved : (l.moved ≡ 0) ↔ Same (l.from + l.apart) l.y l.initial.entries l.entries;
}
