-- `run_with` meets its contract: the local arrays are room for the words. Assumes nothing.
use mathlib.Core.Path.{refl}
use Rattle.std.proofs.lemmas.List.{length-replicate}
use Rattle.theorems.proofs.RunLaws.{steps_refusal-passes}
use Rattle.runner.proofs.inner.run_with.Goals as goal

pub run_in-requires-clause-in_room : goal.run_in-requires-clause-in_room
run_in-requires-clause-in_room g c = record {
  valid = (steps_refusal-passes _ _ _ _ _ _ c.requires.passes).0.valid;
  room = rw length-replicate c.requires.room;
  few = rw length-replicate c.requires.few;
  size = refl;
}
