-- What the loop of `put_steps` keeps: the records so far are written behind the front.
use mathlib.Core.List.{flat_map}
use lib.ListN.{take}
use Rattle.neighbours.specs.Crop.{Appended}
use Rattle.model.specs.Codec.{step_bytes}
use Rattle.job.proofs.inner.write.put_steps.Given as goal

abbrev pub invariant-loop-step : goal.invariant-loop-step
invariant-loop-step l = Appended l.fn.buffer l.at (flat_map step_bytes (take l.step-index l.steps)) l.buffer l.end
