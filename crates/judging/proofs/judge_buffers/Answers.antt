-- `judge_buffers` meets its contract: the mask is judged where the operation reads it. Assumes nothing.
use mathlib.Core.Path.{sym, ◌∙◌}
use Rattle.model.specs.Refusals.{mask_of}
use Rattle.judging.proofs.judge_buffers.Goals as goal

pub returns-then-reads_mask : goal.returns-then-reads_mask
unfolding mask_of
returns-then-reads_mask c = rw (sym c.reads_mask.ensures ∙ c.if-reads_mask.true) c.judge_masked.ensures

pub returns : goal.returns
unfolding mask_of
returns c = rw (sym c.reads_mask.ensures ∙ c.if-reads_mask.false) c.judge.ensures
