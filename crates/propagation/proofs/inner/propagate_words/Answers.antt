-- `propagate_words` meets its contract: the rows turned, iterated and turned back. Assumes nothing.
use mathlib.Core.Path.{sym, ◌∙◌}
use native.Mathlib.Omega.{arith}
use Rattle.words.proofs.RunLaws.{small-frame, rows-length}
use Rattle.propagation.proofs.PropagationLaws.{propagated-rows, clean-few}
use Rattle.propagation.proofs.inner.propagate_words.Goals as goal

pub turn-requires : goal.turn-requires
turn-requires c = clean-few c.requires.clean

pub iterate-used-requires : goal.iterate-used-requires
iterate-used-requires c =
    let frame = c.frame_of-frame.ensures in
    let size = c.turn.ensures.size ∙ c.requires.clean.size in
    record {
      small = small-frame frame;
      size = size ∙ sym (rows-length frame);
      masked = c.requires.masked.size ∙ sym size;
    }

pub turn-requires-2 : goal.turn-requires-2
turn-requires-2 c = omega (arith, c.iterate-used.auto.words, c.turn.ensures.size, clean-few c.requires.clean)

pub returns : goal.returns
returns c =
    let done = propagated-rows c.args.iterations c.frame_of-frame.ensures c.requires.clean c.requires.masked
    c.turn.ensures c.iterate-used.ensures c.iterate-used.auto.words c.turn-2.ensures
    (λ i. (c.type_inv.words i).fits) in
    record { propagated = done.0; used = done.1 }
