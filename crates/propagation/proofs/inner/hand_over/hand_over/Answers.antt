-- `hand_over` meets its contract: an iteration on words, and the others from the pixels that it added. Assumes nothing.
use native.Mathlib.Omega.{arith}
use Rattle.neighbours.specs.Words.{word_bits}
use Rattle.neighbours.proofs.PackedLaws.{unpacked-binary}
use Rattle.propagation.proofs.BeginLaws.{counted-le}
use Rattle.propagation.proofs.HandOverLaws.{handing-rows, handing-held, handing-grounded, handing-packable}
use Rattle.propagation.proofs.HandOverLaws.{handing-iterated}
use Rattle.propagation.proofs.inner.hand_over.hand_over.Goals as goal

pub propagate_words-first-requires : goal.propagate_words-first-requires
propagate_words-first-requires c = handing-rows c.requires.handing c.words_length-n.ensures

pub list_added-len-requires-clause-held_rows : goal.list_added-len-requires-clause-held_rows
list_added-len-requires-clause-held_rows c =
    handing-held c.requires.handing c.words_length-n.ensures c.propagate_words-first.ensures.propagated

pub list_added-len-requires-clause-ready : goal.list_added-len-requires-clause-ready
list_added-len-requires-clause-ready c =
    let h = c.requires.handing in
    record {
      valid = h.held.in_room.valid;
      binary = rw c.unpack.ensures (unpacked-binary word_bits _ _ _);
      room = h.room;
    }

pub grow-further-requires : goal.grow-further-requires
grow-further-requires c =
    let added = c.list_added-len.ensures in
    handing-grounded c.requires.handing c.words_length-n.ensures c.propagate_words-first.ensures.propagated
    c.unpack.ensures added.pictured added.listed

pub pack-requires-clause-packable : goal.pack-requires-clause-packable
pack-requires-clause-packable c =
    let added = c.list_added-len.ensures in
    handing-packable c.requires.handing c.words_length-n.ensures c.propagate_words-first.ensures.propagated
    c.unpack.ensures added.pictured added.listed _ c.grow-further.ensures.pictured

pub overflow_add-result : goal.overflow_add-result
overflow_add-result c =
    omega (arith, counted-le _ _ c.propagate_words-first.ensures.used, counted-le _ _ c.grow-further.ensures.used)

pub returns : goal.returns
returns c =
    let first = c.propagate_words-first.ensures in
    let added = c.list_added-len.ensures in
    let further = c.grow-further.ensures in
    handing-iterated c.requires.handing c.words_length-n.ensures first.propagated c.unpack.ensures added.pictured
    added.listed _ further.pictured _ c.requires.le_iterations first.used further.used c.pack.ensures
