-- `list_added` meets its contract: what the rows have and the image had not. Assumes nothing.
use native.Mathlib.Omega.{arith}
use Rattle.std.proofs.lemmas.List.{length-take}
use Rattle.packing.proofs.WordsLaws.{words-most}
use Rattle.propagation.proofs.HandOverLaws.{listing-held, listing-added}
use Rattle.propagation.proofs.inner.hand_over.list_added.Goals as goal

pub keep_added-requires-clause-before_len_bound : goal.keep_added-requires-clause-before_len_bound
keep_added-requires-clause-before_len_bound c =
    let n = c.words_length-n in
    omega (arith, length-take n.result c.pack.new.rows, n.ensures, words-most c.requires.ready.valid)

pub list_pixels-requires-clause-held_rows : goal.list_pixels-requires-clause-held_rows
list_pixels-requires-clause-held_rows c =
    listing-held c.pack.new.rows c.requires.held_rows c.requires.ready.binary c.words_length-n.ensures
    c.pack.auto.rows c.pack.ensures c.keep_added.ensures

pub returns-clause-listed : goal.returns-clause-listed
returns-clause-listed c =
    listing-added c.pack.new.rows c.requires.held_rows c.requires.ready.binary c.words_length-n.ensures
    c.pack.auto.rows c.pack.ensures c.keep_added.ensures c.unpack.ensures c.list_pixels.ensures
