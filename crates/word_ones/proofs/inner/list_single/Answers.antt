-- `list_single` meets its contract: a word's ones are its last one and those of the word without it, which has none.
-- Assumes nothing.
use Rattle.std.proofs.Common.{◌≡◌, ◌+◌, [], ◌∷◌, arith}
use Rattle.neighbours.proofs.ExtendedLaws.{extended_none, extended-one}
use Rattle.word_ones.specs.Ones.{ones_from}
use Rattle.word_ones.proofs.OnesLaws.{ones_from-zero, ones_from-single, single_fits}
use Rattle.word_ones.proofs.inner.list_single.Goals as goal

pub returns-then-word-eq0 : goal.returns-then-word-eq0
returns-then-word-eq0 c = rw (c.if-word-eq0.true, ones_from-zero) (extended_none _ _)

pub overflow_add-at : goal.overflow_add-at
overflow_add-at c =
    omega (arith, single_fits c.requires.listable_word c.ranges.word.fits (omega arith) c.requires.word_value)

pub put_queued-requires : goal.put_queued-requires
put_queued-requires c =
    let fits = single_fits c.requires.listable_word c.ranges.word.fits (omega arith) c.requires.word_value in
    record { slot_in_bounds = fits.1; at_lt_max_pixels = omega arith }

pub returns : goal.returns
returns c =
    let word = c.ranges.word.fits in
    let only = c.requires.word_value in
    let single : ones_from c.args.at c.args.word ≡ (c.args.at + c.last_one.result) ∷ [] =
    ones_from-single _ _ word (omega arith) only (omega arith) in
    rw (c.put_queued.ensures, single)
    (extended-one _ _ _ (single_fits c.requires.listable_word word (omega arith) only).1)
