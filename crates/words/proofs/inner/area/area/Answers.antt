-- `area` meets its contract: the words are few, and their ones are the object pixels. Assumes nothing.
use Rattle.std.proofs.Common.{◌≡◌, ◌≤◌, ◌∙◌, length, rules, arith, tests, map, sum, count_ones}
use Rattle.std.proofs.lemmas.Iterator.{YieldsList-from_slice}
use Rattle.std.proofs.lemmas.Iterator.Adapters.{fits_from_length, at_most_from_yields_List}
use Rattle.std.proofs.lemmas.List.Sums.{sum-map}
use Rattle.std.proofs.iter.runs.Made.{chains}
use Rattle.neighbours.specs.Words.{max_words}
use Rattle.packing.proofs.WordsLaws.{words-most}
use Rattle.words.proofs.AreaLaws.{sum-ones-area}
use Rattle.words.proofs.inner.area.area.Goals as goal

pub sum-requires-clause-fits : goal.sum-requires-clause-fits
sum-requires-clause-fits c =
    let words = c.args.words.now in
    let few : length words ≤ max_words = rw c.requires.size (words-most c.requires.valid) in
    fits_from_length _ _ max_words _ (at_most_from_yields_List (YieldsList-from_slice words cc) few)
    c.map.ensures.closure (omega arith) (λ x r q k. search (rules, tests))

pub returns : goal.returns
returns c =
    let words = c.args.words.now in
    let counted : c.sum.result ≡ sum (map count_ones words) = search (rules, chains) in
    counted ∙ sum-map count_ones words
    ∙ sum-ones-area c.args.width c.args.height words c.requires (λ i. (c.type_inv.words i).fits)
