-- `shared_area` meets its contract: no word, one more, and all. Assumes nothing.
use Prim.Native.Nat.{ℕ, ◌+◌}
use mathlib.Core.Path.{◌≡◌, refl, sym, ap, ap₂, ◌∙◌}
use native.Mathlib.Omega.{arith}
use native.Mathlib.Numerals.{add-one}
use lib.Bits.{bit_and}
use lib.Count.{ones}
use lib.ListN.{length}
use Rattle.std.proofs.lemmas.List.{length_push}
use Rattle.std.proofs.lemmas.Slice.Zip.{zip_turn, zip_end}
use Rattle.words.specs.Frame.{ones_sum}
use Rattle.propagation.proofs.PropagationLaws.{clean-few}
use Rattle.propagation.proofs.BeginLaws.{get_or-shared_rows, shared_area-ones}
use Rattle.propagation.proofs.inner.begin.shared_area.Goals as goal

pub loop-word-init : goal.loop-word-init
unfolding ones_sum
loop-word-init c = (omega arith, refl)

pub overflow_add-sum : goal.overflow_add-sum
overflow_add-sum c =
    let a = c.args in
    let turn =
    zip_turn a.words.now a.mask.now c.loop-word.yielded _ _ c.next.new.self _ (cc) (cc) c.loop-word.yielded_by _
    c.in-Some.is c.next.ensures.steps in
    omega (arith, c.loop-word.invariant.0, clean-few c.requires.clean_words, turn.0)

pub loop-word-preserved : goal.loop-word-preserved
unfolding ones_sum
loop-word-preserved c =
    let a = c.args in
    let inv = c.loop-word.invariant in
    let n = length c.loop-word.yielded in
    let turn =
    zip_turn a.words.now a.mask.now c.loop-word.yielded _ _ c.next.new.self _ (cc) (cc) c.loop-word.yielded_by _
    c.in-Some.is c.next.ensures.steps in
    let both = ap₂ (λ (w m : ℕ). ones (bit_and w m)) (turn.2 0) (turn.3 0) in
    let word = ap ones (get_or-shared_rows a.words.now a.mask.now n) in
    rw length_push
    (omega arith, rw (add-one, ones_sum) (ap₂ ◌+◌ inv.1 (c.ones_of-sum.ensures.value ∙ both ∙ sym word)))

pub returns : goal.returns
returns c =
    let a = c.args in
    let end =
    zip_end a.words.now a.mask.now c.loop-word.yielded _ _ c.next.new.self _ (cc) (cc) c.loop-word.yielded_by
    c.in-None.is c.next.ensures.steps in
    let all : length c.loop-word.yielded ≡ length a.words.now =
    omega (arith, end, c.requires.clean_words.size, c.requires.clean_mask.size) in
    c.loop-word.invariant.1
    ∙ rw all
    (shared_area-ones a.words.now a.mask.now a.width a.height c.requires.clean_words
    (λ i. (c.type_inv.words i).fits))
