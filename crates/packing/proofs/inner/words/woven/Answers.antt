-- `woven` meets its contract: one group more is woven in. Assumes nothing.
use Rattle.std.proofs.Common.{◌≡◌, ℕ, ◌+◌, ◌-◌, ◌*◌, ◌<◌, List, sym, ap, ◌∙◌, arith}
use native.Mathlib.Nat.{mul-one}
use Rattle.packing.specs.Groups.{pixel_bits, spread}
use Rattle.packing.proofs.GroupLaws.{pixel_bytes-spread}
use Rattle.packing.proofs.WeaveLaws.{Woven, group-pixels, woven-last, woven-double, woven-more, flipped-woven}
use Rattle.packing.proofs.inner.words.woven.Goals as goal

-- the pixels behind the group that is read
behind : {image : List ℕ} {at count g word : ℕ} → 0 < g → Woven image at count g word →
    Woven image at count (g - 1 + 1) word
behind {g = g} some woven =
    let e : g - 1 + 1 ≡ g = omega arith in
    rw e woven

-- the group is woven in
more : (c : goal.After-eight_pixels) →
    Woven c.args.image.now c.args.at c.args.count (c.loop-g.g - 1)
    (c.loop-g.word + c.loop-g.word + c.eight_pixels.result)
more c =
    let a = c.args in
    let g = c.loop-g.g - 1 in
    let image = a.image.now in
    let small = c.requires.pixels.bits in
    let group = c.eight_pixels.ensures
    ∙ pixel_bytes-spread image small (a.at + 8 * g)
    ∙ ap spread (sym (mul-one (pixel_bits image (a.at + 8 * g) 8))
    ∙ group-pixels image a.at a.count g 8 (omega arith)) in
    woven-more image small a.at a.count g _ c.requires.count_le_word_bits
    (behind c.loop-g-test.true c.loop-g.invariant) _ group (omega arith)

pub loop-g-init : goal.loop-g-init
loop-g-init c =
    let a = c.args in
    woven-last a.image.now c.requires.pixels.bits a.at a.count _ c.requires.count_le_word_bits
    c.few_pixels-word.ensures (omega arith)

pub overflow_add-word : goal.overflow_add-word
overflow_add-word c =
    omega (
      arith,
      woven-double c.args.image.now c.requires.pixels.bits _ _ _ _ c.requires.count_le_word_bits
          (behind c.loop-g-test.true c.loop-g.invariant),
    )

pub overflow_add-word-in-loop-g : goal.overflow_add-word-in-loop-g
overflow_add-word-in-loop-g c = omega (arith, (more c).fits)

pub loop-g-preserved : goal.loop-g-preserved
loop-g-preserved c = more c

pub returns : goal.returns
returns c =
    let e : c.loop-g.g ≡ 0 = omega arith in
    flipped-woven _ _ _ _ c.requires.count_le_word_bits (rw e at c.loop-g.invariant)
