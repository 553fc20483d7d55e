-- `unpack_word` meets its contract: a full word is flipped and written; of a shorter one the groups are, then the rest.
-- Assumes nothing.
use Prim.Native.Nat.{◌+◌, ◌*◌, ◌/◌, ◌%◌}
use mathlib.Core.Path.{◌≡◌}
use native.Mathlib.Omega.{arith}
use Rattle.packing.proofs.GroupLaws.{appended-word_pixels}
use Rattle.packing.proofs.WeaveLaws.{flipped-twice}
use Rattle.packing.proofs.inner.words.unpack_word.Goals as goal

pub returns-then-count-eq64 : goal.returns-then-count-eq64
returns-then-count-eq64 c =
    let a = c.args in
    let e : a.count ≡ 64 = omega arith in
    let pixels = flipped-twice a.word c.flip.result 64 (omega arith) c.flip.ensures in
    rw e (rw pixels at c.put_woven.ensures)

pub returns : goal.returns
returns c =
    let a = c.args in
    let n = a.count in
    let front = c.put_groups.ensures in
    let whole : 8 * (n / 8) + n % 8 ≡ n = omega arith in
    let end : a.at + 8 * (n / 8) + n % 8 ≡ a.at + n = omega arith in
    rw (whole, end) at
    (appended-word_pixels a.word (8 * (n / 8)) (n % 8) front (omega arith) c.put_bits.ensures)
