-- `put_decimal`, which calls itself, meets its contract: the digits of n / 10 and the last one behind them are those of
-- n. Assumes nothing.
use Prim.Native.Nat.{ℕ, ◌+◌, ◌/◌, ◌%◌, ◌^◌, ◌<◌, ◌≤◌}
use mathlib.Core.Path.{◌≡◌, ap}
use native.Mathlib.Omega.{arith}
use lib.ListN.{length}
use Rattle.neighbours.proofs.AppendedLaws.{appended-append}
use Rattle.model.specs.Listing.{decimal}
use Rattle.lines.proofs.DecimalLaws.{decimal-one, decimal-snoc, length-decimal-snoc}
use Rattle.lines.proofs.inner.+put_decimal.Goals as goal

-- the digits of n / 10 are one fewer
digits : (n : ℕ) → 10 ≤ n → n < 2 ^ 32 → length (decimal n) ≡ length (decimal (n / 10)) + 1
digits n several small = length-decimal-snoc n (omega arith) (omega arith)

pub put_byte-requires : goal.put_byte-requires
put_byte-requires t c = omega (arith, ap length (decimal-one _ c.if-n-lt10.true))

pub returns-then-n-lt10 : goal.returns-then-n-lt10
returns-then-n-lt10 t c =
    let n = c.args.n in
    let small : n < 10 = omega arith in
    let digit : n % 10 ≡ n = omega arith in
    rw (decimal-one n small) (rw digit at c.put_byte.ensures)

pub put_decimal-end-requires : goal.put_decimal-end-requires
put_decimal-end-requires t c =
    (omega (arith, c.decreases), omega (arith, digits c.args.n c.if-n-lt10.false c.ranges.n.fits))

pub put_byte-requires-2 : goal.put_byte-requires-2
put_byte-requires-2 t c =
    let first = c.put_decimal-end in
    omega (arith, first.ensures.counted, first.auto.buffer, digits c.args.n c.if-n-lt10.false c.ranges.n.fits)

pub returns : goal.returns
returns t c =
    let first = c.put_decimal-end.ensures in
    let fewer = digits c.args.n c.if-n-lt10.false c.ranges.n.fits in
    rw (decimal-snoc c.args.n (omega arith) (omega arith))
    (appended-append first (omega (arith, first.counted)) c.put_byte-2.ensures)
