-- `begin` meets its contract: no iteration, a stretch that is the last or that another follows, and the rest. Assumes
-- nothing.
use native.Mathlib.Omega.{arith}
use Rattle.words.proofs.ChangedLaws.{area-le}
use Rattle.propagation.proofs.BeginLaws.{began-none, counted-le, stretch-clean, stretch-open, stretch-fewer}
use Rattle.propagation.proofs.BeginLaws.{stretch-whole}
use Rattle.propagation.proofs.inner.begin.begin.Goals as goal

pub loop-used-init : goal.loop-used-init
loop-used-init c =
    record {
      clean = c.requires.propagatable.clean;
      began = began-none _ _ _;
      few = c.requires.shared_le_max_pixels;
    }

pub overflow_add-used : goal.overflow_add-used
overflow_add-used c = omega (arith, counted-le _ _ c.propagate_words-more.ensures.used)

-- ---- an iteration changed nothing

pub returns-then-more-stretch-clause-clean : goal.returns-then-more-stretch-clause-clean
returns-then-more-stretch-clause-clean c =
    stretch-clean _ _ _ _ _ _ c.requires.propagatable.clean.valid c.propagate_words-more.ensures.propagated

pub returns-then-more-stretch-clause-began : goal.returns-then-more-stretch-clause-began
returns-then-more-stretch-clause-began c =
    let more = c.propagate_words-more.ensures in
    stretch-fewer _ _ _ _ _ _ c.requires.propagatable.clean.valid more.propagated _ c.loop-used.invariant.began
    more.used
    (omega arith) c.if-more-stretch.true

-- ---- the area grew little

pub area-after-requires : goal.area-after-requires
area-after-requires c =
    stretch-clean _ _ _ _ _ _ c.requires.propagatable.clean.valid c.propagate_words-more.ensures.propagated

pub returns-then-few_moved-clause-clean : goal.returns-then-few_moved-clause-clean
returns-then-few_moved-clause-clean c =
    stretch-clean _ _ _ _ _ _ c.requires.propagatable.clean.valid c.propagate_words-more.ensures.propagated

pub returns-then-few_moved-clause-began : goal.returns-then-few_moved-clause-began
returns-then-few_moved-clause-began c =
    let more = c.propagate_words-more.ensures in
    stretch-open _ _ _ _ _ _ c.requires.propagatable.clean.valid more.propagated _ c.loop-used.invariant.began more.used
    (omega arith)

pub returns-then-few_moved-clause-open : goal.returns-then-few_moved-clause-open
returns-then-few_moved-clause-open c = λ e. omega (arith, counted-le _ _ c.propagate_words-more.ensures.used)

-- ---- another stretch follows

pub loop-used-preserved : goal.loop-used-preserved
loop-used-preserved c =
    let a = c.args in
    let valid = c.requires.propagatable.clean.valid in
    let more = c.propagate_words-more.ensures in
    record {
      clean = stretch-clean _ _ _ _ _ _ valid more.propagated;
      began = stretch-open _ _ _ _ _ _ valid more.propagated _ c.loop-used.invariant.began more.used (omega arith);
      few = area-le a.width a.height c.propagate_words-more.new.words valid c.area-after.ensures;
    }

-- ---- the rest

pub overflow_add-result : goal.overflow_add-result
overflow_add-result c =
    omega (arith, counted-le _ _ c.propagate_words-last.ensures.used, c.loop-used.invariant.began.within)

pub returns-clause-clean : goal.returns-clause-clean
returns-clause-clean c =
    stretch-clean _ _ _ _ _ _ c.requires.propagatable.clean.valid c.propagate_words-last.ensures.propagated

pub returns-clause-began : goal.returns-clause-began
returns-clause-began c =
    let last = c.propagate_words-last.ensures in
    let began = c.loop-used.invariant.began in
    stretch-whole _ _ _ _ _ _ c.requires.propagatable.clean.valid last.propagated _ began last.used
    (omega (arith, began.within))
