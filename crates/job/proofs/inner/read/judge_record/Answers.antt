-- `judge_record` meets its contract: two checks. Assumes nothing.
use native.Mathlib.Omega.{arith}
use borrow.Author.Rules.{rules}
use Rattle.judging.proofs.JudgeLaws.{check-last, check-refused, check-accepted, check_passed}
use Rattle.job.specs.Reading.{record_checks}
use Rattle.job.proofs.ReadingLaws.{check-same}
use Rattle.job.proofs.inner.read.judge_record.Goals as goal

pub returns-in_err-refuse_if : goal.returns-in_err-refuse_if
unfolding record_checks
returns-in_err-refuse_if c =
    check-refused _ _ (check-same _ c.refuse_if.ensures (grind arith)) c.in_err-refuse_if.was (search rules)

pub bounds-bytes-0-2 : goal.bounds-bytes-0-2
bounds-bytes-0-2 c = grind (arith, check_passed _ _ c.refuse_if.ensures c.in_ok-refuse_if.was)

pub bounds-bytes-1 : goal.bounds-bytes-1
bounds-bytes-1 c = grind (arith, check_passed _ _ c.refuse_if.ensures c.in_ok-refuse_if.was)

pub returns : goal.returns
unfolding record_checks
returns c =
    check-accepted _ _ (check-same _ c.refuse_if.ensures (grind arith)) c.in_ok-refuse_if.was
    (check-last _ _ (check-same _ c.refuse_if-2.ensures (grind arith)))
