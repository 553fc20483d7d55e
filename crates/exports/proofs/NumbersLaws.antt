-- Laws of `specs/Numbers.antt`: the answer of a run in numbers. Assumes nothing.
--   run-count         a run's answer counts no more reports than it has
--   length-numbers_of   three numbers for each
--   reports-next      the numbers of one report more are written
--   numbers_of-none   the numbers of no step are zeros
--   reports-numbers   the numbers of a run's reports
--   meets-numbers     what a run promises, in numbers
use Prim.Native.Nat.{ℕ, zero, suc, ◌+◌, ◌-◌, ◌*◌, ◌≤◌, ◌<◌}
use mathlib.Core.Path.{◌≡◌, refl, sym, ap, ◌∙◌}
use mathlib.Core.List.{List, [], ◌∷◌, ◌++◌, map, flat_map, map-append}
use native.Mathlib.Numerals.{add-one}
use native.Mathlib.Omega.{arith}
use lib.ListN.{length, get_or, take, drop, replicate, length-map, length-take, take-append-drop}
use lib.Seq.{take-suc, length-take-le}
use borrow.Rule.Slice.PartMut.{put_mid}
use Rattle.lists.proofs.ListLaws.{flat_map-snoc, flat_map-append}
use Rattle.neighbours.specs.Crop.{Appended}
use Rattle.neighbours.proofs.AppendedLaws.{appended-append, length-appended}
use Rattle.packing.proofs.RowsLaws.{appended-put_mid}
use Rattle.model.specs.Limits.{max_steps}
use Rattle.model.specs.Refusals.{verdict_number}
use Rattle.model.specs.Run.{Ran}
use Rattle.model.specs.declared.Report.{Report}
use Rattle.model.specs.Answers.{report_reply, replies_in, run_told, no_report, MeetsRun}
use Rattle.model.specs.declared.Refusal.{Refusal}
use Rattle.std.specs.Prelude.{Result}
use Rattle.model.specs.declared.RunReport.{RunReport}
use Rattle.exports.specs.Numbers.{report_counts, reply_counts, numbers_of, report_room, report_numbers, MeetsNumbers}

-- ---- how many reports there are

-- a run's answer counts no more reports than it has, since those that it counts are as many replies
pub run-count : {ran : Ran} {r : Result RunReport Refusal} {image mask queue : List ℕ} →
    MeetsRun ran r image mask queue → (run_told r).count ≤ length (run_told r).reports
unfolding replies_in
run-count {r = r} m =
    let told = run_told r in
    let taken = sym (length-map (take told.count told.reports) report_reply) ∙ ap length m.replied in
    omega (arith, m.counted, taken, length-take told.count told.reports)

-- three numbers for each
pub length-numbers_of : (reports : List Report) → length (numbers_of reports) ≡ 3 * length reports
unfolding numbers_of reply_counts report_reply flat_map
length-numbers_of [] = refl
length-numbers_of (report ∷ reports) = omega (arith, length-numbers_of reports)

-- ---- its reports

module _ (reports : List Report) where
  -- the numbers of one report more
  numbers-next : (k : ℕ) (d : Report) → k < length reports →
      numbers_of (take (k + 1) reports) ≡ numbers_of (take k reports) ++ report_counts (get_or reports k d)
  unfolding numbers_of reply_counts report_reply
  numbers-next k d lt = rw (add-one, take-suc reports k d lt, map-append, flat_map-snoc)

  -- are written behind the others
  pub reports-next : (k : ℕ) (d : Report) {entries₀ entries written : List ℕ} → k < length reports →
      3 * (k + 1) ≤ length entries₀ → Appended entries₀ 0 (numbers_of (take k reports)) entries (3 * k) →
      written ≡ report_counts (get_or reports k d) →
      Appended entries₀ 0 (numbers_of (take (k + 1) reports)) (put_mid (3 * k) (3 * k + 3 - 3 * k) entries written)
      (3 * (k + 1))
  reports-next k d lt room so_far told =
      let end : 3 * (k + 1) ≡ 3 * k + 3 = omega arith in
      let kept = length-appended so_far (omega arith) in
      rw (numbers-next k d lt, end)
      (appended-append so_far (omega arith) (appended-put_mid _ _ _ _ _ told refl (omega arith)))

-- the numbers of no step are zeros
pub numbers_of-none : (n : ℕ) → numbers_of (replicate n no_report) ≡ replicate (3 * n) 0
unfolding numbers_of reply_counts report_reply flat_map
numbers_of-none zero = refl
numbers_of-none (suc n) =
    let three : 3 * suc n ≡ suc (suc (suc (3 * n))) = omega arith in
    ap (λ (l : List ℕ). 0 ∷ 0 ∷ 0 ∷ l) (numbers_of-none n) ∙ ap (λ (k : ℕ). replicate k 0) (sym three)

-- so with those of no step behind them, the numbers of reports are a run's
pub reports-numbers : (reports : List Report) (count : ℕ) → count ≤ max_steps → length reports ≡ max_steps →
    drop count reports ≡ replicate (max_steps - count) no_report →
    numbers_of reports ≡ report_numbers (map report_reply (take count reports))
unfolding numbers_of report_numbers
reports-numbers reports count few whole behind =
    let front = take count reports in
    let taken = length-map front report_reply ∙ length-take-le count reports (omega arith) in
    ap numbers_of (sym (take-append-drop count reports))
    ∙ rw (map-append, flat_map-append)
    (ap (λ (l : List ℕ). numbers_of front ++ l)
    (ap numbers_of behind ∙ numbers_of-none (max_steps - count)
    ∙ ap (λ (k : ℕ). replicate (3 * (max_steps - k)) 0) (sym taken)))

-- ---- a run

-- what a run promises, in numbers
pub meets-numbers : {ran : Ran} {r : Result RunReport Refusal} {refused : ℕ}
    {counts reports image mask queue : List ℕ} → MeetsRun ran r image mask queue →
    length reports ≡ report_room → refused ≡ verdict_number r →
    counts ≡ (run_told r).count ∷ (run_told r).contour_len ∷ [] → reports ≡ numbers_of (run_told r).reports →
    MeetsNumbers ran refused counts reports image mask queue
unfolding replies_in
meets-numbers {r = r} m room refused counts reports =
    let told = run_told r in
    let whole : length told.reports ≡ max_steps =
    omega (arith, sym (length-numbers_of told.reports) ∙ sym (ap length reports) ∙ room) in
    record {
      numbered = refused ∙ m.numbered;
      counted = counts ∙ rw (m.counted, m.lasting);
      reported =
          reports ∙ reports-numbers told.reports told.count (omega (arith, run-count m)) whole m.behind
          ∙ ap report_numbers m.replied;
      pictured = m.pictured;
      masked = m.masked;
      queued = m.queued;
    }
