-- Laws of a job's listing (`Listing`, of the crate `model`), by what reading, the run and labelling answer.
-- Assumes nothing.
--   replies_in-steps                        a run's replies by its reports, as many as there are steps
--   labelled-room, records-few              a labelling that is not refused had room for its records, so few components
--   with_labels-refused, with_labels-done   the listing where labelling is refused, and where it is not
--   lane_listing-refused                    the listing of a job that cannot be read
--   lines_above, lane_listing-run           the lines above the components, and the whole listing of such a job
use Prim.Native.Nat.{ℕ, zero, suc, ◌*◌, ◌≤◌}
use mathlib.Core.Path.{◌≡◌, refl, sym, ap, ap₂, ◌∙◌}
use mathlib.Core.List.{List, [], ◌∷◌, ◌++◌, map, flat_map}
use mathlib.Core.Option.{none, some}
use native.Mathlib.Omega.{arith}
use lib.ListN.{length, take, replicate, length-map, length-replicate}
use Rattle.std.specs.Prelude.{Result, Ok, Err}
use Rattle.lists.specs.Lists.{count_from}
use Rattle.lists.specs.Text.{ascii}
use Rattle.lists.proofs.ListLaws.{take-length-take}
use Rattle.model.specs.Limits.{record_length, lane_pixels, lane_records}
use Rattle.model.specs.Labelling.{components, holes}
use Rattle.model.specs.Refusals.{number, first_refusal, label_checks, label_refusal}
use Rattle.model.specs.Calls.{label, labelled, lent, label_reply, labels_unless, label_unless, call, Meets}
use Rattle.model.specs.Codec.{read_job}
use Rattle.model.specs.Run.{run_calls, run_final, run_list}
use Rattle.model.specs.Listing.{line, refusal_listing, step_lines, part_line, with_labels}
use Rattle.model.specs.Listing.{lane_final, steps_listing, job_listing, read_listing, lane_listing}
use Rattle.model.specs.declared.Counts.{Counts}
use Rattle.model.specs.declared.Refusal.{Refusal}
use Rattle.model.specs.declared.Report.{Report}
use Rattle.model.specs.declared.Step.{Step}
use Rattle.theorems.proofs.CheckLaws.{by-refusal}
use Rattle.theorems.proofs.RefusalLaws.{number-positive}
use Rattle.theorems.proofs.CallLaws.{label_same, length-replies}
use Rattle.theorems.proofs.LimitLaws.{count_fits}
use Rattle.model.specs.declared.RunReport.{RunReport}
use Rattle.model.specs.declared.JobHead.{JobHead}
use Rattle.model.specs.StepList.{steps_in}
use Rattle.model.specs.Answers.{heading, heading_in, report_reply, run_told, replies_in, MeetsRun}
use Rattle.job.proofs.HeadingLaws.{job_in, heading-accepted, heading-refused}

-- ---- a run

-- the replies of a run are as many as its steps, so as many of its reports tell them
replies_in-steps : (width height : ℕ) (steps : List Step) (image mask queue : List ℕ) (ran : RunReport) →
    replies_in ran ≡ (run_list width height steps image mask queue).replies →
    map report_reply (take (length steps) ran.reports) ≡ (run_list width height steps image mask queue).replies
unfolding replies_in run_list run_calls
replies_in-steps width height steps image mask queue ran e =
    let told = take ran.count ran.reports in
    let as_many : length told ≡ length steps =
    sym (length-map told report_reply) ∙ ap length e ∙ length-replies width height _ _ ∙ length-map steps _ in
    ap (λ (n : ℕ). map report_reply (take n ran.reports)) (sym as_many)
    ∙ ap (map report_reply) (take-length-take ran.count ran.reports)
    ∙ e

-- ---- a labelling

-- one that is not refused was lent ten record entries for each component
pub labelled-room : {width height : ℕ} {image queue : List ℕ} {connectivity : ℕ}
    {cs hs recs image' queue' : List ℕ}
    (cs' hs' recs' : List ℕ) {reply : Result Counts Refusal} {counts : Counts} → reply ≡ Ok counts →
    Meets width height image queue (label connectivity cs hs recs) (label_reply reply cs' hs' recs') image' queue' →
    record_length * counts.components ≤ length recs
unfolding label_reply call label_unless labels_unless
labelled-room {width} {height} {image} {queue} {connectivity} {cs} {hs} {recs} cs' hs' recs' {counts = counts} e m =
    let found = components width height connectivity image in
    let inside = holes width height connectivity image in
    let outcome = call width height (lent image queue) (label connectivity cs hs recs) in
    let replied : labelled 0 counts.components counts.holes cs' hs' recs' ≡ outcome.reply =
    rw e at m.replied in
    by-refusal (label_refusal width height image queue connectivity cs hs)
    (λ passes.
    by-refusal (first_refusal (label_checks found.count inside.count recs))
    (λ fits.
    let answer : outcome.reply ≡ labels_unless width height none found inside recs = rw (passes, label_unless, fits) in
    let same : counts.components ≡ found.count = cc in
    omega (arith, (count_fits found.count inside.count recs fits).2))
    (λ refusal refused.
    let answer : outcome.reply ≡ labels_unless width height (some refusal) found inside recs =
    rw (passes, label_unless, refused) in
    let z : 0 ≡ number refusal = cc in
    absurd (omega (arith, number-positive refusal))))
    (λ refusal refused.
    let answer : outcome.reply ≡ labelled (number refusal) 0 0 cs hs recs = rw (refused, label_unless) in
    let z : 0 ≡ number refusal = cc in
    absurd (omega (arith, number-positive refusal)))

-- so the lane program lists no more than it keeps records for
pub records-few : {n : ℕ} {records : List ℕ} → record_length * n ≤ length records →
    records ≡ replicate (record_length * lane_records) 0 → n ≤ lane_records
records-few room zeros = omega (arith, ap length zeros ∙ length-replicate {A = ℕ} (record_length * lane_records) 0)

-- a number other than 0 is a refusal's
with_labels-number : (above : List ℕ) (n components holes : ℕ) (cs hs recs : List ℕ) → 1 ≤ n →
    with_labels above (labelled n components holes cs hs recs) ≡ refusal_listing n
unfolding with_labels
with_labels-number above zero components holes cs hs recs h = absurd (omega arith)
with_labels-number above (suc n) components holes cs hs recs h = refl

module _ (above cs hs recs : List ℕ) {reply : Result Counts Refusal} where
  -- where labelling is refused, the refusal stands alone
  pub with_labels-refused : {refusal : Refusal} → reply ≡ Err refusal →
      with_labels above (label_reply reply cs hs recs) ≡ refusal_listing (number refusal)
  unfolding label_reply
  with_labels-refused {refusal} e =
      ap (λ (r : Result Counts Refusal). with_labels above (label_reply r cs hs recs)) e
      ∙ with_labels-number above (number refusal) 0 0 cs hs recs (number-positive refusal)

  -- where it is not, the components follow the lines above
  pub with_labels-done : {counts : Counts} → reply ≡ Ok counts →
      with_labels above (label_reply reply cs hs recs)
      ≡ above ++ line (ascii "parts") (counts.components ∷ counts.holes ∷ [])
      ++ flat_map (part_line recs) (count_from 1 counts.components)
  unfolding with_labels label_reply
  with_labels-done e = rw e

-- ---- a job

-- the line of the job and the lines of its steps
abbrev pub lines_above : JobHead → List Report → List ℕ
lines_above job reports =
    let steps = steps_in job.steps in
    line (ascii "plate") (job.width ∷ job.height ∷ length steps ∷ [])
    ++ step_lines 1 steps (map report_reply (take (length steps) reports))

module _ (bytes : List ℕ) {read : Result JobHead Refusal}
    (told : heading_in read ≡ heading bytes (read_job lane_pixels bytes)) where
  -- a job that cannot be read
  pub lane_listing-refused : {refusal : Refusal} → read ≡ Err refusal →
      lane_listing bytes ≡ refusal_listing (number refusal)
  unfolding lane_listing read_listing
  lane_listing-refused e = let (o, found, same) = heading-refused lane_pixels bytes told e in rw (found, same)

module _ (bytes : List ℕ) (job : JobHead)
    (told : heading_in (Ok job) ≡ heading bytes (read_job lane_pixels bytes)) where
  -- what is printed for one that can, where its images are unpacked, it is run and its last image is labelled
  pub lane_listing-run : {image mask queue : List ℕ} →
      image ≡ (job_in bytes job).image → mask ≡ (job_in bytes job).mask →
      queue ≡ replicate (job.width * job.height) 0 →
      {ran : RunReport} {image' mask' queue' : List ℕ} →
      MeetsRun (run_list job.width job.height (steps_in job.steps) image mask queue) (Ok ran) image' mask' queue' →
      {cs hs recs : List ℕ} →
      cs ≡ replicate (job.width * job.height) 0 → hs ≡ replicate (job.width * job.height) 0 →
      recs ≡ replicate (record_length * lane_records) 0 →
      (reply : Result Counts Refusal) (cs' hs' recs' : List ℕ) {image'' queue'' : List ℕ} →
      Meets job.width job.height image' queue' (label 8 cs hs recs) (label_reply reply cs' hs' recs')
      image'' queue'' →
      lane_listing bytes ≡ with_labels (lines_above job ran.reports) (label_reply reply cs' hs' recs')
  unfolding lane_listing read_listing job_listing lane_final steps_listing run_list run_told
  lane_listing-run pictured masked queued {ran} {image'} {mask'} {queue'} run components holes records
      reply cs' hs' recs' {image''} {queue''} met =
      let w = job.width in
      let h = job.height in
      let steps = steps_in job.steps in
      let image = (job_in bytes job).image in
      let mask = (job_in bytes job).mask in
      let zeros : List ℕ = replicate (w * h) 0 in
      let empty : List ℕ = replicate (record_length * lane_records) 0 in
      let end = run_final w h steps image mask zeros in
      let model = run_list w h steps image mask zeros in
      let run : MeetsRun model (Ok ran) image' mask' queue' = rw (pictured, masked, queued) at run in
      let met : Meets w h image' queue' (label 8 zeros zeros empty)
      (label_reply reply cs' hs' recs') image'' queue'' =
      rw (components, holes, records) at met in
      let lines : lines_above job ran.reports
      ≡ line (ascii "plate") (w ∷ h ∷ length steps ∷ []) ++ step_lines 1 steps model.replies =
      rw (← (replies_in-steps w h steps image mask zeros ran run.replied)) in
      let labels : label_reply reply cs' hs' recs' ≡ (call w h end (label 8 zeros zeros empty)).reply =
      met.replied
      ∙ label_same w h (lent image' queue') end 8 zeros zeros empty run.pictured run.queued.size in
      ap read_listing (heading-accepted lane_pixels bytes told refl).found
      ∙ sym (ap₂ with_labels lines labels)
