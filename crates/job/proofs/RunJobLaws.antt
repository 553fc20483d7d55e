-- The run of a job (`run_job`, of the crate `model`), by what reading it answers. Assumes nothing.
--   run_job-refused, -wrong   a job that is refused is not run, nor is one into lent buffers that are refused
--   run_job-steps_refusal     otherwise its steps, with the unpacked images, are not refused
--   run_job-done              and are run
use Prim.Native.Nat.{ℕ, ◌*◌}
use mathlib.Core.Path.{◌≡◌, refl, sym, subst}
use mathlib.Core.List.{List}
use mathlib.Core.Option.{none}
use Rattle.std.specs.Prelude.{Result, Ok, Err}
use Rattle.model.specs.Refusals.{refusal}
use Rattle.model.specs.Codec.{JobRead, read_job}
use Rattle.model.specs.Run.{run_list, steps_refusal, run_refusal, run_job_unless, run_read, run_job}
use Rattle.model.specs.declared.Refusal.{Refusal}
use Rattle.model.specs.declared.JobHead.{JobHead}
use Rattle.model.specs.declared.RunReport.{RunReport}
use Rattle.model.specs.StepList.{steps_in}
use Rattle.model.specs.Answers.{heading_in, heading, MeetsRun}
use Rattle.theorems.proofs.RunLaws.{read_job-passes, read_job-few, steps_refusal-iff, run_refusal-iff}
use Rattle.runner.proofs.RunListLaws.{refused_run-meets}
use Rattle.job.proofs.ReadingLaws.{answer-refused}
use Rattle.job.proofs.HeadingLaws.{job_in, heading-accepted, heading-refused}

module _ (limit : ℕ) (bytes : List ℕ) {read : Result JobHead Refusal}
    (told : heading_in read ≡ heading bytes (read_job limit bytes)) (image mask queue : List ℕ) where
  -- a job that is refused
  pub run_job-refused : {r : Refusal} {reply : Result RunReport Refusal} → read ≡ Err r → reply ≡ Err r →
      MeetsRun (run_job limit bytes image mask queue) reply image mask queue
  unfolding run_job run_read
  run_job-refused {reply = reply} e same =
      let (o, found, numbered) = heading-refused limit bytes told e in
      subst (λ (found : JobRead). MeetsRun (run_read found image mask queue) reply image mask queue) (sym found)
      (refused_run-meets o image mask queue same numbered)

  module _ {head : JobHead} (e : read ≡ Ok head) where
    -- one that is read is run unless a lent buffer is refused
    run_job-read : run_job limit bytes image mask queue
        ≡ run_job_unless (run_refusal (head.width * head.height) image mask queue) (job_in bytes head) image mask queue
    unfolding run_job run_read
    run_job-read = rw (heading-accepted limit bytes told e).found

    -- it is
    pub run_job-wrong : {judged : Result Unit Refusal} {r : Refusal} {reply : Result RunReport Refusal} →
        refusal judged ≡ run_refusal (head.width * head.height) image mask queue → judged ≡ Err r → reply ≡ Err r →
        MeetsRun (run_job limit bytes image mask queue) reply image mask queue
    unfolding run_job_unless
    run_job-wrong {r = r} answers refused same =
        rw (run_job-read, answer-refused answers refused) (refused_run-meets r image mask queue same refl)

    -- it is not, and the images are unpacked
    module _ (lent : run_refusal (head.width * head.height) image mask queue ≡ none) {image₁ mask₁ : List ℕ}
        (pictured : image₁ ≡ (job_in bytes head).image) (masked : mask₁ ≡ (job_in bytes head).mask) where
      -- the steps are not refused with them
      pub run_job-steps_refusal :
          steps_refusal head.width head.height (steps_in head.steps) image₁ mask₁ queue ≡ none
      run_job-steps_refusal =
          let job = job_in bytes head in
          let accepted = (heading-accepted limit bytes told e).found in
          let passes = read_job-passes limit bytes job accepted in
          rw (pictured, masked)
          ((steps_refusal-iff head.width head.height (steps_in head.steps) job.image job.mask queue).1 (
            record {
              valid = passes.valid;
              sized = (passes.binary.pixels, (passes.masked.pixels, tt));
              room = ((run_refusal-iff (head.width * head.height) image mask queue).0 lent).2;
              bits = (passes.binary.bits, (passes.masked.bits, tt));
            },
            read_job-few limit bytes job accepted,
            passes.checked,
          ))

      -- and are run
      pub run_job-done : {reply : Result RunReport Refusal} {image' mask' queue' : List ℕ} →
          MeetsRun (run_list head.width head.height (steps_in head.steps) image₁ mask₁ queue)
          reply image' mask' queue' →
          MeetsRun (run_job limit bytes image mask queue) reply image' mask' queue'
      unfolding run_job_unless
      run_job-done m = rw (run_job-read, lent, ← pictured, ← masked) m
