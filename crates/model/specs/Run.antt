-- The run of a job and of steps in hand: document 01, "Job and lane program" and the last paragraph of
-- "The plain book of demand 3". Definitions only.
--   Ran         what a run answers
--   run_calls   the steps of a list as calls
--   run_steps   a run of steps in hand on a lent crop
--   run_job     a job read from bytes and run into lent buffers
use Rattle.std.specs.Prelude.{ℕ, ◌*◌, List, [], ◌∷◌, ◌++◌, map}
use Rattle.std.proofs.Math.Option.{Option, none, some}
use Rattle.neighbours.specs.Limits.{max_side}
use Rattle.model.specs.Refusals.{number, first_refusal, length_check, queue_check, pixel_check}
use Rattle.model.specs.Calls.{Call, operate, scan, Reply, State, lent, call, replies, final}
use Rattle.model.specs.Codec.{list_checks, Job, JobRead, refused_job, accepted_job, read_job}
use Rattle.model.specs.declared.Refusal.{Refusal}
use Rattle.model.specs.declared.Step.{Step}
use Rattle.model.specs.declared.Start.TheVariants.{Scan}

-- What a run answers: 01's number or 0, each step's reply, the length of the last image's contour, and
-- the lent buffers as they are left
pub record Ran : Type 0 where
  pub number : ℕ
  pub replies : List Reply
  pub contour_length : ℕ
  pub image : List ℕ
  pub mask : List ℕ
  pub queue : List ℕ

-- what the model keeps after a run
abbrev pub after_run : Ran → State
after_run ran = record { image = ran.image; queue = ran.queue; held = ran.contour_length }

-- The steps of a list as calls. A contour in hand makes no difference to the model, so each starts by a scan
unfoldable pub run_calls : List ℕ → List Step → List Call
run_calls mask steps = map (λ step. operate step mask Scan) steps

module _ (width height : ℕ) where
  -- the start of a run: a scan, also where there are no steps
  unfoldable pub run_start : List ℕ → List ℕ → State
  run_start image queue = (call width height (lent image queue) scan).state

  -- the state after a run
  unfoldable pub run_final : List Step → List ℕ → List ℕ → List ℕ → State
  run_final steps image mask queue = final width height (run_start image queue) (run_calls mask steps)

  -- a run that is not refused
  unfoldable pub run_list : List Step → List ℕ → List ℕ → List ℕ → Ran
  run_list steps image mask queue =
      let end = run_final steps image mask queue in
      record {
        number = 0;
        replies = replies width height (run_start image queue) (run_calls mask steps);
        contour_length = end.held;
        image = end.image;
        mask = mask;
        queue = end.queue;
      }

-- a run that is refused leaves the lent buffers as they were
unfoldable pub refused_run : Refusal → List ℕ → List ℕ → List ℕ → Ran
refused_run refusal image mask queue =
    record { number = number refusal; replies = []; contour_length = 0; image = image; mask = mask; queue = queue }

-- ---- steps in hand

-- the table's rows in order, as far as they speak of steps that are not read and a lent crop
unfoldable pub steps_refusal : ℕ → ℕ → List Step → List ℕ → List ℕ → List ℕ → Option Refusal
steps_refusal width height steps image mask queue =
    first_refusal
    (list_checks max_side width height steps
    ++ (length_check (width * height) (image ∷ mask ∷ [])
    ∷ queue_check (width * height) queue
    ∷ pixel_check (image ∷ mask ∷ [])
    ∷ []))

unfoldable pub run_steps_unless : Option Refusal → ℕ → ℕ → List Step → List ℕ → List ℕ → List ℕ → Ran
run_steps_unless (some refusal) width height steps image mask queue = refused_run refusal image mask queue
run_steps_unless none width height steps image mask queue = run_list width height steps image mask queue

unfoldable pub run_steps : ℕ → ℕ → List Step → List ℕ → List ℕ → List ℕ → Ran
run_steps width height steps image mask queue =
    run_steps_unless (steps_refusal width height steps image mask queue) width height steps image mask queue

-- ---- a job

-- the lent buffers of a job's run: their lengths are judged, and what they hold does not matter
unfoldable pub run_refusal : ℕ → List ℕ → List ℕ → List ℕ → Option Refusal
run_refusal pixels image mask queue =
    first_refusal
    (length_check pixels (image ∷ mask ∷ []) ∷ queue_check pixels queue ∷ [])

unfoldable pub run_job_unless : Option Refusal → Job → List ℕ → List ℕ → List ℕ → Ran
run_job_unless (some refusal) job image mask queue = refused_run refusal image mask queue
run_job_unless none job image mask queue = run_list job.width job.height job.steps job.image job.mask queue

unfoldable pub run_read : JobRead → List ℕ → List ℕ → List ℕ → Ran
run_read (refused_job refusal) image mask queue = refused_run refusal image mask queue
run_read (accepted_job job) image mask queue =
    run_job_unless (run_refusal (job.width * job.height) image mask queue) job image mask queue

-- a job read from bytes, its picture and mask unpacked into the lent image and mask, and its steps run
unfoldable pub run_job : ℕ → List ℕ → List ℕ → List ℕ → List ℕ → Ran
run_job limit bytes image mask queue = run_read (read_job limit bytes) image mask queue
