-- Demand 3 of document 01 and what goes with it: the claims of `specs/Claims.antt` on lists of calls.
--   demand3            calls that each meet their contract give, as a list, what the model gives
--   demand3-prefix     and so they do after each call of the list
--   contour-exact      after an accepted operation the queue holds exactly the contour, with zeros behind
--   contour-accepted   that contour, handed in after refused operations only, never gives 8
--   job-run            the run of an accepted job gives what its steps give as a list of calls
--   steps-run          and so does the run of steps in hand
-- Assumes nothing.
use Prim.Native.Nat.{ℕ, ◌*◌, ◌≤◌}
use mathlib.Core.Path.{◌≡◌, refl, sym, ap, ◌∙◌}
use mathlib.Core.Bool.{true}
use mathlib.Core.List.{List, [], ◌∷◌, ◌++◌}
use lib.ListN.{length}
use Rattle.lists.proofs.BoolLaws.{not-both}
use Rattle.neighbours.specs.Contour.{contour}
use Rattle.model.specs.Refusals.{is_contour, operation_refusal}
use Rattle.model.specs.Calls.{Call, Reply, reply_number, State, lent, with_contour, call, SameQueue}
use Rattle.model.specs.Claims.{MeetAll, done, next, AsModelled, Demand3, contour_length, ContourExact, ContourAccepted}
use Rattle.model.specs.Claims.{RunIsList, JobRun, StepsRun}
use Rattle.model.specs.Run.{run_list, run_steps_unless, run_steps}
use Rattle.model.specs.declared.Step.{Step}
use Rattle.model.specs.declared.Start.TheVariants.{Contour}
use Rattle.theorems.proofs.RefusalLaws.{number_of-eight, operation_refusal-eight}
use Rattle.theorems.proofs.QueueLaws.{holds_contour-iff, same_queue-with_contour-iff}
use Rattle.theorems.proofs.CallLaws.{reply_number-operate, operation-accepted, label_same, agrees-lent}
use Rattle.theorems.proofs.CallLaws.{follows_all, refused-keep}
use Rattle.theorems.proofs.RunLaws.{RunPasses, read_job-passes, steps_refusal-passes, run-accepted, run-same}
use Rattle.theorems.proofs.RunLaws.{run_job-accepted}

-- ---- a list of calls

-- demand 3: any list of calls that each meet their contract, refused ones included, gives what the model gives
pub demand3 : Demand3
demand3 width height image queue image' queue' cs rs ms =
    let f = follows_all width height ms (lent image queue) refl (agrees-lent width height image queue) in
    record { replied = f.replied; pictured = f.pictured; queued = f.agrees.same }

-- a list of calls after its first part: what was done is as modelled, and the rest goes on from there
pub record After (width height : ℕ) (image queue : List ℕ) (cs ds : List Call) (rs : List Reply)
    (image'' queue'' : List ℕ) : Type 0 where
  pub image' : List ℕ
  pub queue' : List ℕ
  pub given : List Reply
  pub to_come : List Reply
  pub split : rs ≡ given ++ to_come
  pub met : MeetAll width height image queue cs given image' queue'
  pub modelled : AsModelled width height image queue cs given image' queue'
  pub rest : MeetAll width height image' queue' ds to_come image'' queue''

-- demand 3 holds after each call of a list
pub demand3-prefix : (width height : ℕ) (image queue image'' queue'' : List ℕ) (cs ds : List Call) (rs : List Reply) →
    MeetAll width height image queue (cs ++ ds) rs image'' queue'' →
    After width height image queue cs ds rs image'' queue''
demand3-prefix width height image queue image'' queue'' [] ds rs ms =
    record {
      image' = image;
      queue' = queue;
      given = [];
      to_come = rs;
      split = refl;
      met = done;
      modelled = demand3 width height image queue image queue [] [] done;
      rest = ms;
    }
demand3-prefix width height image queue image'' queue'' (c ∷ cs) ds [] ms = elim ms [ ]
demand3-prefix width height image queue image'' queue'' (c ∷ cs) ds (r ∷ rs) (next m ms) =
    let k = demand3-prefix width height _ _ image'' queue'' cs ds rs ms in
    let met = next m k.met in
    record {
      image' = k.image';
      queue' = k.queue';
      given = r ∷ k.given;
      to_come = k.to_come;
      split = ap (λ (l : List Reply). r ∷ l) k.split;
      met = met;
      modelled = demand3 width height image queue k.image' k.queue' (c ∷ cs) (r ∷ k.given) met;
      rest = k.rest;
    }

-- ---- the contour handed on

-- after an accepted operation the queue's front of the reported length is exactly the contour, with zeros behind
pub contour-exact : ContourExact
unfolding with_contour
contour-exact width height image queue image' queue' c r o m e =
    let a = operation-accepted width height (lent image queue) c o (ap reply_number (sym m.replied) ∙ e) in
    let pictured : image' ≡ a.after = m.pictured ∙ ap (λ (state : State). state.image) a.left in
    let counted : contour_length r ≡ length (contour width height a.after) =
    ap contour_length m.replied ∙ a.counted in
    let queued : SameQueue queue' (with_contour width height a.after queue) = rw (← a.left) m.queued in
    rw (pictured, counted) ((same_queue-with_contour-iff width height a.after queue queue' a.room).0 queued).1

-- that contour, handed in with its length when only refused operations came between, never gives 8
pub contour-accepted : ContourAccepted
unfolding call
contour-accepted width height image queue image' queue' image'' queue'' image''' queue''' c r cs rs step mask r'
    o m e ms os es m' eight =
    let n = contour_length r in
    let kept = refused-keep width height ms os es in
    let held = ((holds_contour-iff width height image' queue' n).0
    (contour-exact width height image queue image' queue' c r o m e)).0 in
    let handed : is_contour width height image'' queue'' n ≡ true = rw (kept.0, kept.1) held in
    let refusal = operation_refusal width height image'' queue'' step mask (Contour n) in
    let numbered =
    sym (reply_number-operate width height (lent image'' queue'') refusal step mask)
    ∙ ap reply_number (sym m'.replied)
    ∙ eight in
    not-both handed (operation_refusal-eight width height image'' queue'' step mask n
    (number_of-eight refusal numbered))

-- ---- the run of a job and of steps in hand

-- a run whose list passes gives what its steps give as a list of calls
run-is-list : (width height : ℕ) (steps : List Step) (image mask queue : List ℕ) →
    RunPasses width height steps image mask →
    width * height ≤ length queue →
    RunIsList width height steps image mask queue (run_list width height steps image mask queue)
unfolding run_list
run-is-list width height steps image mask queue passes room =
    let run = run-accepted width height steps image mask queue passes room in
    record {
      accepted = refl;
      each = run.0;
      masked = refl;
      contour = run.1.holds;
      list = λ cs rs image' queue' calls accepted ms.
          let same = run-same width height steps image mask queue passes room calls ms accepted in
          (same.0, same.1.pictured);
      next = λ cs rs image' queue' image'' queue'' connectivity component_labels hole_labels records r calls accepted ms
          m.
          let same = run-same width height steps image mask queue passes room calls ms accepted in
          m.replied
          ∙ label_same width height (lent image' queue') _ connectivity component_labels hole_labels records
          same.1.pictured same.1.size;
    }

-- so does the run of an accepted job
pub job-run : JobRun
job-run limit bytes job image mask queue read image_fits mask_fits room =
    rw (run_job-accepted limit bytes job image mask queue read image_fits mask_fits room)
    (run-is-list job.width job.height job.steps job.image job.mask queue
    (read_job-passes limit bytes job read) room)

-- and the run of steps in hand
pub steps-run : StepsRun
unfolding run_steps run_steps_unless
steps-run width height steps image mask queue e =
    let passes = steps_refusal-passes width height steps image mask queue e in
    rw e (run-is-list width height steps image mask queue passes.0 passes.1)
