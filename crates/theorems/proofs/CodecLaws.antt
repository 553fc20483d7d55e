-- Laws of what refuses a job that is written or read (`specs/Codec.antt`). Assumes nothing.
--   Writable                                 what writing asks of a job and a buffer
--   write_refusal-none, none-write_refusal   writing does not refuse exactly that
--   Head, Images                             what reading asks of a job's head, and of what stands behind its
--                                            step records
--   head_refusal-none, none-head_refusal, images_refusal-none, none-images_refusal   reading does not refuse exactly
--                                            that
--   step_refusal-inside                       the bytes of a step record that is not refused are there
--   read_steps-behind                         what stands behind step records that are read is the end of their bytes
--   Accepted, read_job-accepted               what an accepted job tells of its bytes
--   ImagesFrom, read_job-images               its packed images are the end of them
--   accepted-read_job                         the job that is read
use Prim.Native.Nat.{ℕ, zero, suc, ◌+◌, ◌-◌, ◌*◌, ◌≤◌, ◌<◌}
use mathlib.Core.Path.{◌≡◌, refl, sym, ap, subst, ◌∙◌}
use mathlib.Core.Bool.{false, not}
use mathlib.Core.List.{List, [], ◌∷◌, flat_map}
use mathlib.Core.Option.{none}
use native.Mathlib.Omega.{arith}
use lib.Dec.{eqb, ltb}
use lib.ListN.{length, get_or, take, drop, length-drop}
use lib.Seq.{drop-drop}
use borrow.Author.Tests.{leb-false, ltb-false, le-ltb, eqb-true, eq-eqb, ne_eqb, not-false}
use Rattle.lists.specs.Lists.{any, Each}
use Rattle.lists.proofs.BoolLaws.{or-false-left, or-false-right, or-false-both}
use Rattle.lists.proofs.ListLaws.{any-false-each, each-any-false}
use Rattle.neighbours.specs.Crop.{ValidSize, Binary}
use Rattle.model.specs.Limits.{max_steps}
use Rattle.model.specs.Refusals.{first_refusal, bad_pixel, wrong_length, step_checks}
use Rattle.model.specs.Codec.{step_at, step_refusal, cons_step}
use Rattle.model.specs.Codec.{Job, u16_at, packed_length, unpacked, padding_set, job_length, write_refusal, StepsRead}
use Rattle.model.specs.Codec.{refused_steps}
use Rattle.model.specs.Codec.{accepted_steps, read_steps, refused_job, accepted_job, head_refusal, images_refusal}
use Rattle.model.specs.Codec.{read_images, read_job}
use Rattle.model.specs.declared.Refusal.{Refusal}
use Rattle.model.specs.declared.Step.{Step}
use Rattle.theorems.proofs.RefusalLaws.{sides-iff, wrong_length-iff}
use Rattle.theorems.proofs.CheckLaws.{by-refusal, first_refusal-nil, first_refusal-cons, first_refusal-none-cons}
use Rattle.theorems.proofs.CheckLaws.{first_refusal-append}
use Rattle.theorems.proofs.CheckLaws.{first_refusal-none-left, first_refusal-none-right, first_refusal-flat_map}
use Rattle.theorems.proofs.CheckLaws.{flat_map-first_refusal}
use Rattle.theorems.proofs.OperationLaws.{bad_pixel-none-iff}

-- ---- the conditions

-- ---- writing

-- what writing a job asks
pub record Writable (job : Job) (buffer : List ℕ) : Type 0 where
  pub valid : ValidSize job.width job.height
  pub few : length job.steps ≤ max_steps
  pub pass : Each (λ step. first_refusal (step_checks job.width job.height step) ≡ none) job.steps
  pub image : Binary job.width job.height job.image
  pub mask : Binary job.width job.height job.mask
  pub size : length buffer ≡ job_length job

-- writing does not refuse exactly that
pub write_refusal-none : (job : Job) (buffer : List ℕ) → write_refusal job buffer ≡ none → Writable job buffer
unfolding write_refusal
write_refusal-none job buffer e =
    let n = job.width * job.height in
    let images = job.image ∷ job.mask ∷ [] in
    let steps = flat_map (step_checks job.width job.height) job.steps in
    let side = first_refusal-none-cons _ _ _ e in
    let many = first_refusal-none-cons _ _ _ side.1 in
    let behind = first_refusal-none-cons _ _ _ (first_refusal-none-right steps _ many.1) in
    let lengths = any-false-each (wrong_length n) images (or-false-left _ _ behind.0) in
    let pixels = any-false-each (any bad_pixel) images (first_refusal-none-cons _ _ _ behind.1).0 in
    record {
      valid = (sides-iff job.width job.height).0 side.0;
      few = ltb-false _ _ many.0;
      pass = first_refusal-flat_map (step_checks job.width job.height) job.steps
          (first_refusal-none-left steps _ many.1);
      image = record {
        pixels = (wrong_length-iff n job.image).0 lengths.0;
        bits = (bad_pixel-none-iff job.image).0 pixels.0;
      };
      mask = record {
        pixels = (wrong_length-iff n job.mask).0 lengths.1.0;
        bits = (bad_pixel-none-iff job.mask).0 pixels.1.0;
      };
      size = (wrong_length-iff (job_length job) buffer).0 (or-false-right (any (wrong_length n) images) _ behind.0);
    }

pub none-write_refusal : (job : Job) (buffer : List ℕ) → Writable job buffer → write_refusal job buffer ≡ none
unfolding write_refusal
none-write_refusal job buffer w =
    let n = job.width * job.height in
    let images = job.image ∷ job.mask ∷ [] in
    let lengths =
    each-any-false (wrong_length n) images
    ((wrong_length-iff n job.image).1 w.image.pixels, ((wrong_length-iff n job.mask).1 w.mask.pixels, tt)) in
    let pixels =
    each-any-false (any bad_pixel) images
    ((bad_pixel-none-iff job.image).1 w.image.bits, ((bad_pixel-none-iff job.mask).1 w.mask.bits, tt)) in
    first_refusal-cons _ _ _ ((sides-iff job.width job.height).1 w.valid)
    ∙ first_refusal-cons _ _ _ (le-ltb _ _ w.few)
    ∙ first_refusal-append (flat_map (step_checks job.width job.height) job.steps) _
    (flat_map-first_refusal _ job.steps w.pass)
    ∙ first_refusal-cons _ _ _ (or-false-both _ _ lengths ((wrong_length-iff (job_length job) buffer).1 w.size))
    ∙ first_refusal-cons _ _ _ pixels
    ∙ first_refusal-nil

-- ---- reading the head

-- what a job's head tells: the version, that the length is the whole one, sides and a step total within the limits
pub record Head (limit : ℕ) (bytes : List ℕ) : Type 0 where
  pub version : get_or bytes 0 0 ≡ 1
  pub long : 8 ≤ length bytes
  pub size : u16_at bytes 1 ≡ length bytes
  pub valid : ValidSize (u16_at bytes 3) (u16_at bytes 5)
  pub pixels : u16_at bytes 3 * u16_at bytes 5 ≤ limit
  pub few : get_or bytes 7 0 ≤ max_steps

-- the head is not refused exactly if it tells that
pub head_refusal-none : (limit : ℕ) (bytes : List ℕ) → head_refusal limit bytes ≡ none → Head limit bytes
unfolding head_refusal
head_refusal-none limit bytes e =
    let version = first_refusal-none-cons _ _ _ e in
    let size = first_refusal-none-cons _ _ _ version.1 in
    let valid = first_refusal-none-cons _ _ _ size.1 in
    let pixels = first_refusal-none-cons _ _ _ valid.1 in
    let few = first_refusal-none-cons _ _ _ pixels.1 in
    record {
      version = eqb-true _ _ (not-false _ (or-false-right (eqb (length bytes) 0) _ version.0));
      long = ltb-false _ _ (or-false-left (ltb (length bytes) 8) _ size.0);
      size = eqb-true _ _ (not-false _ (or-false-right (ltb (length bytes) 8) _ size.0));
      valid = (sides-iff _ _).0 valid.0;
      pixels = ltb-false _ _ pixels.0;
      few = ltb-false _ _ few.0;
    }

pub none-head_refusal : (limit : ℕ) (bytes : List ℕ) → Head limit bytes → head_refusal limit bytes ≡ none
unfolding head_refusal
none-head_refusal limit bytes h =
    first_refusal-cons _ _ _
    (or-false-both _ _ (ne_eqb (length bytes) 0 (λ e. omega (arith, h.long))) (ap not (eq-eqb _ _ h.version)))
    ∙ first_refusal-cons _ _ _ (or-false-both _ _ (le-ltb (length bytes) 8 h.long) (ap not (eq-eqb _ _ h.size)))
    ∙ first_refusal-cons _ _ _ ((sides-iff _ _).1 h.valid)
    ∙ first_refusal-cons _ _ _ (le-ltb limit _ h.pixels)
    ∙ first_refusal-cons _ _ _ (le-ltb max_steps _ h.few)
    ∙ first_refusal-nil

-- ---- reading the images

-- what the bytes behind the step records tell: two packed images of those sides, with no padding bit set
pub record Images (width height : ℕ) (bytes : List ℕ) : Type 0 where
  pub size : length bytes ≡ 2 * packed_length width height
  pub image : padding_set width height (take (packed_length width height) bytes) ≡ false
  pub mask : padding_set width height (drop (packed_length width height) bytes) ≡ false

module _ (width height : ℕ) (bytes : List ℕ) where
  -- they are not refused exactly if they tell that
  pub images_refusal-none : images_refusal width height bytes ≡ none → Images width height bytes
  unfolding images_refusal
  images_refusal-none e =
      let first = padding_set width height (take (packed_length width height) bytes) in
      let size = first_refusal-none-cons _ _ _ e in
      let clear = first_refusal-none-cons _ _ _ size.1 in
      record {
        size = eqb-true _ _ (not-false _ size.0);
        image = or-false-left first _ clear.0;
        mask = or-false-right first _ clear.0;
      }

  pub none-images_refusal : Images width height bytes → images_refusal width height bytes ≡ none
  unfolding images_refusal
  none-images_refusal i =
      first_refusal-cons _ _ _ (ap not (eq-eqb _ _ i.size))
      ∙ first_refusal-cons _ _ _ (or-false-both _ _ i.image i.mask)
      ∙ first_refusal-nil

-- ---- reading step records

module _ (width height : ℕ) where
  -- the bytes of a record that is not refused are there
  pub step_refusal-inside : (bytes : List ℕ) → step_refusal width height bytes ≡ none → get_or bytes 0 0 < length bytes
  unfolding step_refusal
  step_refusal-inside bytes e = leb-false _ _ (first_refusal-none-cons _ _ _ e).0

  -- what stands behind records that are read is the end of their bytes
  abbrev EndOf : List ℕ → StepsRead → Type 0
  EndOf bytes (refused_steps refusal) = Unit {0}
  EndOf bytes (accepted_steps steps behind) =
      (length behind ≤ length bytes) × (behind ≡ drop (length bytes - length behind) bytes)

  -- also with one record more before them
  end_of-cons : (bytes : List ℕ) (n : ℕ) (step : Step) (read : StepsRead) → n ≤ length bytes →
      EndOf (drop n bytes) read →
      EndOf bytes (cons_step step read)
  unfolding cons_step
  end_of-cons bytes n step (refused_steps refusal) inside end = tt
  end_of-cons bytes n step (accepted_steps steps behind) inside end =
      let size = length-drop n bytes in
      let from : n + (length (drop n bytes) - length behind) ≡ length bytes - length behind =
      omega (arith, size, end.0) in
      (omega (arith, size, end.0), end.1 ∙ drop-drop _ n bytes ∙ ap (λ (k : ℕ). drop k bytes) from)

  read_steps-end : (n : ℕ) (bytes : List ℕ) → EndOf bytes (read_steps width height n bytes)
  unfolding read_steps
  read_steps-end zero bytes =
      let none_dropped : length bytes - length bytes ≡ 0 = omega arith in (omega arith, rw none_dropped)
  read_steps-end (suc n) bytes =
      let next = 1 + get_or bytes 0 0 in
      by-refusal (step_refusal width height bytes)
      (λ e.
      let inside : next ≤ length bytes = omega (arith, step_refusal-inside bytes e) in
      rw (e, EndOf) (end_of-cons bytes next (step_at bytes) _ inside (read_steps-end n (drop next bytes))))
      (λ refusal e. rw (e, EndOf) tt)

  pub read_steps-behind : (n : ℕ) (bytes : List ℕ) (steps : List Step) (behind : List ℕ) →
      read_steps width height n bytes ≡ accepted_steps steps behind →
      (length behind ≤ length bytes) × (behind ≡ drop (length bytes - length behind) bytes)
  read_steps-behind n bytes steps behind e = subst (EndOf bytes) e (read_steps-end n bytes)

-- ---- reading a job

-- the job of these sides and steps with the images that the bytes behind the steps hold
abbrev pub job_of : ℕ → ℕ → List Step → List ℕ → Job
job_of width height steps behind =
    record {
      width = width;
      height = height;
      steps = steps;
      image = unpacked width height (take (packed_length width height) behind);
      mask = unpacked width height (drop (packed_length width height) behind);
    }

-- what an accepted job tells: its head, the steps that are read, the bytes behind them, and that it is the job of these
pub record Accepted (limit : ℕ) (bytes : List ℕ) (job : Job) : Type 0 where
  pub head : Head limit bytes
  pub steps : List Step
  pub behind : List ℕ
  pub records : read_steps (u16_at bytes 3) (u16_at bytes 5) (get_or bytes 7 0)
      (drop 8 bytes) ≡ accepted_steps steps behind
  pub images : Images (u16_at bytes 3) (u16_at bytes 5) behind
  pub same : job_of (u16_at bytes 3) (u16_at bytes 5) steps behind ≡ job

-- a refused job is no accepted one
refused-accepted {ℓ} : {C : Type ℓ} (refusal : Refusal) (job : Job) → refused_job refusal ≡ accepted_job job → C
refused-accepted refusal job e = let z : ◌≡◌ {A = ℕ} 0 1 = cc in absurd (omega arith)

-- the images of an accepted job stand behind steps that are read
read_images-accepted : (width height : ℕ) (read : StepsRead) (job : Job) →
    read_images width height read ≡ accepted_job job →
    (steps : List Step) × (behind : List ℕ) × (read ≡ accepted_steps steps behind) × Images width height behind
    × (job_of width height steps behind ≡ job)
unfolding read_images
read_images-accepted width height (refused_steps refusal) job e = refused-accepted refusal job e
read_images-accepted width height (accepted_steps steps behind) job e =
    by-refusal (images_refusal width height behind)
    (λ passes.
    let read : read_images width height (accepted_steps steps behind) ≡ accepted_job
    (job_of width height steps behind) =
    rw (passes, read_images) in
    (steps, behind, refl, images_refusal-none width height behind passes, cc))
    (λ refusal refused.
    let read : read_images width height (accepted_steps steps behind) ≡ refused_job refusal = rw
    (refused, read_images) in
    refused-accepted refusal job (sym read ∙ e))

-- what an accepted job tells of its bytes
pub read_job-accepted : (limit : ℕ) (bytes : List ℕ) (job : Job) → read_job limit bytes ≡ accepted_job job →
    Accepted limit bytes job
unfolding read_job
read_job-accepted limit bytes job e =
    let width = u16_at bytes 3 in
    let height = u16_at bytes 5 in
    let records = read_steps width height (get_or bytes 7 0) (drop 8 bytes) in
    by-refusal (head_refusal limit bytes)
    (λ passes.
    let read : read_job limit bytes ≡ read_images width height records = rw (passes, read_job) in
    let found = read_images-accepted width height records job (sym read ∙ e) in
    record {
      head = head_refusal-none limit bytes passes;
      steps = found.0;
      behind = found.1;
      records = found.2;
      images = found.3;
      same = found.4;
    })
    (λ refusal refused.
    let read : read_job limit bytes ≡ refused_job refusal = rw (refused, read_job) in
    refused-accepted refusal job (sym read ∙ e))

-- the packed images of a job are the bytes from `at` on
pub record ImagesFrom (bytes : List ℕ) (job : Job) (at : ℕ) : Type 0 where
  pub size : at + 2 * packed_length job.width job.height ≡ length bytes
  pub same : job_of job.width job.height job.steps (drop at bytes) ≡ job

-- those of an accepted job are the end of its bytes
pub read_job-images : (limit : ℕ) (bytes : List ℕ) (job : Job) → read_job limit bytes ≡ accepted_job job →
    ImagesFrom bytes job (length bytes - 2 * packed_length job.width job.height)
read_job-images limit bytes job e =
    let a = read_job-accepted limit bytes job e in
    let width = u16_at bytes 3 in
    let height = u16_at bytes 5 in
    let n = 2 * packed_length width height in
    let records = read_steps-behind width height (get_or bytes 7 0) (drop 8 bytes) a.steps a.behind a.records in
    let long = length-drop 8 bytes in
    let head = a.head.long in
    let before = length (drop 8 bytes) - length a.behind in
    let from : 8 + before ≡ length bytes - n = omega (arith, a.images.size, records.0) in
    let behind : a.behind ≡ drop (length bytes - n) bytes =
    records.1 ∙ drop-drop before 8 bytes ∙ ap (λ (k : ℕ). drop k bytes) from in
    subst (λ (job : Job). ImagesFrom bytes job (length bytes - 2 * packed_length job.width job.height)) a.same
    (record {
      size = omega (arith, a.images.size, records.0);
      same = ap (job_of width height a.steps) (sym behind);
    })

-- a head, step records and images that are not refused are read as their job
pub accepted-read_job : (limit : ℕ) (bytes : List ℕ) (steps : List Step) (behind : List ℕ) → Head limit bytes →
    read_steps (u16_at bytes 3) (u16_at bytes 5) (get_or bytes 7 0) (drop 8 bytes) ≡ accepted_steps steps behind →
    Images (u16_at bytes 3) (u16_at bytes 5) behind →
    read_job limit bytes ≡ accepted_job (job_of (u16_at bytes 3) (u16_at bytes 5) steps behind)
unfolding read_job read_images
accepted-read_job limit bytes steps behind head records images =
    rw (none-head_refusal limit bytes head, read_job, records, none-images_refusal _ _ behind images, read_images)
