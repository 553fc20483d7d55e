-- What the answer of reading a job (`heading_in`, of `specs/Answers.antt`) tells of the job. Assumes nothing.
--   job_in                                  the job of an answer
--   heading-accepted, -refused              it is the model's, or the model refuses
--   heading-sides, -pixels, -few            its sides, its pixels and its steps are within the limits
--   heading-unpackable                      its images can be unpacked into buffers that fit
--   unpack_job-refused, -wrong, -accepted   unpacking a job that is refused, into buffers of another length, or done
use Prim.Native.Nat.{ℕ, ◌+◌, ◌-◌, ◌*◌, ◌≤◌}
use mathlib.Core.Path.{◌≡◌, refl, sym, ap, ◌∙◌}
use mathlib.Core.List.{List, [], ◌∷◌}
use Rattle.std.specs.Prelude.{Result, Ok, Err}
use lib.ListN.{length, drop}
use Rattle.neighbours.specs.Crop.{ValidSize}
use Rattle.model.specs.Refusals.{number, refusal, verdict_number, length_check}
use Rattle.model.specs.Codec.{Job, width_field, height_field, packed_length, JobRead, refused_job, accepted_job}
use Rattle.model.specs.Codec.{read_job}
use Rattle.model.specs.Codec.{unpack_unless, unpack_read, unpack_job}
use Rattle.model.specs.declared.Refusal.{Refusal}
use Rattle.theorems.proofs.CodecLaws.{job_of, read_job-accepted, read_job-images}
use Rattle.model.specs.declared.JobHead.{JobHead}
use Rattle.model.specs.StepList.{steps_in}
use Rattle.model.specs.Answers.{Heading, no_heading, heading_in, heading, unpacked_to}
use Rattle.job.specs.Reading.{Unpackable}
use Rattle.job.proofs.ReadingLaws.{answer-refused, answer-accepted, number-not-zero}

-- the job of an answer
abbrev pub job_in : List ℕ → JobHead → Job
job_in bytes head = job_of head.width head.height (steps_in head.steps) (drop head.at bytes)

-- an answer that accepts a job tells the model's, and where its images begin
pub record ReadsAs (limit : ℕ) (bytes : List ℕ) (head : JobHead) : Type 0 where
  pub found : read_job limit bytes ≡ accepted_job (job_in bytes head)
  pub images : head.at + 2 * packed_length head.width head.height ≡ length bytes

module _ (limit : ℕ) (bytes : List ℕ) where
  -- by the case of what the model reads
  reads_as : (head : JobHead) (found : JobRead) → read_job limit bytes ≡ found →
      heading_in (Ok head) ≡ heading bytes found → ReadsAs limit bytes head
  unfolding heading_in heading no_heading
  reads_as head (refused_job r) e told = number-not-zero r (sym (ap (λ (h : Heading). h.number) told))
  reads_as head (accepted_job job) e told =
      let across : head.width ≡ job.width = ap (λ (h : Heading). h.width) told in
      let down : head.height ≡ job.height = ap (λ (h : Heading). h.height) told in
      let steps : steps_in head.steps ≡ job.steps = ap (λ (h : Heading). h.steps) told in
      let images = read_job-images limit bytes job e in
      let at : head.at ≡ length bytes - 2 * packed_length job.width job.height =
      ap (λ (h : Heading). h.at) told in
      record {
        found = e ∙ ap accepted_job (sym images.same) ∙ rw (across, down, steps, at);
        images = rw (across, down, at) images.size;
      }

  refused_as : (r : Refusal) (found : JobRead) → heading_in (Err r) ≡ heading bytes found →
      (o : Refusal) × (found ≡ refused_job o) × (number o ≡ number r)
  unfolding heading_in heading no_heading
  refused_as r (refused_job o) told = (o, refl, sym (ap (λ (h : Heading). h.number) told))
  refused_as r (accepted_job job) told = number-not-zero r (ap (λ (h : Heading). h.number) told)

-- unpacking goes by the refusal's number
unpack_read-refused : (image mask : List ℕ) {v : Result Unit Refusal} {r : Refusal} (o : Refusal) → v ≡ Err r →
    number o ≡ number r → unpacked_to v image mask ≡ unpack_read (refused_job o) image mask
unfolding unpacked_to verdict_number unpack_read
unpack_read-refused image mask o e same = rw (e, same)

module _ (limit : ℕ) (bytes : List ℕ) {read : Result JobHead Refusal}
    (told : heading_in read ≡ heading bytes (read_job limit bytes)) where
  -- an answer that refuses has the number of the model's refusal
  pub heading-refused : {r : Refusal} → read ≡ Err r →
      (o : Refusal) × (read_job limit bytes ≡ refused_job o) × (number o ≡ number r)
  heading-refused {r} e = refused_as limit bytes r (read_job limit bytes) (rw e at told)

  -- one that accepts tells the model's job
  module _ {head : JobHead} (e : read ≡ Ok head) where
    pub heading-accepted : ReadsAs limit bytes head
    heading-accepted = reads_as limit bytes head (read_job limit bytes) refl (rw e at told)

    -- its sides are within the limits
    pub heading-sides : ValidSize head.width head.height
    heading-sides =
        let accepted = read_job-accepted limit bytes (job_in bytes head) heading-accepted.found in
        let across : width_field bytes ≡ head.width = ap (λ (job : Job). job.width) accepted.same in
        let down : height_field bytes ≡ head.height = ap (λ (job : Job). job.height) accepted.same in
        rw (← across, ← down) accepted.head.valid

    -- its pixels are within the limit given
    pub heading-pixels : head.width * head.height ≤ limit
    heading-pixels =
        let accepted = read_job-accepted limit bytes (job_in bytes head) heading-accepted.found in
        rw (← (ap (λ (job : Job). job.width * job.height) accepted.same)) accepted.head.pixels

    -- its images can be unpacked into buffers that fit
    pub heading-unpackable : {image mask : List ℕ} → length image ≡ head.width * head.height →
        length mask ≡ head.width * head.height → Unpackable head.width head.height bytes head.at image mask
    heading-unpackable image mask =
        record {
          images = heading-accepted.images;
          sized = record { valid = heading-sides; pixels = image };
          masked = record { valid = heading-sides; pixels = mask };
        }

  module _ (image mask : List ℕ) where
    -- a refused job leaves the buffers as they are
    pub unpack_job-refused : {v : Result Unit Refusal} {r : Refusal} → read ≡ Err r → v ≡ Err r →
        unpacked_to v image mask ≡ unpack_job limit bytes image mask
    unfolding unpack_job
    unpack_job-refused e f =
        let (o, found, same) = heading-refused e in
        unpack_read-refused image mask o f same ∙ ap (λ (found : JobRead). unpack_read found image mask) (sym found)

    module _ {head : JobHead} (e : read ≡ Ok head) {judged : Result Unit Refusal}
        (answers : refusal judged ≡ length_check (head.width * head.height) (image ∷ mask ∷ [])) where
      -- and so do buffers of another length
      pub unpack_job-wrong : {v : Result Unit Refusal} {r : Refusal} → judged ≡ Err r → v ≡ Err r →
          unpacked_to v image mask ≡ unpack_job limit bytes image mask
      unfolding unpacked_to verdict_number unpack_job unpack_read unpack_unless
      unpack_job-wrong f g = rw (g, (heading-accepted e).found, answer-refused answers f)

      -- otherwise the images are unpacked
      pub unpack_job-accepted : {x : Unit} → judged ≡ Ok x →
          unpacked_to (Ok tt) (job_in bytes head).image (job_in bytes head).mask
          ≡ unpack_job limit bytes image mask
      unfolding unpacked_to verdict_number unpack_job unpack_read unpack_unless
      unpack_job-accepted f = rw ((heading-accepted e).found, answer-accepted answers f)
