-- Laws of a job's bytes (`specs/Codec.antt`: `job_bytes`). Assumes nothing.
--   Fields                               the bytes hold the fields of a job, each in its place
--   job_bytes-fields, fields-job_bytes   a job's bytes do, and no other bytes do
--   length_fields                        bytes that do have the job's length
--   images-packed, job_of-packed         the images of a job that writing does not refuse are read as they are
--   job_of-images                        images that are read, packed again, are the bytes that they were read from
use Prim.Native.Nat.{ℕ, ◌*◌, ◌≤◌}
use mathlib.Core.Path.{◌≡◌, refl, ap, ◌∙◌}
use mathlib.Core.List.{List, [], ◌∷◌, ◌++◌, flat_map, append_assoc}
use native.Mathlib.Omega.{arith}
use lib.ListN.{length, get_or, take, drop, length-append, length-drop, take-append-drop}
use lib.Seq.{take_at, drop_at, length-take-le}
use Rattle.lists.specs.Lists.{count_from, tabulate}
use Rattle.lists.proofs.ListLaws.{tabulate-append-drop}
use Rattle.neighbours.proofs.PackedLaws.{Units, units-front, units-behind, length-packed, padding_set-packed}
use Rattle.neighbours.proofs.PackedLaws.{unpacked-packed, packed-unpacked}
use Rattle.model.specs.Codec.{Job, u16_bytes, u16_at, byte_bits, packed_length, packed, step_bytes, job_length}
use Rattle.model.specs.Codec.{job_bytes}
use Rattle.model.specs.declared.Step.{Step}
use Rattle.theorems.proofs.StepCodecLaws.{u16-value, u16_bytes-u16_at}
use Rattle.theorems.proofs.CodecLaws.{Writable, Images, job_of}

-- ---- the two images

-- the two images of a job, packed
abbrev pub packed_images : Job → List ℕ
packed_images job = packed job.width job.height job.image ++ packed job.width job.height job.mask

-- and their bytes
pub length-packed_images : (job : Job) → length (packed_images job) ≡ 2 * packed_length job.width job.height
length-packed_images job =
    omega (
      arith,
      length-append (packed job.width job.height job.image) (packed job.width job.height job.mask),
      length-packed byte_bits job.width job.height job.image,
      length-packed byte_bits job.width job.height job.mask,
    )

-- ---- a job's bytes, field by field

-- the bytes hold the fields of the job, each in its place
pub record Fields (job : Job) (bytes : List ℕ) : Type 0 where
  pub long : 8 ≤ length bytes
  pub version : get_or bytes 0 0 ≡ 1
  pub size : u16_at bytes 1 ≡ job_length job
  pub width : u16_at bytes 3 ≡ job.width
  pub height : u16_at bytes 5 ≡ job.height
  pub count : get_or bytes 7 0 ≡ length job.steps
  pub behind : drop 8 bytes ≡ flat_map step_bytes job.steps ++ packed_images job

-- a job's bytes hold its fields
pub job_bytes-fields : (job : Job) → Fields job (job_bytes job)
unfolding job_bytes u16_bytes u16_at
job_bytes-fields job =
    record {
      long = omega arith;
      version = refl;
      size = u16-value (job_length job);
      width = u16-value job.width;
      height = u16-value job.height;
      count = refl;
      behind = append_assoc (flat_map step_bytes job.steps) _ _;
    }

-- bytes that hold the fields of a job are the job's
pub fields-job_bytes : (job : Job) (bytes : List ℕ) → Units byte_bits bytes → Fields job bytes →
    job_bytes job ≡ bytes
unfolding job_bytes tabulate count_from
fields-job_bytes job bytes small f =
    let size : u16_bytes (job_length job) ≡ get_or bytes 1 0 ∷ get_or bytes 2 0 ∷ [] =
    rw (← f.size) (u16_bytes-u16_at bytes 1 small) in
    let width : u16_bytes job.width ≡ get_or bytes 3 0 ∷ get_or bytes 4 0 ∷ [] =
    rw (← f.width) (u16_bytes-u16_at bytes 3 small) in
    let height : u16_bytes job.height ≡ get_or bytes 5 0 ∷ get_or bytes 6 0 ∷ [] =
    rw (← f.height) (u16_bytes-u16_at bytes 5 small) in
    rw (size, width, height, ← f.count, append_assoc (flat_map step_bytes job.steps) _ _, ← f.behind)
    (rw f.version at (tabulate-append-drop 8 bytes f.long))

-- bytes that hold the job's step records and images behind a head have the job's length
pub length_fields : (job : Job) (bytes : List ℕ) → 8 ≤ length bytes →
    drop 8 bytes ≡ flat_map step_bytes job.steps ++ packed_images job →
    length bytes ≡ job_length job
unfolding job_length
length_fields job bytes long behind =
    omega (
      arith,
      length-drop 8 bytes,
      ap length behind,
      length-packed_images job,
      length-append (flat_map step_bytes job.steps) (packed_images job),
    )

-- ---- the two images, written and read

module _ (job : Job) (buffer : List ℕ) (w : Writable job buffer) where
  -- each packed image stands where it is read
  front-images : take (packed_length job.width job.height) (packed_images job)
      ≡ packed job.width job.height job.image
  front-images = take_at _ _ _ (length-packed byte_bits job.width job.height job.image)

  behind-images : drop (packed_length job.width job.height) (packed_images job)
      ≡ packed job.width job.height job.mask
  behind-images = drop_at (packed job.width job.height job.image) _ _
      (length-packed byte_bits job.width job.height job.image)

  -- the packed images are not refused
  pub images-packed : Images job.width job.height (packed_images job)
  images-packed =
      record {
        size = length-packed_images job;
        image = rw front-images (padding_set-packed byte_bits _ _ job.image (omega arith) w.image.bits);
        mask = rw behind-images (padding_set-packed byte_bits _ _ job.mask (omega arith) w.mask.bits);
      }

  -- and are read as the job's own
  pub job_of-packed : job_of job.width job.height job.steps (packed_images job) ≡ job
  job_of-packed =
      let wide = w.valid.wide in
      rw (
        front-images,
        behind-images,
        unpacked-packed byte_bits _ _ job.image (omega arith) wide w.image.pixels w.image.bits,
        unpacked-packed byte_bits _ _ job.mask (omega arith) wide w.mask.pixels w.mask.bits,
      )

-- images that are read, packed again, are the bytes that they were read from
pub job_of-images : (width height : ℕ) (steps : List Step) (behind : List ℕ) → 1 ≤ width →
    Units byte_bits behind → Images width height behind →
    packed_images (job_of width height steps behind) ≡ behind
job_of-images width height steps behind wide small images =
    let n = packed_length width height in
    let image = take n behind in
    let mask = drop n behind in
    let both : Units byte_bits (image ++ mask) = rw take-append-drop small in
    let image_size : length image ≡ n = length-take-le n behind (omega (arith, images.size)) in
    let mask_size : length mask ≡ n = length-drop n behind ∙ omega (arith, images.size) in
    let image_bytes = units-front byte_bits image mask both in
    let mask_bytes = units-behind byte_bits image mask both in
    rw (
      packed-unpacked byte_bits width height image (omega arith) wide image_size image_bytes images.image,
      packed-unpacked byte_bits width height mask (omega arith) wide mask_size mask_bytes images.mask,
    )
    (take-append-drop n behind)
