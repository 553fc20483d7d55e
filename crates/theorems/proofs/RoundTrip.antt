-- The round trip of demand 2 (`specs/Claims.antt`). Assumes nothing.
--   written-reads-back     a written job reads back as itself
--   written-as-bytes       and is written as bytes
--   read-writes-back       an accepted job, written again, has the same bytes
use Prim.Native.Nat.{ℕ}
use mathlib.Core.Path.{refl, sym, ap, ◌∙◌}
use mathlib.Core.List.{List, ◌++◌, flat_map}
use lib.ListN.{get_or, take, drop, take-append-drop}
use Rattle.neighbours.specs.Limits.{max_pixels}
use Rattle.neighbours.proofs.PackedLaws.{Units, units-behind, unpacked-binary}
use Rattle.model.specs.Claims.{WrittenReadsBack, WrittenAsBytes, ReadWritesBack}
use Rattle.model.specs.Codec.{Job, u16_at, byte_bits, step_bytes, job_bytes, accepted_job}
use Rattle.theorems.proofs.CodecLaws.{Writable, write_refusal-none, none-write_refusal, Head, job_of, Accepted}
use Rattle.theorems.proofs.CodecLaws.{read_job-accepted}
use Rattle.theorems.proofs.CodecLaws.{accepted-read_job}
use Rattle.theorems.proofs.JobBytesLaws.{packed_images, Fields, job_bytes-fields, fields-job_bytes, length_fields}
use Rattle.theorems.proofs.JobBytesLaws.{images-packed}
use Rattle.theorems.proofs.JobBytesLaws.{job_of-packed, job_of-images}
use Rattle.theorems.proofs.LimitLaws.{size-le, job_bytes-bytes}
use Rattle.theorems.proofs.StepCodecLaws.{read_steps-step_bytes, ReadBack, read_steps-accepted}

-- ---- written and read

-- a written job's head is not refused
written-head : (job : Job) (buffer : List ℕ) → Writable job buffer → Head max_pixels (job_bytes job)
written-head job buffer w =
    let f = job_bytes-fields job in
    record {
      version = f.version;
      long = f.long;
      size = f.size ∙ sym (length_fields job (job_bytes job) f.long f.behind);
      valid = rw (f.width, f.height) w.valid;
      pixels = rw (f.width, f.height) (size-le w.valid.narrow w.valid.low);
      few = rw f.count w.few;
    }

-- a written job reads back as itself
pub written-reads-back : WrittenReadsBack
written-reads-back job buffer e =
    let w = write_refusal-none job buffer e in
    let f = job_bytes-fields job in
    let records = read_steps-step_bytes job.width job.height job.steps (packed_images job) w.pass in
    accepted-read_job max_pixels (job_bytes job) job.steps (packed_images job) (written-head job buffer w)
    (rw (f.width, f.height, f.count, f.behind) records)
    (rw (f.width, f.height) (images-packed job buffer w))
    ∙ rw (f.width, f.height) (ap accepted_job (job_of-packed job buffer w))

-- and is written as bytes
pub written-as-bytes : WrittenAsBytes
written-as-bytes job buffer e fits = job_bytes-bytes job buffer fits e

-- ---- read and written

module _ (limit : ℕ) (bytes : List ℕ) (job : Job) (small : Units byte_bits bytes)
    (a : Accepted limit bytes job) where
  -- what stands behind the head is bytes too
  behind-head : Units byte_bits (drop 8 bytes)
  behind-head = units-behind byte_bits (take 8 bytes) (drop 8 bytes) (rw take-append-drop small)

  -- the step records are those of the steps that are read
  read_back : ReadBack (u16_at bytes 3) (u16_at bytes 5) (get_or bytes 7 0) (drop 8 bytes) a.steps a.behind
  read_back = read_steps-accepted _ _ _ (drop 8 bytes) _ _ behind-head a.records

  -- the bytes hold the fields of the job that is read
  read-fields : Fields (job_of (u16_at bytes 3) (u16_at bytes 5) a.steps a.behind) bytes
  read-fields =
      let records = flat_map step_bytes a.steps in
      let images = job_of-images _ _ a.steps a.behind a.head.valid.wide
      (units-behind byte_bits records a.behind (rw read_back.written behind-head)) a.images in
      let behind = sym read_back.written ∙ ap (λ (l : List ℕ). records ++ l) (sym images) in
      record {
        long = a.head.long;
        version = a.head.version;
        size = a.head.size ∙ length_fields _ bytes a.head.long behind;
        width = refl;
        height = refl;
        count = sym read_back.count;
        behind = behind;
      }

  -- which writing does not refuse
  read-writable : Writable (job_of (u16_at bytes 3) (u16_at bytes 5) a.steps a.behind) bytes
  read-writable =
      record {
        valid = a.head.valid;
        few = rw read_back.count a.head.few;
        pass = read_back.pass;
        image = unpacked-binary byte_bits _ _ _;
        mask = unpacked-binary byte_bits _ _ _;
        size = sym a.head.size ∙ read-fields.size;
      }

-- an accepted job, written again, has the same bytes, and is not refused
pub read-writes-back : ReadWritesBack
read-writes-back limit bytes job small e =
    let a = read_job-accepted limit bytes job e in
    rw (← a.same) (
      fields-job_bytes _ bytes small (read-fields limit bytes job small a),
      none-write_refusal _ bytes (read-writable limit bytes job small a),
    )
