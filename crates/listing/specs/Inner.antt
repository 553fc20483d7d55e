-- What the functions that list a job require. Only inner contracts cite these. Definitions only.
--   HasRecords   there are ten entries for each of so many components
--   Listed       what is listed, and room for it
--   Listable     a job that can be run and listed
use Rattle.std.specs.Prelude.{ℕ, ◌*◌, ◌≤◌, ◌≡◌, List, length, replicate, Ok}
use Rattle.neighbours.specs.Crop.{ValidSize}
use Rattle.model.specs.Limits.{record_length, max_steps, lane_pixels, lane_records, listing_room}
use Rattle.model.specs.Codec.{read_job}
use Rattle.model.specs.Answers.{heading, heading_in}
use Rattle.model.specs.declared.JobHead.{JobHead}

-- ten entries for each of so many components, no more than the lane program lists
pub record HasRecords (count : ℕ) (records : List ℕ) : Type 0 where
  pub few : count ≤ lane_records
  pub room : record_length * count ≤ length records

-- a job's size, its steps and the components of its last image, within the limits, and room for the longest listing
pub record Listed (width height steps components : ℕ) (records listing : List ℕ) : Type 0 where
  pub valid : ValidSize width height
  pub few_steps : steps ≤ max_steps
  pub recorded : HasRecords components records
  pub room : length listing ≡ listing_room

-- a job that was read from the bytes and accepted, buffers of its size for its images, and workspaces of zeros
pub record Listable (bytes : List ℕ) (job : JobHead) (image mask queue cs hs recs listing : List ℕ) : Type 0 where
  pub told : heading_in (Ok job) ≡ heading bytes (read_job lane_pixels bytes)
  pub pictured : length image ≡ job.width * job.height
  pub masked : length mask ≡ job.width * job.height
  pub queued : queue ≡ replicate (job.width * job.height) 0
  pub components : cs ≡ replicate (job.width * job.height) 0
  pub holes : hs ≡ replicate (job.width * job.height) 0
  pub records : recs ≡ replicate (record_length * lane_records) 0
  pub room : length listing ≡ listing_room
