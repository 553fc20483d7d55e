-- The limits of document 01, each in one place. Those on a crop's sides and pixels are in the crate
-- `neighbours`. Definitions only.
use Rattle.std.specs.Prelude.{ℕ, ◌+◌, ◌*◌}

-- The largest number of components, and of holes, that a map of 16-bit labels can hold (02, Point 1). A crop of
-- at most `u16_limit` pixels has no more: `LabelsFit`
abbrev pub max_labels : ℕ
max_labels = 65535

-- the entries of a component's record
abbrev pub record_length : ℕ
record_length = 10

-- ---- jobs

-- the largest width and height of a crop in a job
abbrev pub max_job_side : ℕ
max_job_side = 256

-- the steps of a job
abbrev pub max_steps : ℕ
max_steps = 32

-- what a field of 16 bits stays below
abbrev pub u16_limit : ℕ
u16_limit = 65536

-- ---- the lane program

-- the pixels that it takes, and the records that it keeps
abbrev pub lane_pixels : ℕ
lane_pixels = 8192

abbrev pub lane_records : ℕ
lane_records = 1024

-- no line of its listing is longer
abbrev pub line_room : ℕ
line_room = 256

-- a line of the plate, one for each step, one of parts, one for each record
abbrev pub listing_room : ℕ
listing_room = line_room * (2 + max_steps + lane_records)
